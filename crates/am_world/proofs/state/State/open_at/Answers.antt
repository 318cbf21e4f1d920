use Rattle.std.proofs.Common.{◌∙◌, ap, sym}
use Rattle.am_ring.specs.Instances.{is_among}
use Rattle.am_instance.specs.Shelves.{shelf_of}
use Rattle.am_world.proofs.Opened.{first_at, stays_shut}
use Rattle.am_world.proofs.state.State.open_at.Goals as goal

pub returns-then-not-contains-clause-opens : goal.returns-then-not-contains-clause-opens
returns-then-not-contains-clause-opens g c =
    let w = c.args.self.now in
    let first = first_at w.common.rings.items c.index.result.now c.requires.ring c.index.ensures in
    stays_shut c.args.number (shelf_of g.R.Rows c.args.store.now) w c.requires.numbered
    (ap (is_among c.args.number) first
    ∙ ap (λ i. is_among i c.index.result.now.instances) (sym c.number.ensures.number)
    ∙ sym c.contains.ensures ∙ c.if-not-contains.true)
