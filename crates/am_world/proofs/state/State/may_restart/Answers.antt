use Rattle.std.proofs.Common.{◌∙◌, ap, false, not, refl, sym, true}
use Rattle.am_ring.specs.Instances.{is_among}
use Rattle.am_world.specs.Places.{up_at}
use Rattle.am_world.proofs.RestartTaken.{down_known, restart_tested}
use Rattle.am_world.proofs.Rostered.{rings_some}
use Rattle.am_world.proofs.state.State.may_restart.Goals as goal

pub newest-requires : goal.newest-requires
newest-requires c = rings_some c.args.self.now c.requires

pub returns-then-contains : goal.returns-then-contains
returns-then-contains c =
    let w = c.args.self.now in
    let i = c.args.instance in
    let among = c.contains.ensures ∙ ap (is_among i) c.newest.ensures in
    restart_tested w i true c.is_none.result (sym c.if-contains.true ∙ among)
    (down_known w i c.up.result c.is_none.result c.is_none.ensures c.up.ensures.up c.up.ensures.none)

pub returns-else-contains : goal.returns-else-contains
returns-else-contains c =
    let w = c.args.self.now in
    let i = c.args.instance in
    let among = c.contains.ensures ∙ ap (is_among i) c.newest.ensures in
    c.if-contains.false
    ∙ restart_tested w i false (not (up_at i w.instances)) (sym c.if-contains.false ∙ among) refl
