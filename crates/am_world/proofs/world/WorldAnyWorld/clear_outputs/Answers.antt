use Rattle.am_world.specs.Shelves.{shelves_of}
use Rattle.am_world.proofs.Forgotten.{backed_forgotten, consistent_forgotten}
use Rattle.am_world.proofs.world.WorldAnyWorld.clear_outputs.Goals as goal

pub invariant_of-self : goal.invariant_of-self
invariant_of-self g c =
    let old = c.self.inside.state in
    let new = c.clear_outputs.new.self in
    let forgets = c.clear_outputs.ensures in (
      consistent_forgotten old new forgets c.self.invariant.0,
      backed_forgotten old new (shelves_of g.R.Rows c.self.inside.stores.items) forgets c.self.invariant.1,
    )
