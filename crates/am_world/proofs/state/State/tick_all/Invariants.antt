use Rattle.std.proofs.Common.{◌≡◌, ℕ, take}
use Rattle.am_ring.specs.Instances.{all_instances}
use Rattle.am_instance.specs.Shelves.{shelf_of}
use Rattle.am_world.specs.Consistent.{IsConsistent}
use Rattle.am_world.specs.Shelves.{AreBacked, NeverCleaner, shelves_of}
use Rattle.am_world.specs.Ticks.{TakeTurns}
use Rattle.am_world.proofs.TickShelves.{Turned}
use Rattle.am_world.proofs.state.State.tick_all.Given as goal

abbrev pub invariant-loop-number : goal.invariant-loop-number
invariant-loop-number g l =
    TakeTurns (take l.number-index all_instances) l.fn.self l.self
    × (l.self.clock ≡ l.fn.self.clock)
    × IsConsistent l.self
    × AreBacked l.self.instances (shelves_of g.R.Rows l.stores)
    × NeverCleaner (shelves_of g.R.Rows l.fn.stores) (shelves_of g.R.Rows l.stores)
    × ((i : ℕ) → Turned (shelf_of g.R.Rows) l.fn.self.clock l.number-index l.fn.self l.self l.fn.stores l.stores i)
