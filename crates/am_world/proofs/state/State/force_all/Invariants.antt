use Rattle.std.proofs.Common.{◌≡◌, List, take}
use Rattle.am_ring.specs.Instances.{all_instances}
use Rattle.am_instance.specs.Shelves.{Shelf}
use Rattle.am_world.specs.Changing.{ForcesAt, InTurn}
use Rattle.am_world.specs.Consistent.{IsConsistent, around_at}
use Rattle.am_world.specs.Shelves.{AreBacked}
use Rattle.am_world.proofs.state.State.force_all.Given as goal

abbrev pub invariant-loop-number : goal.invariant-loop-number
invariant-loop-number l = record {
  turns : InTurn (ForcesAt (around_at l.fn.self.clock l.fn.self) l.tenant) (take l.number-index all_instances)
      l.fn.self l.self;
  around : around_at l.self.clock l.self ≡ around_at l.fn.self.clock l.fn.self;
  consistent : IsConsistent l.self;
  backed : (shelves : List Shelf) → AreBacked l.fn.self.instances shelves → AreBacked l.self.instances shelves;
}
