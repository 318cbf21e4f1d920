use Rattle.std.proofs.Common.{List, take}
use Rattle.am_instance.specs.Shelves.{Shelf}
use Rattle.am_world.specs.Changing.{FollowsRestartAt, InTurn}
use Rattle.am_world.specs.Consistent.{IsConsistent, around}
use Rattle.am_world.specs.Shelves.{AreBacked}
use Rattle.am_world.specs.Simulation.{IsSameBeside}
use Rattle.am_world.proofs.state.State.follow_restart_all.Given as goal

abbrev pub invariant-loop-number : goal.invariant-loop-number
invariant-loop-number l = record {
  turns : InTurn (FollowsRestartAt (around l.fn.self.clock l.fn.self.common l.incarnations) l.restarted)
      (take l.number-index l.numbers) l.fn.self l.self;
  beside : IsSameBeside l.fn.self l.self;
  consistent : IsConsistent l.self;
  backed : (shelves : List Shelf) → AreBacked l.fn.self.instances shelves → AreBacked l.self.instances shelves;
}
