use Rattle.std.proofs.Common.{take}
use Rattle.am_world.specs.Consistent.{IsConsistent, over}
use Rattle.am_world.specs.Runs.{Run}
use Rattle.am_world.specs.Shelves.{AreBacked, NeverCleaner, shelves_of}
use Rattle.am_world.proofs.state.State.run.Given as goal

abbrev pub invariant-loop-event : goal.invariant-loop-event
invariant-loop-event g l = record {
  ran : Run (over l.fn.self (shelves_of g.R.Rows l.fn.stores)) (take l.event-index l.events)
      (over l.self (shelves_of g.R.Rows l.stores));
  consistent : IsConsistent l.self;
  backed : AreBacked l.self.instances (shelves_of g.R.Rows l.stores);
  clean : NeverCleaner (shelves_of g.R.Rows l.fn.stores) (shelves_of g.R.Rows l.stores);
}
