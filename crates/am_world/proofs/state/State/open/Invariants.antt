use Rattle.am_world.proofs.Opened.{AreOpenedTo}
use Rattle.am_world.proofs.state.State.open.Given as goal

abbrev pub invariant-loop-number : goal.invariant-loop-number
invariant-loop-number g l = AreOpenedTo g.R.Rows l.fn.setup.origin l.number-index l.fn.stores l.stores l.state
