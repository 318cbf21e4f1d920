use Rattle.am_serve.proofs.Awaiting.{NoneBelow}
use Rattle.am_serve.proofs.giving.awaiting.Given as goal

abbrev pub invariant-loop-key : goal.invariant-loop-key
invariant-loop-key g l = NoneBelow l.connection l.clients l.key
