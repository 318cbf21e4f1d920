use Rattle.am_serve.specs.Giving.{LongestBelow}
use Rattle.am_serve.proofs.giving.gives_way.Given as goal

abbrev pub invariant-loop-key : goal.invariant-loop-key
invariant-loop-key g l = LongestBelow l.wanted l.clients l.key l.found
