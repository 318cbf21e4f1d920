use Rattle.std.proofs.Common.{◌-◌}
use Rattle.am_gateway.proofs.PassingLemmas.{Passed}
use Rattle.am_gateway.proofs.passing.pass_all.Given as goal

abbrev pub invariant-loop-place : goal.invariant-loop-place
invariant-loop-place g l =
    Passed (g.W.AnyWorld.contents l.fn.world) (g.W.AnyWorld.contents l.world) l.moment l.place

abbrev pub decreases-loop-place : goal.decreases-loop-place
decreases-loop-place g l = 18446744073709551616 - l.place
