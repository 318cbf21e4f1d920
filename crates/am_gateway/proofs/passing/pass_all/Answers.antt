use Rattle.std.proofs.Common.{arith}
use Rattle.am_gateway.proofs.PassingLemmas.{all_passed, none_passed, one_passed}
use Rattle.am_gateway.proofs.passing.pass_all.Goals as goal

pub loop-place-init : goal.loop-place-init
loop-place-init g c = none_passed _ _

pub loop-place-preserved : goal.loop-place-preserved
loop-place-preserved g c =
    one_passed _ _ _ _ _ c.loop-place.invariant (grind arith) c.pass.ensures.passed c.pass.ensures.stay

pub returns : goal.returns
returns g c = all_passed _ _ _ _ c.loop-place.invariant (grind arith)
