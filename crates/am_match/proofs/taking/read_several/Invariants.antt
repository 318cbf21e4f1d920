use Rattle.std.proofs.Common.{◌≡◌}
use Rattle.am_match.specs.Taking.{take_several}
use Rattle.am_match.proofs.TakingLemmas.{before}
use Rattle.am_match.proofs.taking.read_several.Given as goal

abbrev pub invariant-several : goal.invariant-several
invariant-several l = take_several l.fn.count l.fn.bytes ≡ before l.matchers.items (take_several l.left l.rest)

abbrev pub decreases-several : goal.decreases-several
decreases-several l = l.left
