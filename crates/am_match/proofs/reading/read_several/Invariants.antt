use Rattle.std.proofs.Common.{◌≡◌}
use Rattle.am_match.specs.Reading.{several}
use Rattle.am_match.proofs.ReadingLemmas.{before}
use Rattle.am_match.proofs.reading.read_several.Given as goal

abbrev pub invariant-several : goal.invariant-several
invariant-several l =
    several l.fn.braced l.fn.most l.fn.text ≡ before l.matchers.items (several l.fn.braced l.left l.rest)

abbrev pub decreases-several : goal.decreases-several
decreases-several l = l.left
