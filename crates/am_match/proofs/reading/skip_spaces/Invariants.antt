use Rattle.std.proofs.Common.{◌≡◌, length}
use Rattle.am_match.specs.Reading.{skip}
use Rattle.am_match.proofs.reading.skip_spaces.Given as goal

abbrev pub invariant-space : goal.invariant-space
invariant-space l = skip l.fn.text ≡ skip l.rest

abbrev pub decreases-space : goal.decreases-space
decreases-space l = length l.rest
