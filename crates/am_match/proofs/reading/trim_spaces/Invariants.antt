use Rattle.std.proofs.Common.{◌≡◌, vec_len}
use Rattle.am_match.specs.Reading.{trim_end}
use Rattle.am_match.proofs.reading.trim_spaces.Given as goal

abbrev pub invariant-space : goal.invariant-space
invariant-space l = trim_end l.initial.read.items ≡ trim_end l.read.items

abbrev pub decreases-space : goal.decreases-space
decreases-space l = vec_len l.read
