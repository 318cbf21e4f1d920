use Rattle.std.proofs.Common.{◌≡◌, take}
use Rattle.am_length.specs.Capped.{capped}
use Rattle.am_length.specs.Lengths.{matchers_length}
use Rattle.am_length.proofs.matchers.matchers_len.Given as goal

abbrev pub invariant-loop-matcher : goal.invariant-loop-matcher
invariant-loop-matcher l = l.total ≡ capped (matchers_length (take l.matcher-index l.matchers))
