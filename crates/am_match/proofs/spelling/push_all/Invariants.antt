use Rattle.std.proofs.Common.{◌≡◌, ◌++◌, All, take}
use Rattle.std.specs.List.{flat_map}
use Rattle.am_match.specs.Matchers.{IsMatcher}
use Rattle.am_match.specs.Spelling.{matcher_bytes, IsShort}
use Rattle.am_match.proofs.spelling.push_all.Given as goal

abbrev pub invariant-loop-matcher : goal.invariant-loop-matcher
invariant-loop-matcher l =
    (l.bytes.items ≡ l.initial.bytes.items ++ flat_map matcher_bytes (take l.matcher-index l.matchers))
    × All IsShort (take l.matcher-index l.matchers) × All IsMatcher (take l.matcher-index l.matchers)
