use Rattle.std.proofs.Common.{◌≡◌, ◌++◌, All, take}
use Rattle.std.specs.List.{flat_map}
use Rattle.am_match.specs.Matchers.{IsMatcher}
use Rattle.am_wire.specs.ItemFields.{matcher_bytes}
use Rattle.am_wire.proofs.write_items.push_several.Given as goal

abbrev pub invariant-loop-matcher : goal.invariant-loop-matcher
invariant-loop-matcher l =
    (l.out.items ≡ l.initial.out.items ++ flat_map matcher_bytes (take l.matcher-index l.matchers))
    × All IsMatcher (take l.matcher-index l.matchers)
