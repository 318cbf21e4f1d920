use Rattle.std.proofs.Common.{◌≡◌, ◌++◌, ◌∷◌, All, take, string_bytes, encode_utf8_all}
use Rattle.std.specs.List.{flat_map}
use Rattle.am_match.specs.Matchers.{IsMatcher}
use Rattle.am_match.specs.Printing.{printed_one}
use Rattle.am_match.proofs.printing.push_others.Given as goal

abbrev pub invariant-loop-matcher : goal.invariant-loop-matcher
invariant-loop-matcher l =
    (string_bytes l.text
    ≡ string_bytes l.initial.text ++ encode_utf8_all (flat_map (λ m. 44 ∷ printed_one m) (take l.matcher-index l.matchers)))
    × All IsMatcher (take l.matcher-index l.matchers)
