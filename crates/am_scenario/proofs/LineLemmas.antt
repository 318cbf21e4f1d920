-- Which lines are looked at as text.
use Rattle.std.proofs.Common.{◌≡◌, ◌≢◌, ℕ, true, List, length, get_or, None, arith}
use Rattle.std.specs.Str.{is_utf8, IsUtf8}
use Rattle.std.proofs.lemmas.Bool.Decides.{nat_tests}
use Rattle.std.proofs.lemmas.Str.{IsUtf8-from_is_utf8, is_utf8-from_IsUtf8}
use Rattle.am_scenario.specs.Line.{command_of, text_command}

-- a line that is neither empty nor a comment is looked at as text, where it is one
pub command_of-text : (line : List ℕ) → length line ≢ 0 → get_or line 0 0 ≢ 35 → IsUtf8 line → command_of line ≡ text_command line
unfolding command_of
command_of-text line some plain text = let e : is_utf8 line ≡ true = is_utf8-from_IsUtf8 line text in grind (arith, nat_tests)

pub command_of-bytes : (line : List ℕ) → length line ≢ 0 → get_or line 0 0 ≢ 35 → (IsUtf8 line → ⊥) → command_of line ≡ None
unfolding command_of
command_of-bytes line some plain bytes = grind (arith, nat_tests, IsUtf8-from_is_utf8)
