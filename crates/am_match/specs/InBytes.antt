-- What was read, as the UTF-8 that the code holds.
use Rattle.std.specs.Prelude.{ℕ, List, Option, option_map, encode_utf8_all}
use Rattle.am_match.specs.Reading.{Text}

-- what was read as UTF-8, and the rest
abbrev pub pair_in_bytes : Text × Text → List ℕ × Text
pair_in_bytes (read, rest) = (encode_utf8_all read, rest)

-- the same where anything was read
abbrev pub in_bytes : Option (Text × Text) → Option (List ℕ × Text)
in_bytes = option_map pair_in_bytes
