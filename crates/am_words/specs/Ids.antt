-- Identifiers, as lists of bytes, and their texts.
use Rattle.std.specs.Prelude.{◌≡◌, ◌<◌, ℕ, List, All, length, Option, Some, None, if◌then◌else◌}
use Rattle.std.specs.Option.{option_and_then}
use Rattle.std.specs.Str.{bytes_eq}
use Rattle.uuid.specs.Text.{hyphenated_text, lower, parsed}

-- sixteen bytes
abbrev pub IsId : List ℕ → Type 0
IsId id = (length id ≡ 16) × All (λ byte. byte < 256) id

-- the text of an identifier: hexadecimal digits in lower case, with hyphens after the fourth, sixth, eighth and tenth byte
abbrev pub id_text : List ℕ → List ℕ
id_text id = hyphenated_text lower id

-- the identifier that has this text, of all that are read as one
unfoldable pub id_in : List ℕ → Option (List ℕ)
id_in text = option_and_then (λ id. if bytes_eq (id_text id) text then Some id else None) (parsed text)
