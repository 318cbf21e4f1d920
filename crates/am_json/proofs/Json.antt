-- The JSON value of bytes that may be no text.
use Rattle.std.proofs.Common.{◌≡◌, ℕ, Bool, true, false, List, None, Err, if◌then◌else◌, refl}
use Rattle.std.specs.Str.{IsUtf8, is_utf8}
use Rattle.std.proofs.lemmas.Str.{IsUtf8-from_is_utf8, is_utf8-from_IsUtf8}
use Rattle.serde_json.specs.Read.{read}
use Rattle.am_json.specs.declared.refusal.JsonRefusal.TheVariants.{NotJson}
use Rattle.am_json.specs.Reading.{is_json, json}

-- of a text it is what is read
pub json_of_text : (bytes : List ℕ) → IsUtf8 bytes → json bytes ≡ is_json (read bytes)
json_of_text bytes text = rw (is_utf8-from_IsUtf8 bytes text) refl

-- bytes that are no text, or of which nothing is read
none_at : (bytes : List ℕ) (b : Bool) → is_utf8 bytes ≡ b → (IsUtf8 bytes → read bytes ≡ None) →
    is_json (if b then read bytes else None) ≡ Err NotJson
none_at bytes true e h = rw (h (IsUtf8-from_is_utf8 bytes e)) refl
none_at bytes false e h = refl

-- there is none where nothing is read of a text
pub json_none : (bytes : List ℕ) → (IsUtf8 bytes → read bytes ≡ None) → json bytes ≡ Err NotJson
json_none bytes h = none_at bytes (is_utf8 bytes) refl h
