use Rattle.std.proofs.Common.{◌≡◌, ℕ, Bool, true, false, List, None, Some, if◌then◌else◌, refl, ap, ◌∙◌}
use Rattle.std.specs.Str.{IsUtf8, is_utf8}
use Rattle.std.proofs.lemmas.Str.{IsUtf8-from_is_utf8, is_utf8-from_IsUtf8}
use Rattle.am_judge.specs.Judging.{document_around, document_text}
use Rattle.am_judge.proofs.judging.document_around.Goals as goal

-- bytes that are no text
none_at : (bytes : List ℕ) (b : Bool) → is_utf8 bytes ≡ b → (IsUtf8 bytes → ⊥) →
    None ≡ (if b then Some (document_text bytes) else None)
none_at bytes true e never = absurd (never (IsUtf8-from_is_utf8 bytes e))
none_at bytes false e never = refl

pub returns-in-Err : goal.returns-in-Err
returns-in-Err c = none_at c.args.bytes.now (is_utf8 c.args.bytes.now) refl c.in-Err.ensures.cases.0

-- those of a text
some_of : (bytes document : List ℕ) → IsUtf8 bytes → document ≡ document_text bytes →
    Some document ≡ document_around bytes
some_of bytes document text is = rw (is_utf8-from_IsUtf8 bytes text) (ap Some is)

pub returns-in_ok-document_json-in-Ok : goal.returns-in_ok-document_json-in-Ok
returns-in_ok-document_json-in-Ok c =
    some_of c.args.bytes.now _ c.in-Ok.ensures.cases.1
    (c.in_ok-document_json-in-Ok.ensures ∙ ap document_text (c.in_ok-text-in-Ok.ensures ∙ c.in-Ok.ensures.cases.0))
