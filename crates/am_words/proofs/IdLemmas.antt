-- Identifiers and their texts.
use Rattle.std.proofs.Common.{◌≡◌, ℕ, List, false, cond, Option, Some, None, refl, sym, ap, ◌∙◌, inl}
use Rattle.std.specs.Option.{option_and_then}
use Rattle.std.specs.Str.{bytes_eq}
use Rattle.std.proofs.lemmas.Slice.Eq.{bytes_eq-Decides}
use Rattle.uuid.specs.Text.{parsed}
use Rattle.uuid.proofs.RoundTrips.{parses_hyphenated}
use Rattle.am_words.specs.Ids.{IsId, id_in, id_text}

-- the text of an identifier is read as it
pub text_is_read : (id text : List ℕ) → Some id ≡ parsed text → id_text id ≡ text → id_in text ≡ Some id
unfolding id_in
text_is_read id text is_parsed is_text =
    ap (option_and_then (λ i. cond (bytes_eq (id_text i) text) (Some i) None)) (sym is_parsed)
    ∙ ap (λ b. cond b (Some id) None) ((bytes_eq-Decides (id_text id) text).1 is_text)

-- another spelling is never identifier's text
pub id_in-other : (id text : List ℕ) → Some id ≡ parsed text → bytes_eq (id_text id) text ≡ false → id_in text ≡ None
unfolding id_in
id_in-other id text is_parsed is_other =
    ap (option_and_then (λ i. cond (bytes_eq (id_text i) text) (Some i) None)) (sym is_parsed)
    ∙ ap (λ b. cond b (Some id) None) is_other

-- nor is a text that doesn't parse
none_of : (o : Option (List ℕ)) → (((id : List ℕ) × (o ≡ Some id)) → ⊥) → o ≡ None
none_of None never = refl
none_of (Some id) never = absurd (never (id, refl))

pub id_in-none : (text : List ℕ) → (((id : List ℕ) × (parsed text ≡ Some id)) → ⊥) → id_in text ≡ None
unfolding id_in
id_in-none text never = ap (option_and_then (λ i. cond (bytes_eq (id_text i) text) (Some i) None)) (none_of (parsed text) never)

-- the text of an identifier is read as it, by whom it may be
pub each_read : (read : Option (List ℕ)) (text : List ℕ) → read ≡ id_in text → (id : List ℕ) → IsId id → id_text id ≡ text → read ≡ Some id
each_read read text is_read id is is_text =
    is_read ∙ text_is_read id text (parses_hyphenated 97 id (inl refl) is.0 is.1 ∙ ap parsed is_text) is_text
