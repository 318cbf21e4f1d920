-- Patterns whose build was refused.
use Rattle.std.proofs.Common.{◌≡◌, ◌⊎◌, ℕ, suc, List, [], ◌∷◌, true, false, refl, sym, ◌∙◌, inl, inr, arith, true≢false}
use Rattle.std.specs.List.{Contains}
use Rattle.std.proofs.lemmas.Bool.{cases_Bool}
use Rattle.std.proofs.lemmas.List.Elements.{All-nil, All-cons, All-contains}
use Rattle.am_pattern.specs.Asking.{Grows}
use Rattle.am_pattern.specs.Cache.{Cache}
use Rattle.am_pattern.specs.Refused.{has_text, IsRefusedRightly}
use Rattle.am_pattern.specs.Taking.{is_pattern}
use Rattle.am_pattern.proofs.AskingLemmas.{has_text-grows}
use Rattle.am_pattern.proofs.Decided.{IsPattern-from_test, test-from_IsPattern}
use Rattle.am_match.specs.Checking.{AreRefusedRightly}
use Rattle.am_query.specs.Patterns.{Among, HasRefused}

-- ---- elements

pub contains_here : {X : Type 0} (x : X) (xs : List X) → Contains (x ∷ xs) x
contains_here x xs = (0, omega arith, refl)

pub contains_later : {X : Type 0} (y : X) (xs : List X) (x : X) → Contains xs x → Contains (y ∷ xs) x
contains_later y xs x (k, within, is) = (suc k, omega (arith, within), is)

-- ---- whether a build was refused

pub refused_among : (refused xs ys : List (List ℕ)) → Among xs ys → HasRefused refused xs → HasRefused refused ys
refused_among refused xs ys among found = (found.0, (among found.0 found.1.0, found.1.1))

-- a refused build stays one
pub refused_later : (old new : Cache) (texts : List (List ℕ)) → Grows old new → HasRefused old.refused texts → HasRefused new.refused texts
refused_later old new texts grows found =
    (found.0, (found.1.0, (found.1.1.0, has_text-grows old new found.0 grows found.1.1.1)))

behind_right : (refused : List (List ℕ)) (text : List ℕ) (texts : List (List ℕ)) → AreRefusedRightly refused texts ⊎ HasRefused refused texts →
    IsRefusedRightly refused text → AreRefusedRightly refused (text ∷ texts) ⊎ HasRefused refused (text ∷ texts)
behind_right refused text texts (inl all) rightly = inl (All-cons (λ p. IsRefusedRightly refused p) text texts rightly all)
behind_right refused text texts (inr found) rightly =
    inr (refused_among refused texts (text ∷ texts) (λ other there. contains_later text texts other there) found)

with_first : (refused : List (List ℕ)) (text : List ℕ) (texts : List (List ℕ)) → AreRefusedRightly refused texts ⊎ HasRefused refused texts →
    (has_text refused text ≡ true) ⊎ (has_text refused text ≡ false) → (is_pattern text ≡ true) ⊎ (is_pattern text ≡ false) →
    AreRefusedRightly refused (text ∷ texts) ⊎ HasRefused refused (text ∷ texts)
with_first refused text texts rest (inr apart) pattern = behind_right refused text texts rest (λ there. absurd (true≢false (sym there ∙ apart)))
with_first refused text texts rest (inl there) (inl pattern) = inr (text, (contains_here text texts, (IsPattern-from_test text pattern, there)))
with_first refused text texts rest (inl there) (inr none) =
    behind_right refused text texts rest (λ _ pattern. absurd (true≢false (sym (test-from_IsPattern text pattern) ∙ none)))

-- either none of these texts was refused wrongly, or one that is a pattern was refused
pub rightly_or_refused : (refused texts : List (List ℕ)) → AreRefusedRightly refused texts ⊎ HasRefused refused texts
rightly_or_refused refused [] = inl (All-nil (λ p. IsRefusedRightly refused p))
rightly_or_refused refused (text ∷ texts) =
    with_first refused text texts (rightly_or_refused refused texts) (cases_Bool (has_text refused text)) (cases_Bool (is_pattern text))

-- and not both
pub never_both : (refused texts : List (List ℕ)) → AreRefusedRightly refused texts → HasRefused refused texts → ⊥
never_both refused texts rightly found =
    All-contains (λ p. IsRefusedRightly refused p) texts found.0 rightly found.1.0 found.1.1.1 found.1.1.0
