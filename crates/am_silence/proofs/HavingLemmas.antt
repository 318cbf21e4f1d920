-- Matchers that are asked for, without repetitions.
use Rattle.std.proofs.Common.{◌≡◌, ◌∙◌, ℕ, ◌&&◌, ◌||◌, ◌<◌, ◌+◌, ◌==◌, Bool, true, false, List, [], ◌∷◌, ◌++◌, Bor, ap, ap₂, get_or, length, refl, sym, take, inl, inr}
use Rattle.std.specs.Cmp.Lexicographic.{bytes_decides}
use Rattle.std.specs.List.{list_any}
use Rattle.std.specs.Str.{bytes_eq}
use Rattle.std.proofs.lemmas.Bool.{cases_Bool, eqb-true, true≢false}
use Rattle.std.proofs.lemmas.List.Folds.{list_all-append, list_all_more}
use Rattle.am_match.specs.Matchers.{MatcherText}
use Rattle.am_match.specs.Spelling.{operator_number}
use Rattle.am_silence.specs.Changing.{same_matcher}
use Rattle.am_silence.specs.Having.{has_borrowed, has_matcher, has_matchers}

all_three : (x y z : Bool) → (x && y && z) ≡ true → (x ≡ true) × (y ≡ true) × (z ≡ true)
all_three true true z on = (refl, refl, on)
all_three true false z on = absurd (true≢false (sym on))
all_three false y z on = absurd (true≢false (sym on))

-- what is compared with one of two equal matchers is compared with the other
same_as : (m one other : MatcherText) → same_matcher one other ≡ true → same_matcher m one ≡ same_matcher m other
same_as m one other same =
    let parts = all_three (operator_number one.operator == operator_number other.operator) (bytes_eq one.name other.name) (bytes_eq one.value other.value) same in
    ap (λ n. operator_number m.operator == n && bytes_eq m.name one.name && bytes_eq m.value one.value)
    (eqb-true (operator_number one.operator) (operator_number other.operator) parts.0)
    ∙ ap (λ name. operator_number m.operator == operator_number other.operator && bytes_eq m.name name && bytes_eq m.value one.value)
    ((bytes_decides one.name other.name).0 parts.1)
    ∙ ap (λ value. operator_number m.operator == operator_number other.operator && bytes_eq m.name other.name && bytes_eq m.value value)
    ((bytes_decides one.value other.value).0 parts.2)

has_as : (ms : List MatcherText) (one other : MatcherText) → same_matcher one other ≡ true → has_matcher ms one ≡ has_matcher ms other
has_as [] one other same = refl
has_as (m ∷ ms) one other same = ap₂ (λ p q. p || q) (same_as m one other same) (has_as ms one other same)

-- one that is equal to one of those that are all found is found
found_too : (ms : List MatcherText) (apart : List (Bor MatcherText)) (wanted : MatcherText) →
    list_any (λ (m : Bor MatcherText). same_matcher m.now wanted) apart ≡ true → (has_borrowed ms apart && has_matcher ms wanted) ≡ has_borrowed ms apart
unfolding has_borrowed
found_too ms [] wanted among = absurd (true≢false (sym among))
found_too ms (m ∷ apart) wanted among =
    elim (cases_Bool (same_matcher m.now wanted)) [
      | inl same ↦
          ap (λ b. (has_matcher ms m.now && has_borrowed ms apart) && b) (sym (has_as ms m.now wanted same)) ∙ again (has_matcher ms m.now) (has_borrowed ms apart)
      | inr differs ↦
          let rest = sym (ap (λ b. b || list_any (λ (other : Bor MatcherText). same_matcher other.now wanted) apart) differs) ∙ among in
          grouped (has_matcher ms m.now) (has_borrowed ms apart) (has_matcher ms wanted) ∙ ap (λ b. has_matcher ms m.now && b) (found_too ms apart wanted rest)
    ]
  where
    again : (a b : Bool) → ((a && b) && a) ≡ (a && b)
    again true true = refl
    again true false = refl
    again false b = refl

    grouped : (a b c : Bool) → ((a && b) && c) ≡ (a && (b && c))
    grouped true b c = refl
    grouped false b c = refl

-- those that were told apart stand for the first so many that are wanted
abbrev pub StandFor : List (Bor MatcherText) → ℕ → List MatcherText → Type 0
StandFor apart count wanted = (ms : List MatcherText) → has_borrowed ms apart ≡ has_matchers ms (take count wanted)

module _ (apart : List (Bor MatcherText)) (i : ℕ) (wanted : List MatcherText) (matcher : MatcherText) (within : i < length wanted)
    (at : matcher ≡ get_or wanted i matcher) (stand : StandFor apart i wanted) where
  more : (ms : List MatcherText) → has_matchers ms (take (i + 1) wanted) ≡ (has_borrowed ms apart && has_matcher ms matcher)
  more ms =
      list_all_more (has_matcher ms) wanted i matcher within
      ∙ ap (λ b. b && has_matcher ms (get_or wanted i matcher)) (sym (stand ms))
      ∙ ap (λ w. has_borrowed ms apart && has_matcher ms w) (sym at)

  -- a repetition
  pub stand_past : list_any (λ (m : Bor MatcherText). same_matcher m.now matcher) apart ≡ true → StandFor apart (i + 1) wanted
  stand_past among ms = sym (more ms ∙ found_too ms apart matcher among)

  -- another
  pub stand_put : (last : Bor MatcherText) → last.now ≡ matcher → StandFor (apart ++ last ∷ []) (i + 1) wanted
  unfolding has_borrowed
  stand_put last is ms =
      list_all-append (λ (m : Bor MatcherText). has_matcher ms m.now) apart (last ∷ [])
      ∙ ap (λ b. has_borrowed ms apart && b) (and_true (has_matcher ms last.now) ∙ ap (has_matcher ms) is)
      ∙ sym (more ms)
    where
      and_true : (b : Bool) → (b && true) ≡ b
      and_true true = refl
      and_true false = refl
