-- Flags at places, one by one.
use Rattle.std.proofs.Common.{◌≡◌, ◌∙◌, ℕ, zero, suc, ◌+◌, ◌-◌, ◌<◌, ◌≤◌, ◌&&◌, ◌||◌, not, Bool, true, false, List, All, [], ◌∷◌, ◌++◌, cond, drop, length, get_or, replicate, slice_set, take, refl, sym, ap, inl, inr, arith}
use Rattle.std.specs.Bool.{beq}
use Rattle.std.proofs.lemmas.Bool.{cases_Bool, cases_eq, eq-eqb, ne_eqb}
use Rattle.std.proofs.lemmas.List.{take_all, get_or-set_other, get_or-set_same, length-replicate, length-set}
use Rattle.std.proofs.lemmas.List.Elements.{All-cons, All-head, All-nil, All-tail, All-weaker}
use Rattle.am_column.specs.Flags.{cleared, differing, is_met_at, is_place, kept}

and_true : (b : Bool) → (b && true) ≡ b
and_true true = refl
and_true false = refl

and_false : (b : Bool) → (b && false) ≡ false
and_false true = refl
and_false false = refl

-- ---- places whose answer differs

pub differing_within : (others : Bool) (places : List ℕ) (answers : List Bool) (most : ℕ) → All (λ place. place < most) places →
    All (λ place. place < most) (differing others places answers)
differing_within others [] answers most fine = All-nil (λ place. place < most)
differing_within others (p ∷ places) [] most fine = All-nil (λ place. place < most)
differing_within others (p ∷ places) (answer ∷ answers) most fine =
    let rest = differing_within others places answers most (All-tail (λ place. place < most) p places fine) in
    elim (cases_Bool (not (beq answer others))) [
      | inl same ↦ rw same (All-cons (λ place. place < most) p (differing others places answers) (All-head (λ place. place < most) p places fine) rest)
      | inr apart ↦ rw apart rest
    ]

-- ---- one place more is looked at

pub differing_more : (others : Bool) (places : List ℕ) (answers : List Bool) (i place : ℕ) (answer : Bool) → i < length places → i < length answers →
    place ≡ get_or places i place → answer ≡ get_or answers i answer →
    differing others (take (i + 1) places) (take (i + 1) answers)
    ≡ cond (not (beq answer others)) (differing others (take i places) (take i answers) ++ place ∷ []) (differing others (take i places) (take i answers))
differing_more others [] answers i place answer within inside at is = absurd (omega (arith, within))
differing_more others (p ∷ places) [] i place answer within inside at is = absurd (omega (arith, inside))
differing_more others (p ∷ places) (a ∷ answers) zero place answer within inside at is =
    elim (cases_Bool (not (beq answer others))) [ inl same ↦ rw (← is, ← at, same) refl | inr apart ↦ rw (← is, ← at, apart) refl ]
differing_more others (p ∷ places) (a ∷ answers) (suc i) place answer within inside at is =
    let next : suc i + 1 ≡ suc (i + 1) = omega arith in
    let rest = differing_more others places answers i place answer (omega (arith, within)) (omega (arith, inside)) at is in
    ap (λ n. differing others (take n (p ∷ places)) (take n (a ∷ answers))) next
    ∙ elim (cases_Bool (not (beq a others))) [
      | inl same ↦ rw (same, rest) (onto (not (beq answer others)) (differing others (take i places) (take i answers)))
      | inr apart ↦ rw (apart, rest) refl
    ]
  where
    onto : (b : Bool) (found : List ℕ) → p ∷ cond b (found ++ place ∷ []) found ≡ cond b ((p ∷ found) ++ place ∷ []) (p ∷ found)
    onto true found = refl
    onto false found = refl

-- ---- flags

-- the flags at these places are gone
pub cleared_at : (places : List ℕ) (flags : List Bool) (k : ℕ) → get_or (cleared places flags) k false ≡ (get_or flags k false && not (is_place k places))
cleared_at [] flags k = sym (and_true (get_or flags k false))
cleared_at (place ∷ places) flags k =
    cleared_at places (slice_set flags place false) k
    ∙ elim (cases_eq k place) [
      | inl same ↦
          ap (λ b. b && not (is_place k places)) (unset flags k place same)
          ∙ sym (ap (λ b. get_or flags k false && not (b || is_place k places)) (eq-eqb k place same) ∙ and_false (get_or flags k false))
      | inr apart ↦
          ap (λ b. b && not (is_place k places)) (get_or-set_other flags place k false false apart)
          ∙ sym (ap (λ b. get_or flags k false && not (b || is_place k places)) (ne_eqb k place apart))
    ]
  where
    unset : (fs : List Bool) (n m : ℕ) → n ≡ m → get_or (slice_set fs m false) n false ≡ false
    unset fs n m same = ap (λ j. get_or (slice_set fs m false) j false) same ∙ none fs m
      where
        none : (gs : List Bool) (j : ℕ) → get_or (slice_set gs j false) j false ≡ false
        none [] j = refl
        none (g ∷ gs) zero = refl
        none (g ∷ gs) (suc j) = none gs j

pub length-cleared : (places : List ℕ) (flags : List Bool) → length (cleared places flags) ≡ length flags
length-cleared [] flags = refl
length-cleared (place ∷ places) flags = length-cleared places (slice_set flags place false) ∙ length-set flags place false

-- the flags at these places came, and no others
pub kept_at : (places : List ℕ) (others flags : List Bool) (k : ℕ) → All (λ place. place < length flags) places →
    get_or (kept places others flags) k false ≡ cond (is_place k places) (get_or others k false) (get_or flags k false)
kept_at [] others flags k fine = refl
kept_at (place ∷ places) others flags k fine =
    let within = All-head (λ p. p < length flags) place places fine in
    let next = All-weaker (λ p. p < length flags) (λ p. p < length (slice_set flags place (get_or others place false)))
    (λ p below. omega (arith, below, length-set flags place (get_or others place false))) places (All-tail (λ p. p < length flags) place places fine) in
    kept_at places others (slice_set flags place (get_or others place false)) k next
    ∙ elim (cases_eq k place) [
      | inl same ↦
          ap (λ b. cond (is_place k places) (get_or others k false) b)
          (ap (λ j. get_or (slice_set flags place (get_or others place false)) j false) same ∙ get_or-set_same flags place (get_or others place false) false within
          ∙ ap (λ j. get_or others j false) (sym same))
          ∙ either (is_place k places) (get_or others k false)
          ∙ sym (ap (λ b. cond (b || is_place k places) (get_or others k false) (get_or flags k false)) (eq-eqb k place same))
      | inr apart ↦
          ap (λ b. cond (is_place k places) (get_or others k false) b) (get_or-set_other flags place k (get_or others place false) false apart)
          ∙ sym (ap (λ b. cond (b || is_place k places) (get_or others k false) (get_or flags k false)) (ne_eqb k place apart))
    ]
  where
    either : (b c : Bool) → cond b c c ≡ c
    either true c = refl
    either false c = refl

-- of none
pub kept_of : (places : List ℕ) (others : List Bool) (k : ℕ) → All (λ place. place < length others) places →
    get_or (kept places others (replicate (length others) false)) k false ≡ (get_or others k false && is_place k places)
kept_of places others k fine =
    kept_at places others (replicate (length others) false) k
    (All-weaker (λ p. p < length others) (λ p. p < length (replicate (length others) false)) (λ p below. omega (arith, below, length-replicate (length others) false)) places fine)
    ∙ ap (λ b. cond (is_place k places) (get_or others k false) b) (none (length others) k)
    ∙ turned (is_place k places) (get_or others k false)
  where
    none : (n j : ℕ) → get_or (replicate n false) j false ≡ false
    none zero j = refl
    none (suc n) zero = refl
    none (suc n) (suc j) = none n j

    turned : (b c : Bool) → cond b c false ≡ (c && b)
    turned true true = refl
    turned true false = refl
    turned false true = refl
    turned false false = refl

pub length-kept : (places : List ℕ) (others flags : List Bool) → length (kept places others flags) ≡ length flags
length-kept [] others flags = refl
length-kept (place ∷ places) others flags =
    length-kept places others (slice_set flags place (get_or others place false)) ∙ length-set flags place (get_or others place false)

-- ---- answers that are met

-- the first answer, and those behind it
pub split_first : (answers : List Bool) → 0 < length answers → answers ≡ get_or answers 0 false ∷ take (length answers - 1) (drop 1 answers)
split_first [] some = absurd (omega (arith, some))
split_first (answer ∷ answers) some =
    let long : length answers ≤ length (answer ∷ answers) - 1 = omega arith in
    ap (λ rest. answer ∷ rest) (sym (take_all (length (answer ∷ answers) - 1) answers long))

-- what is met, by the places that differ
met_there : (k : ℕ) (others : Bool) (places apart : List ℕ) (answers behind : List Bool) → answers ≡ others ∷ behind → apart ≡ differing others places behind →
    cond (is_place k apart) (not others) others ≡ is_met_at k places answers
met_there k others places apart answers behind parts is =
    ap (λ ps. cond (is_place k ps) (not others) others) is ∙ ap (is_met_at k places) (sym parts)

module _ (places apart : List ℕ) (answers behind flags : List Bool) (others : Bool) (parts : answers ≡ others ∷ behind) (is : apart ≡ differing others places behind) where
  -- where all others are met, the flags at those places are cleared
  pub met_by_clearing : others ≡ true → (k : ℕ) → get_or (cleared apart flags) k false ≡ (get_or flags k false && is_met_at k places answers)
  met_by_clearing on k =
      cleared_at apart flags k
      ∙ ap (λ b. get_or flags k false && b)
      (turned (is_place k apart) ∙ ap (λ b. cond (is_place k apart) (not b) b) (sym on) ∙ met_there k others places apart answers behind parts is)
    where
      turned : (b : Bool) → not b ≡ cond b false true
      turned true = refl
      turned false = refl

  -- where none of them is, those alone are kept
  pub met_by_keeping : others ≡ false → All (λ place. place < length flags) apart → (k : ℕ) →
      get_or (kept apart flags (replicate (length flags) false)) k false ≡ (get_or flags k false && is_met_at k places answers)
  met_by_keeping off within k =
      kept_of apart flags k within
      ∙ ap (λ b. get_or flags k false && b)
      (turned (is_place k apart) ∙ ap (λ b. cond (is_place k apart) (not b) b) (sym off) ∙ met_there k others places apart answers behind parts is)
    where
      turned : (b : Bool) → b ≡ cond b true false
      turned true = refl
      turned false = refl
