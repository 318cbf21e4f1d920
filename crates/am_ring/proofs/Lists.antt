-- Lists of different numbers: counts and filters over them, and what is left without one of them.
use Rattle.std.proofs.Common.{◌≡◌, ◌≢◌, ℕ, ◌+◌, ◌≤◌, Bool, true, false, ◌&&◌, not, cond, eqb, List, [], ◌∷◌, length, filter, count_by, refl, ◌∙◌, inl, inr, arith}
use Rattle.std.proofs.lemmas.Bool.{and_parts, cases_eq, eq-eqb, ne_eqb, not-true, or_left, or_parts, or_right, false≢true}
use Rattle.std.proofs.lemmas.List.Sums.{sum_by-cons}
use Rattle.am_ring.specs.Instances.{all_differ, is_among}
use Rattle.am_ring.specs.Changes.{without}

pub count-cons : (p : ℕ → Bool) (y : ℕ) (ys : List ℕ) → count_by p (y ∷ ys) ≡ cond (p y) 1 0 + count_by p ys
count-cons p y ys = sum_by-cons (λ z. cond (p z) 1 0) y ys

-- ---- what is among a list

pub head_among : (y : ℕ) (ys : List ℕ) → is_among y (y ∷ ys) ≡ true
head_among y ys = or_left (eqb y y) (is_among y ys) (eq-eqb y y refl)

pub tail_among : (z y : ℕ) (ys : List ℕ) → is_among z ys ≡ true → is_among z (y ∷ ys) ≡ true
tail_among z y ys e = or_right (eqb z y) (is_among z ys) e

pub among-filter : (p : ℕ → Bool) (z : ℕ) (ys : List ℕ) → is_among z (filter p ys) ≡ (p z && is_among z ys)
among-filter p z [] = elim (p z) as (λ b. false ≡ (b && false)) [ true ↦ refl | false ↦ refl ]
among-filter p z (y ∷ ys) =
    elim (cases_eq z y) [
      | inl same ↦ rw (← same, eq-eqb z z refl) (at_same (p z) refl (among-filter p z ys))
      | inr other ↦ rw (ne_eqb z y other) (at_other other (p y) (among-filter p z ys))
    ]
  where
    at_same : (b : Bool) → p z ≡ b → is_among z (filter p ys) ≡ (p z && is_among z ys) →
        is_among z (cond b (z ∷ filter p ys) (filter p ys)) ≡ (b && true)
    at_same true e before = head_among z (filter p ys)
    at_same false e before = before ∙ rw e refl

    at_other : z ≢ y → (b : Bool) → is_among z (filter p ys) ≡ (p z && is_among z ys) →
        is_among z (cond b (y ∷ filter p ys) (filter p ys)) ≡ (p z && is_among z ys)
    at_other other true before = rw (ne_eqb z y other) before
    at_other other false before = before

-- ---- two tests that agree, or of which one implies the other, on what is among a list

pub filter-agree : (p q : ℕ → Bool) (ys : List ℕ) → ((z : ℕ) → is_among z ys ≡ true → p z ≡ q z) → filter p ys ≡ filter q ys
filter-agree p q [] agree = refl
filter-agree p q (y ∷ ys) agree =
    let rest : filter p ys ≡ filter q ys = filter-agree p q ys (λ z e. agree z (tail_among z y ys e)) in
    rw (agree y (head_among y ys), rest) refl

pub count-le : (p q : ℕ → Bool) (ys : List ℕ) → ((z : ℕ) → is_among z ys ≡ true → p z ≡ true → q z ≡ true) → count_by p ys ≤ count_by q ys
count-le p q [] implies = omega arith
count-le p q (y ∷ ys) implies =
    let rest : count_by p ys ≤ count_by q ys = count-le p q ys (λ z e. implies z (tail_among z y ys e)) in
    let first : cond (p y) 1 0 ≤ cond (q y) 1 0 = at_head (p y) refl (implies y (head_among y ys)) in
    omega (arith, count-cons p y ys, count-cons q y ys)
  where
    at_head : (b : Bool) → p y ≡ b → (p y ≡ true → q y ≡ true) → cond b 1 0 ≤ cond (q y) 1 0
    at_head true e h = rw (h e) (omega arith)
    at_head false e h = omega arith

pub count-none : (p : ℕ → Bool) (ys : List ℕ) → ((z : ℕ) → is_among z ys ≡ true → p z ≡ false) → count_by p ys ≡ 0
count-none p [] none = refl
count-none p (y ∷ ys) none =
    let rest : count_by p ys ≡ 0 = count-none p ys (λ z e. none z (tail_among z y ys e)) in
    let first : cond {A = ℕ} (p y) 1 0 ≡ 0 = rw (none y (head_among y ys)) refl in
    omega (arith, count-cons p y ys)

pub filter-filter : (p q : ℕ → Bool) (ys : List ℕ) → filter p (filter q ys) ≡ filter (λ z. q z && p z) ys
filter-filter p q [] = refl
filter-filter p q (y ∷ ys) = at_head (q y) (filter-filter p q ys)
  where
    at_head : (b : Bool) → filter p (filter q ys) ≡ filter (λ z. q z && p z) ys →
        filter p (cond b (y ∷ filter q ys) (filter q ys)) ≡ cond (b && p y) (y ∷ filter (λ z. q z && p z) ys) (filter (λ z. q z && p z) ys)
    at_head true before = rw before refl
    at_head false before = before

-- ---- lists of different numbers

pub all_differ-filter : (p : ℕ → Bool) (ys : List ℕ) → all_differ ys ≡ true → all_differ (filter p ys) ≡ true
all_differ-filter p [] differ = refl
all_differ-filter p (y ∷ ys) differ =
    let parts = and_parts (not (is_among y ys)) (all_differ ys) differ in
    at_head (p y) (not-true (is_among y ys) parts.0) (all_differ-filter p ys parts.1)
  where
    at_head : (b : Bool) → is_among y ys ≡ false → all_differ (filter p ys) ≡ true → all_differ (cond b (y ∷ filter p ys) (filter p ys)) ≡ true
    at_head true new before =
        let gone : is_among y (filter p ys) ≡ false = among-filter p y ys ∙ rw new (elim (p y) as (λ c. (c && false) ≡ false) [ true ↦ refl | false ↦ refl ]) in
        rw (gone, before) refl
    at_head false new before = before

without-none : (x : ℕ) (ys : List ℕ) → is_among x ys ≡ false → without x ys ≡ ys
without-none x [] gone = refl
without-none x (y ∷ ys) gone =
    let parts = or_parts (eqb x y) (is_among x ys) gone in
    rw (parts.0, without-none x ys parts.1) refl

-- a count is that of one of them and that of the others
pub count-without : (p : ℕ → Bool) (x : ℕ) (ys : List ℕ) → all_differ ys ≡ true → is_among x ys ≡ true → count_by p ys ≡ cond (p x) 1 0 + count_by p (without x ys)
count-without p x [] differ among = absurd (false≢true among)
count-without p x (y ∷ ys) differ among =
    let parts = and_parts (not (is_among y ys)) (all_differ ys) differ in
    elim (cases_eq x y) [
      | inl same ↦
          let gone : is_among x ys ≡ false = rw same (not-true (is_among y ys) parts.0) in
          count-cons p y ys ∙ rw (eq-eqb x y same, without-none x ys gone, ← same) refl
      | inr other ↦
          let test : eqb x y ≡ false = ne_eqb x y other in
          let rest : is_among x ys ≡ true = rw test at among in
          rw test (omega (arith, count-cons p y ys, count-cons p y (without x ys), count-without p x ys parts.1 rest))
    ]

pub length-without : (x : ℕ) (ys : List ℕ) → all_differ ys ≡ true → is_among x ys ≡ true → length ys ≡ 1 + length (without x ys)
length-without x [] differ among = absurd (false≢true among)
length-without x (y ∷ ys) differ among =
    let parts = and_parts (not (is_among y ys)) (all_differ ys) differ in
    elim (cases_eq x y) [
      | inl same ↦
          let gone : is_among x ys ≡ false = rw same (not-true (is_among y ys) parts.0) in
          rw (eq-eqb x y same, without-none x ys gone) (omega arith)
      | inr other ↦
          let test : eqb x y ≡ false = ne_eqb x y other in
          let rest : is_among x ys ≡ true = rw test at among in
          rw test (omega (arith, length-without x ys parts.1 rest))
    ]

-- the one that is equal to it
pub only : (x : ℕ) (ys : List ℕ) → all_differ ys ≡ true → is_among x ys ≡ true → filter (λ y. eqb x y) ys ≡ x ∷ []
only x [] differ among = absurd (false≢true among)
only x (y ∷ ys) differ among =
    let parts = and_parts (not (is_among y ys)) (all_differ ys) differ in
    elim (cases_eq x y) [
      | inl same ↦
          let gone : is_among x ys ≡ false = rw same (not-true (is_among y ys) parts.0) in
          rw (eq-eqb x y same, nothing x ys gone, ← same) refl
      | inr other ↦
          let test : eqb x y ≡ false = ne_eqb x y other in
          let rest : is_among x ys ≡ true = rw test at among in
          rw test (only x ys parts.1 rest)
    ]
  where
    nothing : (x : ℕ) (ys : List ℕ) → is_among x ys ≡ false → filter (λ y. eqb x y) ys ≡ []
    nothing x [] gone = refl
    nothing x (y ∷ ys) gone = let parts = or_parts (eqb x y) (is_among x ys) gone in rw parts.0 (nothing x ys parts.1)
