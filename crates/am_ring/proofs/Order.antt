-- What stands before what in a list of different numbers, by a strict order.
use Rattle.std.proofs.Common.{◌≡◌, ◌≢◌, ℕ, zero, suc, ◌+◌, ◌≤◌, ◌<◌, Bool, true, false, ◌&&◌, not, eqb, List, [], ◌∷◌, length, filter, count_by, refl, sym, ◌∙◌, inl, inr, arith}
use Rattle.std.proofs.lemmas.Bool.{cases_Bool, cases_eq, eq-eqb, eqb-true, ne_eqb, or_cases, false_from_ne_true, false≢true, both_ways}
use Rattle.am_ring.specs.Instances.{all_differ, is_among}
use Rattle.am_ring.specs.Changes.{without}
use Rattle.am_ring.specs.Replicas.{IsFirst}
use Rattle.am_ring.proofs.Lists.{all_differ-filter, count-none, count-without, filter-agree, filter-filter, head_among, length-without, only, tail_among}

pub record IsStrictOrder (lt : ℕ → ℕ → Bool) : Type 0 where
  pub irreflexive : (i : ℕ) → lt i i ≡ false
  pub transitive : (i j k : ℕ) → lt i j ≡ true → lt j k ≡ true → lt i k ≡ true
  pub total : (i j : ℕ) → i ≢ j → lt i j ≡ false → lt j i ≡ true

-- how many of a list stand before a number
abbrev pub rank : (ℕ → ℕ → Bool) → List ℕ → ℕ → ℕ
rank lt ys i = count_by (λ j. lt j i) ys

asymmetric : (lt : ℕ → ℕ → Bool) → IsStrictOrder lt → (i j : ℕ) → lt i j ≡ true → lt j i ≡ false
asymmetric lt o i j e = false_from_ne_true (lt j i) (λ f. both_ways (lt i i) (o.irreflexive i) (o.transitive i j i e f))

-- none stands before the first one
pub rank-first : (lt : ℕ → ℕ → Bool) → IsStrictOrder lt → (ys : List ℕ) (x : ℕ) → IsFirst lt ys x → rank lt ys x ≡ 0
rank-first lt o ys x first =
    count-none (λ j. lt j x) ys (λ y e. elim (cases_eq x y) [
      | inl same ↦ rw (← same) (o.irreflexive x)
      | inr other ↦ asymmetric lt o x y (first.first y e other)
    ])

-- before another stands the first one, and what stands before it among the others
pub rank-other : (lt : ℕ → ℕ → Bool) (ys : List ℕ) (x y : ℕ) → all_differ ys ≡ true → IsFirst lt ys x → is_among y ys ≡ true → x ≢ y → rank lt ys y ≡ 1 + rank lt (without x ys) y
rank-other lt ys x y differ first among other =
    count-without (λ j. lt j y) x ys differ first.among ∙ rw (first.first y among other) refl

-- the first one is at position 0
pub at_zero : (lt : ℕ → ℕ → Bool) → IsStrictOrder lt → (ys : List ℕ) (x : ℕ) → all_differ ys ≡ true → IsFirst lt ys x → filter (λ i. eqb (rank lt ys i) 0) ys ≡ x ∷ []
at_zero lt o ys x differ first =
    filter-agree (λ i. eqb (rank lt ys i) 0) (λ i. eqb x i) ys (λ i e. elim (cases_eq x i) [
      | inl same ↦ rw (← same, rank-first lt o ys x first, eq-eqb x x refl) refl
      | inr other ↦ ne_eqb (rank lt ys i) 0 (λ none. absurd (omega (arith, rank-other lt ys x i differ first e other))) ∙ sym (ne_eqb x i other)
    ]) ∙ only x ys differ first.among

-- what is at the next position is at this one without the first
pub at_next : (lt : ℕ → ℕ → Bool) → IsStrictOrder lt → (ys : List ℕ) (x n : ℕ) → all_differ ys ≡ true → IsFirst lt ys x →
    filter (λ i. eqb (rank lt ys i) (suc n)) ys ≡ filter (λ i. eqb (rank lt (without x ys) i) n) (without x ys)
at_next lt o ys x n differ first =
    filter-agree (λ i. eqb (rank lt ys i) (suc n)) (λ i. not (eqb x i) && eqb (rank lt (without x ys) i) n) ys (λ i e. elim (cases_eq x i) [
      | inl same ↦ rw (← same, rank-first lt o ys x first, eq-eqb x x refl) (ne_eqb 0 (suc n) (λ e. omega arith))
      | inr other ↦ rw (ne_eqb x i other) (one_less (rank lt ys i) (rank lt (without x ys) i) (rank-other lt ys x i differ first e other))
    ]) ∙ sym (filter-filter (λ i. eqb (rank lt (without x ys) i) n) (λ i. not (eqb x i)) ys)
  where
    one_less : (a b : ℕ) → a ≡ 1 + b → eqb a (suc n) ≡ eqb b n
    one_less a b e = elim (cases_eq b n) [
      | inl same ↦ eq-eqb a (suc n) (omega arith) ∙ sym (eq-eqb b n same)
      | inr other ↦ ne_eqb a (suc n) (λ f. other (omega arith)) ∙ sym (ne_eqb b n other)
    ]

-- one more in front
first_more : (lt : ℕ → ℕ → Bool) → IsStrictOrder lt → (y : ℕ) (ys : List ℕ) (x : ℕ) → IsFirst lt ys x → (z : ℕ) × IsFirst lt (y ∷ ys) z
first_more lt o y ys x first =
    elim (cases_Bool (lt y x)) [
      | inl before ↦ (
        y,
        record {
          among = head_among y ys;
          first = λ w e other. elim (or_cases (eqb w y) (is_among w ys) e) [
            | inl same ↦ absurd (other (sym (eqb-true w y same)))
            | inr among ↦ elim (cases_eq x w) [
              | inl same ↦ rw (← same) before
              | inr apart ↦ o.transitive y x w before (first.first w among apart)
            ]
          ];
        },
      )
      | inr not_before ↦ (
        x,
        record {
          among = tail_among x y ys first.among;
          first = λ w e other. elim (or_cases (eqb w y) (is_among w ys) e) [
            | inl same ↦
                let is : w ≡ y = eqb-true w y same in
                rw is (o.total y x (λ back. other (sym back ∙ sym is)) not_before)
            | inr among ↦ first.first w among other
          ];
        },
      )
    ]

-- each list that isn't empty has a first one
pub first_of : (lt : ℕ → ℕ → Bool) → IsStrictOrder lt → (ys : List ℕ) → 0 < length ys → (x : ℕ) × IsFirst lt ys x
first_of lt o [] some = absurd (omega arith)
first_of lt o (y ∷ []) some = (
  y,
  record {
    among = head_among y [];
    first = λ w e other. elim (or_cases (eqb w y) false e) [
      | inl same ↦ absurd (other (sym (eqb-true w y same)))
      | inr nobody ↦ absurd (false≢true nobody)
    ];
  },
)
first_of lt o (y ∷ z ∷ ys) some =
    let rest = first_of lt o (z ∷ ys) (omega arith) in
    first_more lt o y (z ∷ ys) rest.0 rest.1

-- at each position there is one at most
pub at_most_one : (lt : ℕ → ℕ → Bool) → IsStrictOrder lt → (n : ℕ) (ys : List ℕ) → all_differ ys ≡ true → length (filter (λ i. eqb (rank lt ys i) n) ys) ≤ 1
at_most_one lt o n [] differ = omega arith
at_most_one lt o zero (y ∷ ys) differ =
    let first = first_of lt o (y ∷ ys) (omega arith) in
    rw (at_zero lt o (y ∷ ys) first.0 differ first.1) (omega arith)
at_most_one lt o (suc n) (y ∷ ys) differ =
    let first = first_of lt o (y ∷ ys) (omega arith) in
    rw (at_next lt o (y ∷ ys) first.0 n differ first.1)
    (at_most_one lt o n (without first.0 (y ∷ ys)) (all_differ-filter (λ i. not (eqb first.0 i)) (y ∷ ys) differ))

-- at each position below the length there is one
pub one_at : (lt : ℕ → ℕ → Bool) → IsStrictOrder lt → (n : ℕ) (ys : List ℕ) → all_differ ys ≡ true → n < length ys → (x : ℕ) × (filter (λ i. eqb (rank lt ys i) n) ys ≡ x ∷ [])
one_at lt o zero ys differ some =
    let first = first_of lt o ys some in
    (first.0, at_zero lt o ys first.0 differ first.1)
one_at lt o (suc n) ys differ some =
    let first = first_of lt o ys (omega arith) in
    let fewer : n < length (without first.0 ys) = omega (arith, length-without first.0 ys differ first.1.among) in
    let next = one_at lt o n (without first.0 ys) (all_differ-filter (λ i. not (eqb first.0 i)) ys differ) fewer in
    (next.0, at_next lt o ys first.0 n differ first.1 ∙ next.1)
