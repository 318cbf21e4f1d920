-- The three nearest instances are the replicas, in order of position.
use Rattle.std.proofs.Common.{◌≡◌, ℕ, zero, suc, ◌+◌, ◌<◌, ◌≤◌, Bool, true, false, ◌&&◌, ◌||◌, cond, eqb, ltb, List, [], ◌∷◌, length, filter, Option, Some, None, refl, sym, ap, ◌∙◌, inl, inr, arith}
use Rattle.std.specs.Prelude.{position}
use Rattle.std.proofs.lemmas.Bool.{and_right, cases_eq, eq-eqb, le-ltb, ne_eqb}
use Rattle.am_labels.specs.Hashes.{place}
use Rattle.am_ring.specs.Instances.{all_differ, flagged, is_among}
use Rattle.am_ring.specs.Changes.{without}
use Rattle.am_ring.specs.Replicas.{IsFirst, count_before, is_replica, position_of, replicas, stands_before}
use Rattle.am_ring.proofs.Lists.{all_differ-filter, among-filter, length-without}
use Rattle.am_ring.proofs.Order.{at_next, at_zero, one_at}
use Rattle.am_ring.proofs.Strict.{strict}
use Rattle.am_ring.proofs.Flags.{members_differ}

pub nearest_three : (tenant ring : List ℕ) (x y z : ℕ) → all_differ ring ≡ true → IsFirst (stands_before (place tenant)) ring x →
    IsFirst (stands_before (place tenant)) (without x ring) y → IsFirst (stands_before (place tenant)) (without y (without x ring)) z →
    replicas tenant ring ≡ x ∷ y ∷ z ∷ []
unfolding replicas
nearest_three tenant ring x y z differ first second third =
    let lt = stands_before (place tenant) in
    let o = strict (place tenant) in
    let differ' : all_differ (without x ring) ≡ true = all_differ-filter _ ring differ in
    let differ'' : all_differ (without y (without x ring)) ≡ true = all_differ-filter _ (without x ring) differ' in
    rw (
      at_zero lt o ring x differ first,
      at_next lt o ring x 0 differ first,
      at_next lt o ring x 1 differ first,
      at_zero lt o (without x ring) y differ' second,
      at_next lt o (without x ring) y 0 differ' second,
      at_zero lt o (without y (without x ring)) z differ'' third,
    ) refl

-- what is left when one was taken out
pub fewer : (flags flags' : List Bool) (x n : ℕ) → flagged flags' ≡ without x (flagged flags) → is_among x (flagged flags) ≡ true →
    n + 1 < length (flagged flags) → n < length (flagged flags')
fewer flags flags' x n left among lt = rw left (omega (arith, lt, length-without x (flagged flags) (members_differ flags) among))

single : (tenant ring : List ℕ) (i n : ℕ) → all_differ ring ≡ true → n < length ring →
    (x : ℕ) × (filter (λ j. eqb (count_before (place tenant) ring j) n) ring ≡ x ∷ []) × (eqb x i ≡ (eqb (count_before (place tenant) ring i) n && is_among i ring))
single tenant ring i n differ lt =
    let one = one_at (stands_before (place tenant)) (strict (place tenant)) n ring differ lt in
    (one.0, one.1, at_end one.0 (sym (ap (is_among i) one.1) ∙ among-filter (λ j. eqb (count_before (place tenant) ring j) n) i ring))
  where
    turned : (x : ℕ) → eqb x i ≡ eqb i x
    turned x = elim (cases_eq x i) [ inl same ↦ eq-eqb x i same ∙ sym (eq-eqb i x (sym same)) | inr other ↦ ne_eqb x i other ∙ sym (ne_eqb i x (λ e. other (sym e))) ]

    or_false : (b c : Bool) → (b || false) ≡ c → b ≡ c
    or_false true c e = e
    or_false false c e = e

    at_end : (x : ℕ) → is_among i (x ∷ []) ≡ (eqb (count_before (place tenant) ring i) n && is_among i ring) → eqb x i ≡ (eqb (count_before (place tenant) ring i) n && is_among i ring)
    at_end x e = turned x ∙ or_false (eqb i x) _ e

-- the first of three that passes
abbrev first_of_three : Bool → Bool → Bool → Option ℕ
first_of_three p q r = cond p (Some 0) (cond q (Some 1) (cond r (Some 2) None))

in_three : (p : ℕ → Bool) (x y z : ℕ) → position p (x ∷ y ∷ z ∷ []) ≡ first_of_three (p x) (p y) (p z)
in_three p x y z = at_tests (p x) (p y) (p z) refl refl refl
  where
    at_tests : (a b c : Bool) → p x ≡ a → p y ≡ b → p z ≡ c → position p (x ∷ y ∷ z ∷ []) ≡ first_of_three a b c
    at_tests true b c e f g = rw e refl
    at_tests false true c e f g = rw (e, f) refl
    at_tests false false true e f g = rw (e, f, g) refl
    at_tests false false false e f g = rw (e, f, g) refl

by_count : (n : ℕ) (among : Bool) → first_of_three (eqb n 0 && among) (eqb n 1 && among) (eqb n 2 && among) ≡ cond (among && ltb n 3) (Some n) None
by_count zero true = refl
by_count (suc zero) true = refl
by_count (suc (suc zero)) true = refl
by_count (suc (suc (suc n))) true =
    rw (
      ne_eqb (suc (suc (suc n))) 0 (λ e. omega arith),
      ne_eqb (suc (suc (suc n))) 1 (λ e. omega arith),
      ne_eqb (suc (suc (suc n))) 2 (λ e. omega arith),
      le-ltb (suc (suc (suc n))) 3 (omega arith),
    ) refl
by_count n false = rw (and_right (eqb n 0) false refl, and_right (eqb n 1) false refl, and_right (eqb n 2) false refl) refl

-- where an instance stands among the replicas is its position
pub position_is : (tenant ring : List ℕ) (i : ℕ) → all_differ ring ≡ true → 3 ≤ length ring → position (λ j. eqb j i) (replicas tenant ring) ≡ position_of tenant ring i
unfolding replicas position_of is_replica
position_is tenant ring i differ enough =
    let x = single tenant ring i 0 differ (omega arith) in
    let y = single tenant ring i 1 differ (omega arith) in
    let z = single tenant ring i 2 differ (omega arith) in
    rw (x.1, y.1, z.1) (in_three (λ j. eqb j i) x.0 y.0 z.0 ∙ rw (x.2, y.2, z.2) (by_count (count_before (place tenant) ring i) (is_among i ring)))
