-- What is seen of instances by their numbers, before and after something happened.
use Rattle.std.proofs.Common.{◌≡◌, ◌∙◌, inl, inr, ℕ, ◌==◌, nat_eq, ◌≤◌, suc, Bool, true, false, List, [], ◌∷◌}
use Rattle.std.proofs.Common.{map, find, Contains, Option, None, Some, is_some, refl, sym, ap, subst, arith}
use Rattle.std.specs.List.{list_any}
use Rattle.std.proofs.lemmas.Bool.{cases_Bool, true≢false}
use Rattle.std.proofs.lemmas.Bool.Decides.{nat_tests}
use Rattle.std.proofs.lemmas.List.Elements.{Contains-append_right}
use Rattle.am_ring.specs.Instances.{all_instances}
use Rattle.am_instance.specs.declared.instance.Instance.{Instance}
use Rattle.am_world.specs.Places.{AreNumbered, ChangesAt, SameElsewhere, Turns, instance_at}

pub elsewhere_then : (i : ℕ) (xs ys zs : List Instance) → SameElsewhere i xs ys → SameElsewhere i ys zs
    → SameElsewhere i xs zs
elsewhere_then i xs ys zs first next j other = next j other ∙ first j other

pub one_found : (x y : Instance) (o : Option Instance) → o ≡ Some x → o ≡ Some y → y ≡ x
one_found x y o e f =
    let both : Some y ≡ Some x = sym f ∙ e in
    cc

pub same_number : (i : ℕ) → nat_eq i i ≡ true
same_number i = grind (arith, nat_tests)

-- ---- who is there

-- whether there is one of the number is told by the numbers alone
found_by : (i : ℕ) (xs : List Instance)
    → is_some (instance_at i xs) ≡ list_any (λ n. n == i) (map (λ (x : Instance). x.number) xs)
unfolding instance_at
found_by i [] = refl
found_by i (x ∷ xs) = elim (cases_Bool (nat_eq x.number i)) [ inl h ↦ rw h refl | inr h ↦ rw h (found_by i xs) ]

found_alike : (i : ℕ) (xs ys : List Instance) → AreNumbered xs → AreNumbered ys
    → is_some (instance_at i ys) ≡ is_some (instance_at i xs)
found_alike i xs ys e f =
    found_by i ys ∙ ap (list_any (λ n. n == i)) (f ∙ sym e) ∙ sym (found_by i xs)

contained_by : (i : ℕ) (ns : List ℕ) → list_any (λ n. n == i) ns ≡ true → Contains ns i
contained_by i [] any = absurd (true≢false (sym any))
contained_by i (n ∷ ns) any = elim (cases_Bool (nat_eq n i)) [
  | inl h ↦ let same : n ≡ i = grind (arith, nat_tests) in (0, omega arith, same)
  | inr h ↦ Contains-append_right (n ∷ []) ns i (contained_by i ns (rw h at any))
]

-- who is found is one of the instances
pub found_one : (i : ℕ) (xs : List Instance) → AreNumbered xs → is_some (instance_at i xs) ≡ true
    → Contains all_instances i
found_one i xs e found =
    contained_by i all_instances (sym (ap (list_any (λ n. n == i)) e) ∙ sym (found_by i xs) ∙ found)

-- ---- what changes

-- What is so related where there is no instance, and where this happened to it, is so related by the number.
pub turned_here : (S : Option Instance → Option Instance → Type 0) → S None None → (R : Instance → Instance → Type 0)
    → ((x x' : Instance) → R x x' → S (Some x) (Some x')) → (i : ℕ) (xs ys : List Instance) → AreNumbered xs
    → AreNumbered ys → Turns i R xs ys → S (instance_at i xs) (instance_at i ys)
turned_here S none R are i xs ys e f turns = by_found (instance_at i xs) (instance_at i ys) refl refl
  where
    by_found : (o o' : Option Instance) → instance_at i xs ≡ o → instance_at i ys ≡ o' → S o o'
    by_found None None here there = none
    by_found None (Some x') here there =
        absurd (true≢false (sym (ap is_some there) ∙ found_alike i xs ys e f ∙ ap is_some here))
    by_found (Some x) None here there =
        absurd (true≢false (sym (ap is_some here) ∙ sym (found_alike i xs ys e f) ∙ ap is_some there))
    by_found (Some x) (Some x') here there = are x x' (turns x x' here there)

-- .. of every number, where it happened to one alone
pub turned : (S : Option Instance → Option Instance → Type 0) → ((o : Option Instance) → S o o)
    → (R : Instance → Instance → Type 0) → ((x x' : Instance) → R x x' → S (Some x) (Some x')) → (i : ℕ)
    (xs ys : List Instance) → AreNumbered xs → ChangesAt i xs ys → Turns i R xs ys → (j : ℕ)
    → S (instance_at j xs) (instance_at j ys)
turned S same R are i xs ys e change turns j = elim (cases_Bool (nat_eq j i)) [
  | inl h ↦
      let here : i ≡ j = grind (arith, nat_tests) in
      subst (λ k. S (instance_at k xs) (instance_at k ys)) here
      (turned_here S (same None) R are i xs ys e change.numbered turns)
  | inr h ↦ subst (S (instance_at j xs)) (sym (change.others j h)) (same (instance_at j xs))
]

-- what happened to one, and is so of each to which nothing happened, is so of all
pub turns_each : (R : Instance → Instance → Type 0) → ((x : Instance) → R x x) → (i : ℕ) (xs ys : List Instance)
    → SameElsewhere i xs ys → Turns i R xs ys → (j : ℕ) → Turns j R xs ys
turns_each R same i xs ys others turns j x x' here there = elim (cases_Bool (nat_eq j i)) [
  | inl h ↦
      let at : j ≡ i = grind (arith, nat_tests) in
      turns x x' (sym (ap (λ k. instance_at k xs) at) ∙ here) (sym (ap (λ k. instance_at k ys) at) ∙ there)
  | inr h ↦ subst (R x) (sym (one_found x x' (instance_at j xs) here (sym (others j h) ∙ there))) (same x)
]

-- ---- who is found by another test is found by its number

abbrev CountFrom : ℕ → List ℕ → Type 0
CountFrom n [] = Unit {0}
CountFrom n (m ∷ ms) = (m ≡ n) × CountFrom (suc n) ms

found_above : (n : ℕ) (p : Instance → Bool) (xs : List Instance) (x : Instance)
    → CountFrom n (map (λ (y : Instance). y.number) xs) → find p xs ≡ Some x → n ≤ x.number
found_above n p [] x counts found = absurd cc
found_above n p (y ∷ xs) x (first, rest) found = elim (cases_Bool (p y)) [
  | inl h ↦
      let e = rw h at found in
      let same : y ≡ x = cc in
      let number : x.number ≡ n = ap (λ (z : Instance). z.number) (sym same) ∙ first in
      omega arith
  | inr h ↦ let above = found_above (suc n) p xs x rest (rw h at found) in omega arith
]

found_itself : (n : ℕ) (p : Instance → Bool) (xs : List Instance) (x : Instance)
    → CountFrom n (map (λ (y : Instance). y.number) xs) → find p xs ≡ Some x
    → find (λ (z : Instance). z.number == x.number) xs ≡ Some x
found_itself n p [] x counts found = absurd cc
found_itself n p (y ∷ xs) x (first, rest) found = elim (cases_Bool (p y)) [
  | inl h ↦
      let e = rw h at found in
      let same : y ≡ x = cc in
      let number : y.number ≡ x.number = ap (λ (z : Instance). z.number) same in
      let test : nat_eq y.number x.number ≡ true = grind (arith, nat_tests) in
      rw test (ap Some same)
  | inr h ↦
      let above = found_above (suc n) p xs x rest (rw h at found) in
      let test : nat_eq y.number x.number ≡ false = grind (arith, nat_tests) in
      rw test (found_itself (suc n) p xs x rest (rw h at found))
]

pub found_at : (p : Instance → Bool) (xs : List Instance) (x : Instance) → AreNumbered xs → find p xs ≡ Some x
    → instance_at x.number xs ≡ Some x
unfolding instance_at
found_at p xs x e found =
    let counts : CountFrom 1 all_instances = (refl, (refl, (refl, (refl, (refl, (refl, (refl, (refl, tt)))))))) in
    found_itself 1 p xs x (subst (CountFrom 1) (sym e) counts) found

pub passes : (p : Instance → Bool) (xs : List Instance) (x : Instance) → find p xs ≡ Some x → p x ≡ true
passes p [] x found = absurd cc
passes p (y ∷ xs) x found = elim (cases_Bool (p y)) [
  | inl h ↦ let e = rw h at found in let same : y ≡ x = cc in ap p (sym same) ∙ h
  | inr h ↦ passes p xs x (rw h at found)
]

-- where no such one is found, one that another test finds is none
pub passed_over : (p q : Instance → Bool) (xs : List Instance) (x : Instance) → find p xs ≡ None → find q xs ≡ Some x
    → p x ≡ false
passed_over p q [] x none found = absurd cc
passed_over p q (y ∷ xs) x none found = elim (cases_Bool (p y)) [
  | inl h ↦ let never = rw h at none in absurd cc
  | inr h ↦ elim (cases_Bool (q y)) [
    | inl k ↦ let e = rw k at found in let same : y ≡ x = cc in ap p (sym same) ∙ h
    | inr k ↦ passed_over p q xs x (rw h at none) (rw k at found)
  ]
]
