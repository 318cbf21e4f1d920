-- The instance of a number, among eight in order of number.
use Rattle.std.proofs.Common.{◌≡◌, ◌∙◌, inl, inr, ℕ, Bool, true, false, not, List, [], ◌∷◌, map, find, Option, Some}
use Rattle.std.proofs.Common.{None, is_some, refl, sym, ap}
use Rattle.std.specs.Prelude.{◌==◌}
use Rattle.std.proofs.lemmas.Bool.{and_parts, cases_Bool, eq-eqb, eqb-true, false≢true, ne_eqb, true≢false}
use Rattle.am_ring.specs.Instances.{all_differ, all_instances, is_among, is_instance}
use Rattle.am_ring.proofs.Numbers.{all_among, among_all}
use Rattle.am_instance.specs.declared.instance.Instance.{Instance}
use Rattle.am_world.specs.Places.{AreNumbered, At, instance_at}

abbrev number_of : Instance → ℕ
number_of x = x.number

-- ---- which there are

swapped : (i j : ℕ) → (i == j) ≡ (j == i)
swapped i j = elim (cases_Bool (i == j)) [
  | inl same ↦ same ∙ sym (eq-eqb j i (sym (eqb-true i j same)))
  | inr apart ↦ apart ∙ sym (ne_eqb j i (λ same. true≢false (sym (eq-eqb i j (sym same)) ∙ apart)))
]

among_found : (i : ℕ) (xs : List Instance) (o : Option Instance) → find (λ (y : Instance). y.number == i) xs ≡ o
    → is_among i (map number_of xs) ≡ is_some o
among_found i [] o found = ap is_some found
among_found i (y ∷ xs) o found = elim (cases_Bool (y.number == i)) [
  | inl here ↦ let e = rw here at found in rw (swapped i y.number ∙ here) (ap is_some e)
  | inr there ↦ rw (swapped i y.number ∙ there) (among_found i xs o (rw there at found))
]

-- there is one of each number of an instance, and no other
pub exists_at : (i : ℕ) (xs : List Instance) (x : Instance) → AreNumbered xs → instance_at i xs ≡ Some x
    → is_instance i ≡ true
unfolding instance_at
exists_at i xs x numbered found =
    among_all i (ap (is_among i) (sym numbered) ∙ among_found i xs (Some x) found)

pub missing_at : (i : ℕ) (xs : List Instance) → AreNumbered xs → instance_at i xs ≡ None → is_instance i ≡ false
unfolding instance_at
missing_at i xs numbered found = elim (cases_Bool (is_instance i)) [
  | inl is ↦
      absurd (false≢true (sym (ap (is_among i) (sym numbered) ∙ among_found i xs None found) ∙ all_among i is))
  | inr isnt ↦ isnt
]

-- ---- what is so of each

module _ {A : Type 0} (f : Instance → A) (a : A) where
  each_from : (xs : List Instance) → all_differ (map number_of xs) ≡ true
      → ((x : Instance) → find (λ (y : Instance). y.number == x.number) xs ≡ Some x → f x ≡ a)
      → map f xs ≡ map (λ (i : ℕ). a) (map number_of xs)
  each_from [] differ is = refl
  each_from (x ∷ xs) differ is =
      let parts = and_parts (not (is_among x.number (map number_of xs))) (all_differ (map number_of xs)) differ in
      let here : (x.number == x.number) ≡ true = eq-eqb x.number x.number refl in
      let first : f x ≡ a = is x (rw here refl) in
      let rest : map f xs ≡ map (λ (i : ℕ). a) (map number_of xs) =
      each_from xs parts.1 (λ y found. is y (later y found parts.0)) in
      ap (λ b. b ∷ map f xs) first ∙ ap (λ bs. a ∷ bs) rest
    where
      denied : (b : Bool) → not b ≡ true → b ≡ false
      denied true e = absurd (false≢true e)
      denied false e = refl

      later : (y : Instance) → find (λ (z : Instance). z.number == y.number) xs ≡ Some y
          → not (is_among x.number (map number_of xs)) ≡ true
          → find (λ (z : Instance). z.number == y.number) (x ∷ xs) ≡ Some y
      later y found none = elim (cases_Bool (x.number == y.number)) [
        | inl same ↦
            absurd (false≢true (sym (denied (is_among x.number (map number_of xs)) none)
            ∙ ap (λ i. is_among i (map number_of xs)) (eqb-true x.number y.number same)
            ∙ among_found y.number xs (Some y) found))
        | inr apart ↦ rw apart found
      ]

  -- if it is so of each instance, then of all of them in order
  pub all_are : (xs : List Instance) → AreNumbered xs → ((i : ℕ) → At i (λ x. f x ≡ a) xs)
      → map f xs ≡ map (λ (i : ℕ). a) all_instances
  unfolding instance_at
  all_are xs numbered is =
      each_from xs (ap all_differ numbered) (λ x found. is x.number x found)
      ∙ ap (map (λ (i : ℕ). a)) numbered
