-- The numbers of instances, and lists that have an element for each.
use Rattle.std.proofs.Common.{◌≡◌, ℕ, suc, zero, ◌+◌, ◌-◌, ◌≤◌, ◌<◌, Bool, true, false, cond, eqb, Option, Some, None, List, [], ◌∷◌, map, get_or, refl, sym, subst, inl, inr, arith}
use Rattle.std.specs.Prelude.{IsTrue}
use Rattle.std.specs.List.{list_all, list_any}
use Rattle.std.proofs.lemmas.Bool.{and_from, and_parts, eq-eqb, eqb-true, false≢true, le-leb, leb-true, or_cases}
use Rattle.std.proofs.lemmas.List.Folds.{list_any_at}
use Rattle.am_ring.specs.Instances.{all_instances, is_among, is_instance}

pub record IsWithin (i : ℕ) : Type 0 where
  pub low : 1 ≤ i
  pub high : i ≤ 8

pub within : (i : ℕ) → IsTrue (is_instance i) → IsWithin i
within i is = let parts = and_parts _ _ is in record { low = leb-true _ _ parts.0; high = leb-true _ _ parts.1 }

pub is_instance_from : (i : ℕ) → IsWithin i → IsTrue (is_instance i)
is_instance_from i is = and_from _ _ (le-leb 1 i is.low) (le-leb i 8 is.high)

at_number : {A : Type 0} (f : ℕ → A) (i : ℕ) (d : A) → 1 ≤ i → i ≤ 8 → get_or (map f all_instances) (i - 1) d ≡ f i
at_number f zero d low high = absurd (omega arith)
at_number f (suc zero) d low high = refl
at_number f (suc (suc zero)) d low high = refl
at_number f (suc (suc (suc zero))) d low high = refl
at_number f (suc (suc (suc (suc zero)))) d low high = refl
at_number f (suc (suc (suc (suc (suc zero))))) d low high = refl
at_number f (suc (suc (suc (suc (suc (suc zero)))))) d low high = refl
at_number f (suc (suc (suc (suc (suc (suc (suc zero))))))) d low high = refl
at_number f (suc (suc (suc (suc (suc (suc (suc (suc zero)))))))) d low high = refl
at_number f (suc (suc (suc (suc (suc (suc (suc (suc (suc n))))))))) d low high = absurd (omega arith)

-- what a list of one for each instance has at an instance
pub at_instance : {A : Type 0} (f : ℕ → A) (i : ℕ) (d : A) → IsTrue (is_instance i) → get_or (map f all_instances) (i - 1) d ≡ f i
at_instance f i d is = let w = within i is in at_number f i d w.low w.high

-- the number at a place
pub number_at : (k d : ℕ) → k < 8 → get_or all_instances k d ≡ k + 1
number_at k d lt =
    let one_less : k + 1 - 1 ≡ k = omega arith in
    rw one_less at (at_number (λ i. i) (k + 1) d (omega arith) (omega arith))

pub all_among : (i : ℕ) → IsTrue (is_instance i) → is_among i all_instances ≡ true
all_among i is =
    let w = within i is in
    list_any_at (λ j. eqb i j) all_instances (i - 1) 0 (let low : 1 ≤ i = w.low in let high : i ≤ 8 = w.high in omega arith)
    (eq-eqb i (get_or all_instances (i - 1) 0) (sym (at_instance (λ j. j) i 0 is)))

-- one that passes the one test, where all pass the other, passes both
one_of_all : (p q : ℕ → Bool) (ys : List ℕ) → list_any p ys ≡ true → list_all q ys ≡ true → (y : ℕ) × (p y ≡ true) × (q y ≡ true)
one_of_all p q [] any all = absurd (false≢true any)
one_of_all p q (y ∷ ys) any all =
    let parts = and_parts (q y) (list_all q ys) all in
    elim (or_cases (p y) (list_any p ys) any) [
      | inl here ↦ (y, here, parts.0)
      | inr there ↦ one_of_all p q ys there parts.1
    ]

pub among_all : (i : ℕ) → is_among i all_instances ≡ true → IsTrue (is_instance i)
among_all i among =
    let found = one_of_all (λ j. eqb i j) is_instance all_instances among refl in
    subst (λ (j : ℕ). is_instance j ≡ true) (sym (eqb-true i found.0 found.1)) found.2

-- what `Instance::new` says
pub made : (n i : ℕ) → Some i ≡ cond (is_instance n) (Some n) None → (i ≡ n) × (is_instance n ≡ true)
made n i e = at_test (is_instance n) e
  where
    at_test : (b : Bool) → Some i ≡ cond b (Some n) None → (i ≡ n) × (b ≡ true)
    at_test true e = (cc, refl)
    at_test false e = absurd cc

abbrev nobody : Option ℕ
nobody = None

pub not_made : (n : ℕ) → nobody ≡ cond (is_instance n) (Some n) None → is_instance n ≡ false
not_made n e = at_test (is_instance n) e
  where
    at_test : (b : Bool) → nobody ≡ cond b (Some n) None → b ≡ false
    at_test true e = absurd cc
    at_test false e = refl
