-- What `same` tells of two names, and that it agrees with their order.
use Rattle.std.proofs.Common.{◌≡◌, ◌≢◌, ◌⊎◌, ℕ, true, false, List, inl, inr, arith}
use Rattle.std.specs.Ordering.{nat_cmp, is_eq}
use Rattle.std.specs.Cmp.Lexicographic.{slice_cmp}
use Rattle.std.proofs.lemmas.Bool.{cases_Bool}
use Rattle.std.proofs.lemmas.Bool.Decides.{not_from_Decides}
use Rattle.std.proofs.lemmas.Slice.Eq.{bytes_eq-Decides}
use Rattle.std.proofs.lemmas.Map.Text.{is_eq-slice_cmp}
use Rattle.am_tenant.specs.Names.{same}

-- the test with what it tells, for `grind`
pub same_tells : (a b : List ℕ) → ((same a b ≡ true) × (a ≡ b)) ⊎ ((same a b ≡ false) × (a ≢ b))
unfolding same
same_tells a b = elim (cases_Bool (same a b)) [
  | inl h ↦ inl (h, (bytes_eq-Decides a b).0 h)
  | inr h ↦ inr (h, not_from_Decides (same a b) (bytes_eq-Decides a b) h)
]

-- for `grind`: what `same` tells of the names that a goal compares
pub ruleset name_tests = (same_tells)

-- the order of names answers `Equal` exactly where they are the same
pub is_eq-name_cmp : (a b : List ℕ) → is_eq (slice_cmp nat_cmp a b) ≡ same a b
unfolding same
is_eq-name_cmp a b = is_eq-slice_cmp a b

-- a name is the same as itself
pub same-refl : (a : List ℕ) → same a a ≡ true
same-refl a = grind (arith, name_tests)

-- two names are the same in either order
pub same-sym : (a b : List ℕ) → same a b ≡ same b a
same-sym a b = grind (arith, name_tests)

-- names that are the same are equal
pub eq_from_same : (a b : List ℕ) → same a b ≡ true → a ≡ b
eq_from_same a b h = grind (arith, name_tests)
