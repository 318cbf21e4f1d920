-- What is had of all tenants, as one of them changes.
use Rattle.std.proofs.Common.{◌≡◌, ℕ, false, cond, inl, inr, List, refl, sym, ap, ◌∙◌, if◌then◌else◌}
use Rattle.am_tenant.specs.Names.{same}
use Rattle.am_tenant.proofs.Same.{same_tells, same-refl}

-- what a clause says of the tenant itself
pub own : {A : Type 0} (s : List ℕ) (x y z : A) → z ≡ (if same s s then x else y) → z ≡ x
own s x y z is = is ∙ rw (same-refl s) refl

-- and of another
pub other : {A : Type 0} (t s : List ℕ) (x y z : A) → same t s ≡ false → z ≡ (if same t s then x else y) → z ≡ y
other t s x y z apart is = is ∙ rw apart refl

-- one has what is made of it, and the others have what they had
pub one_changes : {P : Type 0} (s : List ℕ) (make : P → P) (before after : List ℕ → P) → after s ≡ make (before s)
    → ((t : List ℕ) → same t s ≡ false → after t ≡ before t) → (t : List ℕ)
    → after t ≡ cond (same t s) (make (before t)) (before t)
one_changes s make before after own others t = elim (same_tells t s) [
  | inl is ↦ rw is.0 (ap after is.1 ∙ own ∙ ap (λ r. make (before r)) (sym is.1))
  | inr apart ↦ rw apart.0 (others t apart.0)
]
