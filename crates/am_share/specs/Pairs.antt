-- What a part holds of all tenants, as pairs of a tenant and a thing.
use Rattle.std.specs.Prelude.{◌≡◌, ℕ, false, List, [], filter, map, if◌then◌else◌}
use Rattle.am_tenant.specs.Names.{same}

-- the things of a tenant, in their order
unfoldable pub things_of : {X : Type 0} → List ℕ → List (List ℕ × X) → List X
things_of t pairs = map (λ p. p.1) (filter (λ p. same t p.0) pairs)

-- the lists of all tenants but this one stay
abbrev pub LeavesOthers : {X : Type 0} → List ℕ → List (List ℕ × X) → List (List ℕ × X) → Type 0
LeavesOthers tenant old new = (t : List ℕ) → same t tenant ≡ false → things_of t new ≡ things_of t old

-- nothing of this tenant is left, and the lists of all others stay
abbrev pub Drops : {X : Type 0} → List ℕ → List (List ℕ × X) → List (List ℕ × X) → Type 0
Drops tenant old new = (t : List ℕ) → things_of t new ≡ (if same t tenant then [] else things_of t old)
