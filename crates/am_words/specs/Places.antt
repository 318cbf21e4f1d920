-- Places as pairs of a tenant and a place.
use Rattle.std.specs.Prelude.{List, ℕ, unwrap_or}
use Rattle.std.specs.Map.{lookup}
use Rattle.am_tenant.specs.Names.{same}

-- the place of a tenant's next word, 0 where none is kept
unfoldable pub place_of : List ℕ → List (List ℕ × ℕ) → ℕ
place_of t places = unwrap_or (lookup (λ s. same t s) places) 0
