-- Counts as pairs of a tenant and a count.
use Rattle.std.specs.Prelude.{List, ℕ, ◌^◌, unwrap_or}
use Rattle.std.specs.Map.{lookup}
use Rattle.am_tenant.specs.Names.{same}

-- the greatest count that a stamp may have
abbrev pub greatest_count : ℕ
greatest_count = 2 ^ 62

-- the count of a tenant, 0 where none is held
unfoldable pub count_of : List ℕ → List (List ℕ × ℕ) → ℕ
count_of t counts = unwrap_or (lookup (λ s. same t s) counts) 0
