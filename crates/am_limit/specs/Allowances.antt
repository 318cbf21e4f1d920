-- The allowances of all tenants at an instance, as pairs of a tenant and what its allowance holds.
use Rattle.std.specs.Prelude.{ℕ, List, unwrap_or}
use Rattle.std.specs.Map.{lookup}
use Rattle.am_tenant.specs.Names.{same}
use Rattle.am_limit.specs.Limits.{Count, after_asking, fresh, with_limit}

-- what a tenant's allowance holds: nothing where none was asked for
unfoldable pub allowance_of : List ℕ → List (List ℕ × Count) → Count
allowance_of t allowances = unwrap_or (lookup (λ s. same t s) allowances) (fresh 0)

-- once one more notice was asked for at a moment, where so many may be given a minute
abbrev pub asked : (limit moment : ℕ) → Count → Count
asked limit moment count = after_asking (with_limit count limit) moment
