-- The paces of all tenants' routes.
use Rattle.std.specs.Prelude.{ℕ, List, unwrap_or}
use Rattle.std.specs.Map.{lookup}
use Rattle.am_tenant.specs.Names.{same}
use Rattle.am_planning.specs.declared.pace.Pace.{Pace}
use Rattle.am_planning.specs.Planning.{default_paces}

-- the paces of a tenant's routes, by the number of the route: those that were set, or else those without a configuration
unfoldable pub paces_of : List ℕ → List (List ℕ × List Pace) → List Pace
paces_of t own = unwrap_or (lookup (λ s. same t s) own) default_paces
