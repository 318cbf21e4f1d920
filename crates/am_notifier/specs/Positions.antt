-- The positions of an instance among the replicas of all tenants.
use Rattle.std.specs.Prelude.{ℕ, Bool, ◌==◌, true, false, List, Option, Some, None, unwrap_or}
use Rattle.std.specs.Map.{lookup}
use Rattle.am_notifier.specs.declared.position.Position.{Position}
use Rattle.am_notifier.specs.declared.position.Position.TheVariants.{First, Second, Third}
use Rattle.am_tenant.specs.Names.{same}

-- the number of a position
abbrev pub number_of : Position → ℕ
number_of First = 0
number_of Second = 1
number_of Third = 2

-- the position for a tenant: the one that was set, or else the first
unfoldable pub position_of : List ℕ → List (List ℕ × Option Position) → Option Position
position_of t own = unwrap_or (lookup (λ s. same t s) own) (Some First)

-- the same position, or none both times
abbrev pub is_same_position : Option ℕ → Option ℕ → Bool
is_same_position None None = true
is_same_position None (Some b) = false
is_same_position (Some a) None = false
is_same_position (Some a) (Some b) = a == b
