-- The ring, for which tenants each instance is settled, and what it shows.
use Rattle.std.specs.Prelude.{ℕ, ◌≡◌, ◌-◌, [], Option, None, Some, length}
use Rattle.am_instance.specs.Here.{Circumstances}
use Rattle.am_instance.specs.Standing.{IsStanding}
use Rattle.am_instance.specs.declared.instance.Instance.{Instance}
use Rattle.am_instance.specs.declared.standing.Standing.{Standing}
use Rattle.am_world.specs.Consistent.{around_at}
use Rattle.am_world.specs.Places.{instance_at}
use Rattle.am_world.specs.declared.common.Common.{Common}
use Rattle.am_world.specs.declared.state.State.{State}

-- the epoch of the newest ring
abbrev pub newest_epoch : Common → ℕ
newest_epoch common = length common.rings.items - 1

-- an instance stands so; where there is none of the number, it has nothing of any tenant
abbrev pub StandsWhere : Circumstances → Option Instance → Standing → Type 0
StandsWhere around None standing = (standing.tenants ≡ 0) × (standing.unsettled.items ≡ [])
    × (standing.alerts ≡ 0) × (standing.held_back ≡ 0)
StandsWhere around (Some x) standing = IsStanding around x standing

abbrev pub StandsAt : ℕ → State → Standing → Type 0
StandsAt i w standing = StandsWhere (around_at w.clock w) (instance_at i w.instances) standing
