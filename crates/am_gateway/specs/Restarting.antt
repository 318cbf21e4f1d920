-- Which instance is restarted.
use Rattle.std.specs.Prelude.{ℕ, ◌==◌, ◌&&◌, not, nat_lt, Bool, List, [], ◌∷◌, ◌++◌, Option, is_some, if◌then◌else◌}
use Rattle.std.specs.Prelude.{count_by, filter, find}
use Rattle.am_ring.specs.Instances.{all_instances}
use Rattle.am_world.specs.Places.{cause_at, up_at}
use Rattle.am_world.specs.declared.state.State.{State}

-- a fault stopped the instance, and fewer than three restarts of it were in vain since it was last up; for each such
-- restart its number stands in the list
unfoldable pub is_fallen : (vain : List ℕ) → State → ℕ → Bool
is_fallen vain state i = is_some (cause_at i state.instances) && nat_lt (count_by (λ j. j == i) vain) 3

-- the instance that is restarted next: the lowest of these, where one is
unfoldable pub fallen : (vain : List ℕ) → State → Option ℕ
fallen vain state = find (is_fallen vain state) all_instances

-- the list after the instance was restarted: that was in vain where a fault has stopped it
unfoldable pub counted : (vain : List ℕ) → (is_vain : Bool) → ℕ → List ℕ
counted vain is_vain i = if is_vain then vain ++ i ∷ [] else filter (λ j. not (j == i)) vain

-- the list after an event that may have brought instances up: no restart of one that is up was in vain since
unfoldable pub vain_since : (vain : List ℕ) → State → List ℕ
vain_since vain state = filter (λ j. not (up_at j state.instances)) vain
