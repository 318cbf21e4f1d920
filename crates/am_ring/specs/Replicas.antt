-- The replicas of a tenant: the three instances of a ring that are nearest to its place.
use Rattle.std.specs.Prelude.{◌≡◌, ◌≢◌, ℕ, ◌≤◌, Bool, true, ◌&&◌, ◌||◌, not, nat_lt, ◌==◌, List, [], ◌∷◌, count_by, filter, Option, Some, None, if◌then◌else◌}
use Rattle.std.specs.List.{flat_map}
use Rattle.am_labels.specs.Hashes.{place}
use Rattle.am_ring.specs.Instances.{all_instances, is_among}
use Rattle.am_ring.specs.Distances.{distance}

-- instance i stands before instance j: it is nearer to the place, or as near with the lower number
unfoldable pub stands_before : ℕ → ℕ → ℕ → Bool
stands_before place i j =
    nat_lt (distance place i) (distance place j) || (distance place i == distance place j && nat_lt i j)

-- how many of a ring stand before an instance
abbrev pub count_before : ℕ → List ℕ → ℕ → ℕ
count_before place ring i = count_by (λ j. stands_before place j i) ring

-- a tenant's replica: an instance of the ring before which fewer than three of it stand
unfoldable pub is_replica : List ℕ → List ℕ → ℕ → Bool
is_replica tenant ring i = is_among i ring && nat_lt (count_before (place tenant) ring i) 3

-- the position of a replica: how many of the ring stand before it. None of any other instance
unfoldable pub position_of : List ℕ → List ℕ → ℕ → Option ℕ
position_of tenant ring i = if is_replica tenant ring i then Some (count_before (place tenant) ring i) else None

-- the replicas in order of position
unfoldable pub replicas : List ℕ → List ℕ → List ℕ
replicas tenant ring = flat_map (λ n. filter (λ i. count_before (place tenant) ring i == n) ring) (0 ∷ 1 ∷ 2 ∷ [])

-- how many instances are a tenant's replicas in the one ring and not in the other
unfoldable pub count_replaced : List ℕ → List ℕ → List ℕ → ℕ
count_replaced tenant old new = count_by (λ i. is_replica tenant old i && not (is_replica tenant new i)) all_instances

-- at most one replica of a tenant was put in another's place
pub record ReplacesOne (tenant old new : List ℕ) : Type 0 where
  pub lost : count_replaced tenant old new ≤ 1
  pub won : count_replaced tenant new old ≤ 1

-- the instance stands before all others of these
pub record IsFirst (before : ℕ → ℕ → Bool) (instances : List ℕ) (i : ℕ) : Type 0 where
  pub among : is_among i instances ≡ true
  pub first : (j : ℕ) → is_among j instances ≡ true → i ≢ j → before i j ≡ true
