-- The rings so far. A join or a leave makes the next one, and nothing else does; the epoch of a ring tells how many
-- made it.
use Rattle.std.specs.Prelude.{ℕ, ◌+◌, ◌-◌, Bool, List, [], length, take, slice_get, unwrap_or}
use Rattle.std.specs.List.{list_all}
use Rattle.am_ring.specs.Instances.{is_among}

-- the instances of each ring, in order of number; a ring's place in the list is its epoch
abbrev pub Rings : Type 0
Rings = List (List ℕ)

-- the ring of an epoch
abbrev pub ring_at : (epoch : ℕ) → Rings → List ℕ
ring_at epoch rings = unwrap_or (slice_get rings epoch) []

-- the epoch of the newest ring, and that ring
abbrev pub newest_epoch : Rings → ℕ
newest_epoch rings = length rings - 1

abbrev pub newest_ring : Rings → List ℕ
newest_ring rings = ring_at (newest_epoch rings) rings

-- the instance is one of the replicas, where these are so by ring, under every ring from the first one up to that of
-- an epoch
unfoldable pub is_always_replica : (replicas_by : List ℕ → List ℕ) → (epoch : ℕ) → Rings → (i : ℕ) → Bool
is_always_replica replicas_by epoch rings i = list_all (λ ring. is_among i (replicas_by ring)) (take (epoch + 1) rings)
