-- what a world is opened with
use Rattle.std.specs.Prelude.{ℕ, Bool, nat_le, ◌&&◌, List}
use Rattle.am_limit.specs.declared.limits.Limits.{Limits}
use Rattle.am_ring.specs.Instances.{may_be_ring}

-- the ring is one, the cache has room for 1 to 65,536 patterns, and the first incarnation isn't 0
abbrev pub is_setup : List ℕ → ℕ → ℕ → Bool
is_setup ring cache start = may_be_ring ring && nat_le 1 cache && nat_le cache 65536 && nat_le 1 start

-- what a tenant's cluster starts from: the service's key, the ring's instances in order of number, the first
-- incarnation, and the limits of a tenant until others are set for it
pub record Origin : Type 0 where
  pub service_key : List ℕ
  pub ring : List ℕ
  pub first : ℕ
  pub limits : Limits

-- the settings of a world: what clusters start from, and the capacity of an instance's cache, of which no tenant's
-- outputs depend
pub record Settings : Type 0 where
  pub origin : Origin
  pub cache : ℕ
