-- Joins and leaves.
use Rattle.std.specs.Prelude.{ℕ, not, ◌||◌, nat_le, ◌==◌, List, length, filter, Option, Some, None, if◌then◌else◌}
use Rattle.am_ring.specs.declared.refusal.RingRefusal.{RingRefusal}
use Rattle.am_ring.specs.declared.refusal.RingRefusal.TheVariants.{Full, Small, WrongInstance}
use Rattle.am_ring.specs.Instances.{all_instances, is_among, is_instance}

-- the instances with one more
unfoldable pub with_instance : ℕ → List ℕ → List ℕ
with_instance i instances = filter (λ j. i == j || is_among j instances) all_instances

-- the instances without one
abbrev pub without : ℕ → List ℕ → List ℕ
without i instances = filter (λ j. not (i == j)) instances

-- why an instance can't join: all eight are in the ring, else its number is no instance's or it is in the ring
unfoldable pub join_refusal : ℕ → List ℕ → Option RingRefusal
join_refusal i instances =
    if nat_le 8 (length instances) then Some Full
    else if not (is_instance i) || is_among i instances then Some WrongInstance
    else None

-- why an instance can't leave: only three are in the ring, else it isn't in it
unfoldable pub leave_refusal : ℕ → List ℕ → Option RingRefusal
leave_refusal i instances =
    if nat_le (length instances) 3 then Some Small
    else if not (is_among i instances) then Some WrongInstance
    else None
