-- Which instances of a world serve.
use Rattle.std.specs.Prelude.{ℕ, Bool, nat_le, Option, count_by, find}
use Rattle.am_ring.specs.Instances.{all_instances}
use Rattle.am_world.specs.Places.{up_at}
use Rattle.am_world.specs.declared.state.State.{State}

-- the instance that connections are opened to: the lowest that is up, where one is
abbrev pub serving_in : State → Option ℕ
serving_in state = find (λ i. up_at i state.instances) all_instances

-- as many instances are up as a tenant's quorum has
abbrev pub has_quorum : State → Bool
has_quorum state = nat_le 2 (count_by (λ i. up_at i state.instances) all_instances)
