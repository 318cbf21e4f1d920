-- What an instance goes by where something happens to a tenant, beside what it has of the tenant.
use Rattle.std.specs.Prelude.{ℕ, ◌-◌, Bool, not, ◌==◌, List, Option, filter, position, slice_get, unwrap_or}
use Rattle.am_context.specs.declared.context.Context.{Context as NodeContext}
use Rattle.am_ring.specs.Instances.{is_among}
use Rattle.am_limit.specs.declared.limits.Limits.{Limits}
use Rattle.am_transfer.specs.Peers.{Peer, peer}

-- whose it is; its number and its incarnation; the moment; the tenant's limits; of the ring that it knows the epoch
-- and the tenant's three replicas, in order of position; whether it has stayed: it was never joined or restarted, and
-- was one of the three under every ring that it has known; and the present incarnations of all instances, in order of
-- number
pub record Here : Type 0 where
  pub tenant : List ℕ
  pub instance : ℕ
  pub incarnation : ℕ
  pub moment : ℕ
  pub limits : Limits
  pub epoch : ℕ
  pub three : List ℕ
  pub stayed : Bool
  pub incarnations : List ℕ

-- what an instance by itself goes by
abbrev pub replica_here : Here → NodeContext
replica_here here = record {
  instance = here.instance;
  incarnation = here.incarnation;
  moment = here.moment;
  limits = here.limits;
}

-- the instance is one of the tenant's three replicas
abbrev pub is_replica_here : Here → Bool
is_replica_here here = is_among here.instance here.three

-- its position among them
abbrev pub position_here : Here → Option ℕ
position_here here = position (λ i. i == here.instance) here.three

-- the other two, in order of position
abbrev pub others : Here → List ℕ
others here = filter (λ i. not (i == here.instance)) here.three

-- the present incarnation of an instance, and the instance in it
abbrev pub present_in : (incarnations : List ℕ) → (instance : ℕ) → ℕ
present_in incarnations i = unwrap_or (slice_get incarnations (i - 1)) 0

abbrev pub present_at : Here → ℕ → ℕ
present_at here i = present_in here.incarnations i

abbrev pub peer_now : Here → ℕ → Peer
peer_now here i = peer i (present_at here i)
