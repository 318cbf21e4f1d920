-- That a world is the private cluster of every tenant at once.
use Rattle.std.specs.Prelude.{◌≡◌, ℕ, ◌==◌, true, false, List, map, Option, None, Some, find, if◌then◌else◌}
use Rattle.std.specs.Option.{option_map}
use Rattle.am_cluster.specs.Events.{Output}
use Rattle.am_cluster.specs.Naming.{NamesOnce}
use Rattle.am_cluster.specs.PrivateCluster.{PrivateCluster}
use Rattle.am_cluster.specs.Replying.{WaitOver}
use Rattle.am_cluster.specs.Roster.{IsSameRoster, Roster}
use Rattle.am_cluster.specs.Sent.{is_named}
use Rattle.am_cluster.specs.View.{Seen, Reading, AskedAs, FrontAnswered, Shut, Watch, look}
use Rattle.am_limit.specs.Books.{limits_of}
use Rattle.am_limit.specs.declared.limits.Limits.{Limits}
use Rattle.am_messages.specs.Posted.{posted_at}
use Rattle.am_messages.specs.declared.name.MessageName.{MessageName}
use Rattle.am_ring.specs.Instances.{Members}
use Rattle.am_ring.specs.Replicas.{replicas}
use Rattle.am_rows.specs.Rows.{rows_of}
use Rattle.am_world.specs.Consistent.{Contents}
use Rattle.am_world.specs.Places.{bytes_at, incarnation_at, known_at, local_at, refused_at, up_at}
use Rattle.am_world.specs.Posting.{unlost_sent}
use Rattle.am_world.specs.Shelves.{shelf_at}
use Rattle.am_wire.specs.declared.message.Message.{Message}
use Rattle.am_world.specs.declared.state.State.{State}

-- what a world has put out so far, how many faults came, and the patterns that its instances were refused the build of
abbrev pub put_out : State → List Output
put_out w = w.outputs.items

abbrev pub fault_count : State → ℕ
fault_count w = w.faults

abbrev pub refused_by : State → ℕ → List (List ℕ)
refused_by w i = refused_at i w.instances

-- the message of a name, where it was sent and isn't lost
abbrev pub message_named : MessageName → State → Option Message
message_named name w = option_map (λ posted. posted.message) (posted_at name w.messages)

-- its rings and instances
abbrev pub roster_of : State → Roster
roster_of w = record {
  rings = map (λ (ring : Members). ring.instances) w.common.rings.items;
  known = λ i. known_at i w.instances;
  up = λ i. up_at i w.instances;
  incarnation = λ i. incarnation_at i w.instances;
  first = w.common.first;
}

-- but for its instances, its messages, what was put out and the count of faults, a world is as it was
pub record IsSameBeside (w w' : State) : Type 0 where
  pub clock : w'.clock ≡ w.clock
  pub common : w'.common ≡ w.common

-- ---- what is known from the events

-- the bytes of a connection that is read by an instance
abbrev pub bytes_read : ℕ → Option Seen → Option (List ℕ)
bytes_read i None = None
bytes_read i (Some (Reading j bytes)) = if i == j then Some bytes else None
bytes_read i (Some (AskedAs tenant)) = None
bytes_read i (Some FrontAnswered) = None
bytes_read i (Some Shut) = None

-- it is so in the world
pub record Follows (v : Watch) (w : State) : Type 0 where
  pub reading : (c i : ℕ) → bytes_at c i w.instances ≡ bytes_read i (look c v.table)
  pub roster : IsSameRoster (roster_of w) v.roster

-- a connection is known as one over which the tenant asked
abbrev pub IsAskerOf : Watch → (t : List ℕ) → (connection : ℕ) → Type 0
IsAskerOf v t c = look c v.table ≡ Some (AskedAs t)

-- each open operation of a tenant will reply over such a connection
abbrev pub AreAsked : Watch → State → Type 0
AreAsked v w =
    (t : List ℕ) (i : ℕ) → WaitOver (λ c request. IsAskerOf v t c) (local_at t i w.instances).operations

-- ---- what a world has of a tenant

abbrev pub limits_in : State → List ℕ → Limits
limits_in w t = limits_of t w.common.limits

-- under each name that a message of the tenant may have, what the cluster has there
abbrev pub IsPostedAlike : (t : List ℕ) → State → PrivateCluster → Type 0
IsPostedAlike t w p =
    (from incarnation to count : ℕ)
    → posted_at (record { tenant = t; from = from; incarnation = incarnation; to = to; count = count }) w.messages
    ≡ unlost_sent p.clock (find (is_named from incarnation to count) p.sent)

-- it has what the private cluster has, of which no two messages have one name
pub record Stands (t : List ℕ) (w : State) (p : PrivateCluster) : Type 0 where
  pub tenant : p.tenant ≡ t
  pub replicas_by : p.replicas_by ≡ replicas t
  pub service_key : w.common.service_key ≡ p.service_key
  pub clock : w.clock ≡ p.clock
  pub limits : limits_in w t ≡ p.limits
  pub roster : IsSameRoster (roster_of w) p.roster
  pub local : (i : ℕ) → local_at t i w.instances ≡ p.at i
  pub posted : IsPostedAlike t w p
  pub named : NamesOnce p

-- the store of each instance that isn't up has the rows of the tenant that the private cluster keeps there, as long as
-- its disk has returned what was written
abbrev pub KeepsRows : (t : List ℕ) → Contents → PrivateCluster → Type 0
KeepsRows t c p =
    (i : ℕ) → up_at i c.state.instances ≡ false → (shelf_at i c.shelves).is_clean ≡ true →
    rows_of t (shelf_at i c.shelves).pairs ≡ p.rows i

-- a world over its stores has what the private cluster has, and keeps what that keeps
pub record StandsOver (t : List ℕ) (c : Contents) (p : PrivateCluster) : Type 0 where
  pub stands : Stands t c.state p
  pub keeps : KeepsRows t c p
