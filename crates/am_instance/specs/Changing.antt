-- What an instance does where its ring or another instance changes, for all tenants.
use Rattle.std.specs.Prelude.{◌≡◌, ℕ, ◌+◌, ◌<◌, Bool, true, false, ◌++◌, List, [], length, None, if◌then◌else◌}
use Rattle.am_cluster.specs.Events.{Output}
use Rattle.am_cluster.specs.Here.{Here, is_replica_here}
use Rattle.am_cluster.specs.Local.{Local, is_settled}
use Rattle.am_cluster.specs.Reactions.{Reaction, Said}
use Rattle.am_cluster.specs.RingChanges.{just_opened, opened, other_restarted, ring_learned}
use Rattle.am_cluster.specs.Rings.{newest_epoch}
use Rattle.am_current.specs.Current.{configuration_in}
use Rattle.am_item.specs.declared.fault.Fault.{Fault}
use Rattle.am_item.specs.declared.fault.Fault.TheVariants.{OutOfMemory, CountsExhausted, PatternNotBuilt, StoreRefused}
use Rattle.am_item.specs.declared.item.Item.{Item}
use Rattle.am_match.specs.Matchers.{patterns_of}
use Rattle.am_muting.specs.Failing.{HasUnanswered}
use Rattle.am_node.specs.Accepting.{StopsPositioning}
use Rattle.am_ring.specs.Replicas.{replicas}
use Rattle.am_route.specs.Asked.{route_matchers}
use Rattle.am_rows.specs.Rows.{rows_of, stored_in}
use Rattle.am_site.specs.InOrder.{IsAtPosition, IsInOrder}
use Rattle.am_site.specs.Learning.{MayLearn, stops_being_replica}
use Rattle.am_site.specs.Reacting.{KeepsOthers}
use Rattle.am_transfer.specs.Timers.{AreTimed}
use Rattle.am_instance.specs.declared.instance.Instance.{Instance}
use Rattle.am_instance.specs.declared.restarting.Start.{Start}
use Rattle.am_instance.specs.declared.restarting.Start.TheVariants.{Own, Other}
use Rattle.am_instance.specs.Here.{Circumstances, here_on, rings_on, three_on}
use Rattle.am_instance.specs.Instance.{IsDown, ReadsAlike, Starts, local_in, node_local_in, refused_in}
use Rattle.am_instance.specs.Reacting.{Reacts, reaction_on}
use Rattle.am_instance.specs.Tenants.{AreNoted, is_noted}
use Rattle.am_instance.specs.Ticks.{IsDone, outputs_of_all, said_of}

-- ---- all tenants at once

-- each tenant has what its own reaction makes of what it had, and that is said of it, in order; and the build of no
-- pattern more was refused
pub record ReactsAll (around : Circumstances) (react : List ℕ → Here → Local → Reaction) (x x' : Instance)
    (before after : List Output) : Type 0 where
  pub all : List (List ℕ × Said)
  pub outputs : after ≡ before ++ outputs_of_all x all
  pub does : (t : List ℕ) → IsDone (reaction_on around x t (react t)) (local_in t x') (said_of t all)
  pub refused : refused_in x' ≡ refused_in x

-- why it stops there: a count of a tenant would have passed the greatest, or a message the greatest length; or memory
-- ran out
abbrev pub StopsReactingAll : Circumstances → (List ℕ → Here → Local → Reaction) → Instance → Fault → Type 0
StopsReactingAll around react x OutOfMemory = Unit {0}
StopsReactingAll around react x CountsExhausted =
    (t : List ℕ) × ((reaction_on around x t (react t)).fits ≡ false)
StopsReactingAll around react x PatternNotBuilt = ⊥
StopsReactingAll around react x StoreRefused = ⊥

-- what it does for one tenant, of whom all stays in order
pub record ReactsInOrder (around : Circumstances) (tenant : List ℕ) (react : Here → Local → Reaction) (x x' : Instance)
    (before after : List Output) : Type 0 where
  pub reacts : Reacts around tenant react x x' before after
  pub order : IsInOrder (here_on around x tenant) x.site → IsInOrder (here_on around x tenant) x'.site
  pub keeps : KeepsOthers tenant x.site x'.site
  pub tenants : x'.tenants ≡ x.tenants
  pub refused : refused_in x' ≡ refused_in x

-- why it stops where it does something for each tenant that is noted: for one of them; or memory ran out
abbrev pub StopsForOne : Instance → (Stops : (tenant : List ℕ) → Fault → Type 0) → Fault → Type 0
StopsForOne x Stops OutOfMemory = Unit {0}
StopsForOne x Stops CountsExhausted = (t : List ℕ) × (is_noted t x.tenants ≡ true) × Stops t CountsExhausted
StopsForOne x Stops PatternNotBuilt = (t : List ℕ) × (is_noted t x.tenants ≡ true) × Stops t PatternNotBuilt
StopsForOne x Stops StoreRefused = (t : List ℕ) × (is_noted t x.tenants ≡ true) × Stops t StoreRefused

-- ---- another ring

-- the instance as it goes by the next ring
abbrev pub learned : Instance → Instance
learned x = record x { known = x.known + 1 }

-- what it does for a tenant where it goes by the ring that it knows, and before by another one
abbrev pub turning : (ring_before : List ℕ) → List ℕ → Here → Local → Reaction
turning ring_before t here local = ring_learned here (replicas t ring_before) local

-- .. where it goes on to the next ring
abbrev pub learning : Circumstances → Instance → List ℕ → Here → Local → Reaction
learning around x t here local = ring_learned here (three_on around x t) local

-- the rows of what it holds of a tenant; and once it goes by another ring, where they are dropped if it stops being a
-- replica
abbrev pub rows_held : Instance → List ℕ → List Item
rows_held x t = stored_in (local_in t x).held

abbrev pub rows_kept : Here → (three_before : List ℕ) → List Item → List Item
rows_kept here three_before rows = if stops_being_replica here three_before then [] else rows

abbrev pub rows_turned : Circumstances → (ring_before : List ℕ) → Instance → List ℕ → List Item
rows_turned around ring_before x t = rows_kept (here_on around x t) (replicas t ring_before) (rows_held x t)

abbrev pub rows_learned : Circumstances → Instance → List ℕ → List Item
rows_learned around x t = rows_kept (here_on around (learned x) t) (three_on around x t) (rows_held x t)

-- why it stops where it goes by the ring that it knows of a tenant whose three were these before: a count would have
-- passed the greatest, or a message the greatest length; it is a replica whose groups are to wait by another position,
-- there are alerts, and a pattern of the routes in use gave no answer; it stops being a replica, and the store refused
-- to drop the rows; or memory ran out
abbrev pub StopsTurning : Circumstances → Instance → (three_before tenant : List ℕ) → (refused : List (List ℕ)) → Fault
    → Type 0
StopsTurning around x three_before t refused OutOfMemory = Unit {0}
StopsTurning around x three_before t refused CountsExhausted =
    (reaction_on around x t (λ here. ring_learned here three_before)).fits ≡ false
StopsTurning around x three_before t refused PatternNotBuilt =
    (is_replica_here (here_on around x t) ≡ true)
    × (IsAtPosition (here_on around x t) x.site → ⊥)
    × (0 < length (local_in t x).sinces)
    × HasUnanswered refused (patterns_of (route_matchers (configuration_in (local_in t x).held).routes))
StopsTurning around x three_before t refused StoreRefused = stops_being_replica (here_on around x t) three_before ≡ true

-- .. of one of the tenants that are noted
abbrev pub StopsTurningAll : Circumstances → Instance → (ring_before : List ℕ) → (refused : List (List ℕ)) → Fault
    → Type 0
StopsTurningAll around x ring_before refused =
    StopsForOne x (λ t. StopsTurning around x (replicas t ring_before) t refused)

-- .. where it goes on to the next ring
abbrev pub StopsLearning : Circumstances → Instance → (refused : List (List ℕ)) → Fault → Type 0
StopsLearning around x refused =
    StopsForOne x (λ t. StopsTurning around (learned x) (three_on around x t) t refused)

-- ---- .. one tenant after the other

-- of one it has what that makes; and what it has of all others stays in order
pub record Turns (around : Circumstances) (ring_before tenant : List ℕ) (x x' : Instance) (outs outs' : List Output) :
    Type 0 where
  pub reacts : Reacts around tenant (turning ring_before tenant) x x' outs outs'
  pub order : (was : Here) → MayLearn was (here_on around x tenant) (replicas tenant ring_before) x.site
      → IsInOrder (here_on around x tenant) x'.site
  pub keeps : KeepsOthers tenant x.site x'.site
  pub tenants : x'.tenants ≡ x.tenants
  pub refused : refused_in x' ≡ refused_in x

-- what is so of an instance that goes by the ring that it knows from now on: all was in order by another one
pub record MayTurn (around : Circumstances) (ring_before : List ℕ) (x : Instance) : Type 0 where
  pub known : x.known < length around.rings
  pub learns : (t : List ℕ) → (was : Here) × MayLearn was (here_on around x t) (replicas t ring_before) x.site
  pub timed : AreTimed x.site.settling
  pub incarnation : x.site.operations.incarnation ≡ x.incarnation
  pub noted : AreNoted x

-- ---- a start in the next incarnation

-- the instance in its next incarnation, in which it knows the newest ring
abbrev pub renewed : Circumstances → Instance → Instance
renewed around x = record x { incarnation = x.incarnation + 1; known = newest_epoch (rings_on around) }

-- It is up, and has opened its store: of each tenant it had what that makes of the rows, as long as the disk has
-- returned what was written. Then it asked where it held an item.
pub record OpensAnew (around : Circumstances) (is_clean : Bool) (pairs : List (List ℕ × Item)) (x x' : Instance)
    (before after : List Output) : Type 0 where
  pub starts : Starts x x'
  pub front : ReadsAlike x x'
  pub held : List ℕ → Local
  pub opens : is_clean ≡ true → (t : List ℕ) → held t ≡ opened (here_on around x t) (rows_of t pairs)
  pub all : List (List ℕ × Said)
  pub outputs : after ≡ before ++ outputs_of_all x all
  pub does : (t : List ℕ) → IsDone (just_opened (here_on around x t) (held t)) (local_in t x') (said_of t all)

-- .. in its next incarnation
abbrev pub Restarts : Circumstances → (is_clean : Bool) → List (List ℕ × Item) → (x x' : Instance)
    → (before after : List Output) → Type 0
Restarts around is_clean pairs x x' before after = OpensAnew around is_clean pairs (renewed around x) x' before after

-- why it doesn't start, where its store has these: that has something and is no store, or a call of its database was
-- refused, for these reasons; a message of a tenant would have passed the greatest length; or memory ran out
abbrev pub StopsOpening : Circumstances → (pairs : List (List ℕ × Item)) → (Reason : Type 0) → Instance → Fault
    → Type 0
StopsOpening around pairs Reason x OutOfMemory = Unit {0}
StopsOpening around pairs Reason x CountsExhausted = (t : List ℕ)
    × ((just_opened (here_on around x t) (opened (here_on around x t) (rows_of t pairs))).fits ≡ false)
StopsOpening around pairs Reason x PatternNotBuilt = ⊥
StopsOpening around pairs Reason x StoreRefused = Reason

-- what an instance does for each tenant once it or another one was started
abbrev pub started : Start → Here → Local → Reaction
started Own here local = just_opened here local
started (Other restarted) here local = other_restarted here restarted local

-- ---- it leaves

-- it is down, for no fault, and was refused the build of no pattern more
pub record IsOut (x x' : Instance) : Type 0 where
  pub down : IsDown x'
  pub cause : x'.cause ≡ None
  pub refused : refused_in x' ≡ refused_in x

-- why it doesn't: it is up, and the store refused to drop rows, or memory ran out
abbrev pub StopsLeaving : Instance → Fault → Type 0
StopsLeaving x OutOfMemory = x.up ≡ true
StopsLeaving x CountsExhausted = ⊥
StopsLeaving x PatternNotBuilt = ⊥
StopsLeaving x StoreRefused = x.up ≡ true

-- ---- by force

-- why it stops where it is settled for a tenant by force: it is a replica of the tenant and wasn't settled, so that the
-- groups are to wait by its position; there are alerts, and a pattern of the routes in use gave no answer; or memory
-- ran out
abbrev pub StopsForcing : Circumstances → (tenant : List ℕ) → Instance → (refused : List (List ℕ)) → Fault → Type 0
StopsForcing around t x refused OutOfMemory = Unit {0}
StopsForcing around t x refused CountsExhausted = ⊥
StopsForcing around t x refused PatternNotBuilt =
    (is_replica_here (here_on around x t) ≡ true) × (is_settled (here_on around x t) (local_in t x) ≡ false)
    × StopsPositioning refused (node_local_in t x) PatternNotBuilt
StopsForcing around t x refused StoreRefused = ⊥
