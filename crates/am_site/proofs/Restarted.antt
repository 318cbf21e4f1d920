-- An instance was joined or restarted, or another one was.
use Rattle.std.proofs.Common.{◌≡◌, ℕ, true, false, List, refl}
use Rattle.am_cluster.specs.Here.{Here, is_replica_here}
use Rattle.am_cluster.specs.Local.{Local, holds_any, is_settled}
use Rattle.am_cluster.specs.Operating.{replicas_changed}
use Rattle.am_cluster.specs.Reactions.{stays, ◌>>◌}
use Rattle.am_cluster.specs.RingChanges.{end_push, just_opened, other_restarted, push_if_settled}
use Rattle.am_cluster.specs.Transfers.{asks_first, begin_push}
use Rattle.am_item.specs.declared.fault.Fault.{Fault}
use Rattle.am_ring.specs.Instances.{is_among}
use Rattle.am_transfer.specs.Progress.{on}
use Rattle.am_transfer.specs.Settling.{without_push}
use Rattle.am_transfer.specs.Tenants.{Becomes}
use Rattle.am_transfer.specs.Timers.{AreTimed, Room}
use Rattle.am_site.specs.Locals.{local_of}
use Rattle.am_site.specs.Reacting.{Reacts, StopsReacting}
use Rattle.am_site.specs.declared.said.Said.{Said as Spoken}
use Rattle.am_site.specs.declared.site.Site.{Site}
use Rattle.am_site.proofs.Reacting.{in_turn_reacts, quiet, reacts_from, stops_from, stops_second}
use Rattle.am_site.proofs.Settled.{settling_does, with_room}

module _ (here : Here) (l : Local) where
  -- ---- the instance itself

  pub opens_empty : holds_any l ≡ false → just_opened here l ≡ stays l
  unfolding just_opened
  opens_empty none = rw none refl

  pub opens_holding : holds_any l ≡ true → asks_first here l ≡ just_opened here l
  unfolding just_opened
  opens_holding some = rw some refl

  -- ---- another one

  module _ (r : ℕ) where
    pub restarts_elsewhere : is_among r here.three ≡ false → other_restarted here r l ≡ stays l
    unfolding other_restarted
    restarts_elsewhere none = rw none refl

    restarts : is_among r here.three ≡ true → (replicas_changed >> (end_push r >> push_if_settled here r)) l ≡ other_restarted here r l
    unfolding other_restarted
    restarts among = rw among refl

    pub pushes_elsewhere : is_replica_here here ≡ false → push_if_settled here r l ≡ stays l
    pushes_elsewhere none = rw none refl

    pub pushes_unsettled : is_replica_here here ≡ true → is_settled here l ≡ false → push_if_settled here r l ≡ stays l
    pushes_unsettled replica unsettled = rw (replica, unsettled) refl

    pub pushes_empty : is_replica_here here ≡ true → is_settled here l ≡ true → holds_any l ≡ false → push_if_settled here r l ≡ stays l
    pushes_empty replica settled none = rw (replica, settled, none) refl

    pub pushes_holding : is_replica_here here ≡ true → is_settled here l ≡ true → holds_any l ≡ true → begin_push here r l ≡ push_if_settled here r l
    pushes_holding replica settled some = rw (replica, settled, some) refl

-- operations are answered, the push to the earlier incarnation ends, and another may begin
module _ (here : Here) (r : ℕ) (old : Site) (among : is_among r here.three ≡ true) (mid : Site) (x y : List Spoken) (answers : Reacts here.tenant replicas_changed old mid x y)
    (room : Room) (becomes : Becomes here.tenant (on (without_push r)) mid.settling.progress room.progress) (timed : AreTimed mid.settling → AreTimed room) where
  abbrev t : List ℕ
  t = here.tenant

  abbrev ended : Site
  ended = with_room mid room

  ends : Reacts t (end_push r) mid ended y y
  ends = quiet t (end_push r) mid ended y (settling_does t (without_push r) (on (without_push r)) mid room (λ p. refl) becomes timed (λ p. refl))

  pub restart_reacts : (new : Site) (z : List Spoken) → Reacts t (push_if_settled here r) ended new y z → Reacts t (other_restarted here r) old new x z
  restart_reacts new z pushes =
      reacts_from t (replicas_changed >> (end_push r >> push_if_settled here r)) (other_restarted here r) old (restarts here (local_of t old) r among) new x z
      (in_turn_reacts t replicas_changed (end_push r >> push_if_settled here r) old mid x y new z answers
      (in_turn_reacts t (end_push r) (push_if_settled here r) mid ended y y new z ends pushes))

  pub restart_stops : (fault : Fault) → StopsReacting t (push_if_settled here r) ended fault → StopsReacting t (other_restarted here r) old fault
  restart_stops fault stops =
      stops_from t (replicas_changed >> (end_push r >> push_if_settled here r)) (other_restarted here r) old (restarts here (local_of t old) r among) fault
      (stops_second t replicas_changed (end_push r >> push_if_settled here r) old mid x y fault answers
      (stops_second t (end_push r) (push_if_settled here r) mid ended y y fault ends stops))
