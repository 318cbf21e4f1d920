-- A replica goes on in the epoch of another ring.
use Rattle.std.proofs.Common.{◌≡◌, ℕ, ◌||◌, true, false, List, None, is_some, ap, refl, sym, subst, ◌∙◌, if◌then◌else◌}
use Rattle.std.proofs.lemmas.Bool.{false≢true}
use Rattle.am_cluster.specs.Here.{Here, others, position_here}
use Rattle.am_cluster.specs.Local.{Local, holds_any, is_settled}
use Rattle.am_cluster.specs.Plans.{position_of}
use Rattle.am_cluster.specs.Reactions.{Reaction, each, stays, ◌>>◌}
use Rattle.am_cluster.specs.RingChanges.{go_on, push_or_ask}
use Rattle.am_cluster.specs.Transfers.{asks_first, begin_push}
use Rattle.am_context.proofs.Changes.{own}
use Rattle.am_item.specs.declared.fault.Fault.{Fault}
use Rattle.am_item.specs.declared.fault.Fault.TheVariants.{OutOfMemory, CountsExhausted, PatternNotBuilt, StoreRefused}
use Rattle.am_node.specs.Held.{local_of as local_in_node}
use Rattle.am_node.specs.declared.parts.Parts.{Parts}
use Rattle.am_transfer.specs.Progress.{on}
use Rattle.am_transfer.specs.Settling.{in_new_epoch, to_push}
use Rattle.am_transfer.specs.Tenants.{Becomes, settling_of}
use Rattle.am_transfer.specs.Timers.{AreTimed, Room}
use Rattle.am_site.specs.Here.{here_of}
use Rattle.am_site.specs.InOrder.{IsAtPosition, IsInOrder, IsSound, StopsMoving}
use Rattle.am_site.specs.Learning.{StopsGoingOn}
use Rattle.am_site.specs.Locals.{local_of}
use Rattle.am_site.specs.Reacting.{Does, KeepsOthers, Moves, StopsReacting}
use Rattle.am_site.specs.declared.here.Here.{Here as Given}
use Rattle.am_site.specs.declared.said.Said.{Said as Spoken}
use Rattle.am_site.specs.declared.site.Site.{Site}
use Rattle.am_site.proofs.Arrived.{then_moves}
use Rattle.am_site.proofs.Moving.{in_turn_moves, moves_from, stops_after}
use Rattle.am_site.proofs.Reacting.{quiet}
use Rattle.am_site.proofs.Settled.{settles, settling_does, with_room}
use Rattle.am_site.proofs.SoundRing.{new_epoch_sound}

module _ (here : Here) (receivers : List ℕ) (l : Local) where
  pub sends_nothing : holds_any l ≡ false → push_or_ask here receivers l ≡ stays l
  sends_nothing none = rw none refl

  pub asks_instead : holds_any l ≡ true → is_settled here l ≡ false → asks_first here l ≡ push_or_ask here receivers l
  asks_instead some unsettled = rw (some, unsettled) refl

  pub pushes_to_all : holds_any l ≡ true → is_settled here l ≡ true → each (begin_push here) receivers l ≡ push_or_ask here receivers l
  pushes_to_all some settled = rw (some, settled) refl

-- where the groups waited by the position of the instance they still do
pub there_before : (here : Here) (old mid : Site) → mid.node ≡ old.node → mid.settling ≡ old.settling → IsAtPosition here old → IsAtPosition here mid
unfolding local_of
there_before here old mid node room at =
    ap (λ (n : Parts). (local_in_node here.tenant n).position) node ∙ at
    ∙ ap (λ (r : Room). if here.stayed || (settling_of here.tenant r.progress).has_settled then position_here here else None) (sym room)

module _ (given : Given) (before : List ℕ) (old : Site) (room : Room) (becomes : Becomes given.tenant.now (on in_new_epoch) old.settling.progress room.progress)
    (timed : AreTimed old.settling → AreTimed room) where
  abbrev t : List ℕ
  t = given.tenant.now

  abbrev here : Here
  here = here_of given

  abbrev l : Local
  l = local_of t old

  abbrev mid : Site
  mid = with_room old room

  abbrev sends : Local → Reaction
  sends = push_or_ask here (to_push (others here) before l.settling)

  enters : Does t (settles in_new_epoch) old mid
  enters = settling_does t in_new_epoch (on in_new_epoch) old room (λ p. refl) becomes timed (λ p. refl)

  entered : local_of t mid ≡ (settles in_new_epoch l).local
  entered = own t _ _ _ (enters.local t)

  -- why it stops as the groups are moved
  pub stops_moving_on : (refused : List (List ℕ)) (fault : Fault) → StopsMoving refused given mid fault → StopsGoingOn refused given before old fault
  stops_moving_on refused OutOfMemory stops = tt
  stops_moving_on refused CountsExhausted stops = absurd stops
  stops_moving_on refused PatternNotBuilt (apart, stops) = (λ at. apart (at ∙ sym (ap (position_of here) entered)), stops)
  stops_moving_on refused StoreRefused stops = stops

  -- the groups were moved
  module _ (there : Site) (left : (s : List ℕ) → local_of s there ≡ local_of s mid) (kept : KeepsOthers t mid there) where
    moved : (x : List Spoken) → Moves t (settles in_new_epoch) old there x x
    moved x = then_moves t (settles in_new_epoch) old mid there x x (quiet t (settles in_new_epoch) old mid x enters) left kept

    pub goes_on : (new : Site) (x z : List Spoken) → Moves t sends there new x z → Moves t (go_on here before) old new x z
    goes_on new x z sent =
        moves_from t (settles in_new_epoch >> sends) (go_on here before) old refl new x z (in_turn_moves t (settles in_new_epoch) sends old there x x (moved x) new z sent)

    pub stops_sending : (refused : List (List ℕ)) (x : List Spoken) (fault : Fault) → StopsReacting t sends there fault → StopsGoingOn refused given before old fault
    stops_sending refused x OutOfMemory stops = tt
    stops_sending refused x CountsExhausted stops = stops_after t (settles in_new_epoch) sends old there x x (moved x) CountsExhausted stops
    stops_sending refused x PatternNotBuilt stops = absurd stops
    stops_sending refused x StoreRefused stops = stops

    -- all is in order then, whichever ring it went by
    pub entered_in_order : (was : Here) → IsSound was l → IsAtPosition here there → IsInOrder here there
    entered_in_order was sound at =
        let is : local_of t there ≡ (settles in_new_epoch l).local = left t ∙ entered in
        record {
          position = λ some. at;
          asked = λ some. absurd (false≢true (sym (ap (λ (m : Local). is_some m.settling.asked_at) is) ∙ some));
          sound = subst (IsSound here) (sym is) (new_epoch_sound was here l sound);
        }

    -- what is held stays
    pub held_on : (new : Site) → new.node ≡ there.node → (s : List ℕ) → (local_in_node s new.node).held ≡ (local_in_node s old.node).held
    unfolding local_of
    held_on new node s = ap (λ (n : Parts). (local_in_node s n).held) node ∙ ap (λ (m : Local). m.held) (left s)
