-- An instance learns a ring: it did, or stopped on the way.
use Rattle.std.proofs.Common.{◌≡◌, ◌∙◌, inl, inr, ℕ, ◌+◌, ◌-◌, ◌==◌, ◌&&◌, nat_eq, nat_lt, length, Bool, true, false}
use Rattle.std.proofs.Common.{List, IsSome, None}
use Rattle.std.proofs.Common.{Option, Some, IfNone, IfSome, is_none, is_some, refl, sym, ap, arith, subst}
use Rattle.std.proofs.Common.{if◌then◌else◌}
use Rattle.std.proofs.lemmas.Bool.Decides.{nat_tests}
use Rattle.std.proofs.lemmas.List.{length-map}
use Rattle.am_cluster.specs.Events.{Learn}
use Rattle.am_cluster.specs.Refused.{NothingToLearn, Refused}
use Rattle.am_cluster.specs.Rings.{newest_epoch}
use Rattle.am_cluster.specs.Roster.{Learns, Roster, ring_event_refusal, roster_after}
use Rattle.am_item.specs.declared.fault.Fault.{Fault}
use Rattle.am_item.specs.declared.item.Item.{Item}
use Rattle.am_ring.specs.Instances.{Members, is_instance}
use Rattle.am_instance.specs.Changing.{StopsLearning, learned, rows_held, rows_learned}
use Rattle.am_instance.specs.Leaving.{LeavesEachShelf}
use Rattle.am_instance.specs.Shelves.{Shelf}
use Rattle.am_instance.specs.declared.instance.Instance.{Instance}
use Rattle.am_world.specs.Changes.{IsOpenedClean, roster_then}
use Rattle.am_world.specs.Changing.{FailsToLearn, LearnsRingAt}
use Rattle.am_world.specs.Consistent.{IsConsistent, around_at, over}
use Rattle.am_world.specs.Leaving.{LeavesShelves, LeavesOpenedOrDropped, rows_learned_where, rows_where, stop_at, opens_or_drops}
use Rattle.am_world.specs.Places.{At, Turns, instance_at, known_at, up_at}
use Rattle.am_world.specs.Refusal.{refusal}
use Rattle.am_world.specs.Shelves.{NeverCleaner, shelf_at}
use Rattle.am_world.specs.Simulation.{refused_by, roster_of}
use Rattle.am_world.specs.Stopping.{IsSameStart, Step, StopsBy}
use Rattle.am_world.specs.declared.common.Common.{Common}
use Rattle.am_world.specs.declared.state.State.{State}
use Rattle.am_world.proofs.AlonePlaces.{exists_then, incarnation_here, known_here, refused_here, up_there}
use Rattle.am_world.proofs.FaultedRing.{AsksOne, begins_itself, faulted_one}
use Rattle.am_world.proofs.KeptLearn.{kept_learn, learn_behind}
use Rattle.am_world.proofs.NotRefused.{roster_turned, taken}
use Rattle.am_world.proofs.OpenedFound.{exists_at}
use Rattle.am_world.proofs.Placed.{there}
use Rattle.am_world.proofs.Rostered.{named_by, put_here, put_other}
use Rattle.am_world.proofs.Shelved.{shelves_unwritten}

-- ---- whether it has one to learn

none_by : (b : Bool) → is_none (let o : Option Refused = if b then None else Some NothingToLearn in o) ≡ b
none_by true = refl
none_by false = refl

pub learn_refusal : (w : State) (i : ℕ) → is_none (refusal w (Learn i))
    ≡ (up_at i w.instances && nat_lt (known_at i w.instances) (newest_epoch (roster_of w).rings))
unfolding ring_event_refusal
learn_refusal w i = none_by (up_at i w.instances && nat_lt (known_at i w.instances) (newest_epoch (roster_of w).rings))

-- .. as it is tested
pub learn_tested : (w : State) (i : ℕ) (up : Bool) (known newest : ℕ) → up_at i w.instances ≡ up
    → known ≡ known_at i w.instances → newest ≡ length w.common.rings.items - 1
    → (up && nat_lt known newest) ≡ is_none (refusal w (Learn i))
learn_tested w i up known newest is at last =
    let size : length w.common.rings.items - 1 ≡ newest_epoch (roster_of w).rings =
    sym (ap (λ n. n - 1) (length-map w.common.rings.items (λ (ring : Members). ring.instances))) in
    (λ d. sym is d && nat_lt (at d) ((last ∙ size) d)) ∙ sym (learn_refusal w i)

-- whether an instance is up, by who is found
pub up_known : (w : State) (i : ℕ) (o : Option ℕ) (b : Bool) → b ≡ is_some o
    → IfSome o (λ n. up_at i w.instances ≡ true) → IfNone o (up_at i w.instances ≡ false) → up_at i w.instances ≡ b
up_known w i None b is some none = none ∙ sym is
up_known w i (Some n) b is some none = some ∙ sym is

-- who has one is an instance
pub learner_is : (w : State) (i : ℕ) → refusal w (Learn i) ≡ None → IsConsistent w → is_instance i ≡ true
learner_is w i none consistent =
    let x = up_there i w.instances (learn_behind w i none consistent).0 in
    exists_at i w.instances x.0 consistent.numbered x.1

refused_so : (b : Bool) → b ≡ false
    → (let o : Option Refused = if b then None else Some NothingToLearn in o) ≡ Some NothingToLearn
refused_so true never = absurd cc
refused_so false is = refl

pub learn_nothing : (w : State) (i : ℕ) → is_none (refusal w (Learn i)) ≡ false
    → refusal w (Learn i) ≡ Some NothingToLearn
unfolding ring_event_refusal
learn_nothing w i none =
    refused_so (up_at i w.instances && nat_lt (known_at i w.instances) (newest_epoch (roster_of w).rings))
    (sym (learn_refusal w i) ∙ none)

none_then : (o : Option Refused) → is_none o ≡ true → o ≡ None
none_then None is = refl
none_then (Some refused) never = absurd cc

pub learn_taken : (w : State) (i : ℕ) → is_none (refusal w (Learn i)) ≡ true → refusal w (Learn i) ≡ None
learn_taken w i is = none_then (refusal w (Learn i)) is

-- no store is written or turned over where it has none to learn
pub learn_untouched : (Rejects : List ℕ → List Item → Type 0) (w : State) (i : ℕ) (shelves : List Shelf)
    → is_none (refusal w (Learn i)) ≡ false → LeavesShelves Rejects w (Learn i) w shelves shelves
learn_untouched Rejects w i shelves none =
    shelves_unwritten Rejects w (Learn i) w shelves (λ j. refl)
    (λ j. ap (λ b. j == i && b) none ∙ none_of (j == i))
  where
    none_of : (b : Bool) → (b && false) ≡ false
    none_of true = refl
    none_of false = refl

-- what it leaves in the store that it turns over
pub learn_turned : (w w' : State) (i : ℕ) (old new : Shelf) → IsSome (instance_at i w.instances)
    → At i (λ x. LeavesEachShelf (rows_held x) (rows_learned (around_at w.clock w) x) (stop_at i w'.instances) old new)
    w.instances → LeavesOpenedOrDropped w (Learn i) w' i old new
learn_turned w w' i old new exists left =
    let x = there i w.instances exists in
    subst (λ o. LeavesEachShelf (rows_where o) (rows_learned_where (around_at w.clock w) o) (stop_at i w'.instances)
    old new) (sym x.1) (left x.0 x.1)

-- .. which is the only one
pub learn_elsewhere : (w : State) (i j : ℕ) → (j == i) ≡ false → opens_or_drops w (Learn i) j ≡ false
learn_elsewhere w i j apart = ap (λ b. b && is_none (refusal w (Learn i))) apart

pub learn_there : (w : State) (i : ℕ) → refusal w (Learn i) ≡ None → opens_or_drops w (Learn i) i ≡ true
learn_there w i none =
    let itself : nat_eq i i ≡ true = grind (arith, nat_tests) in
    rw (itself, none) refl

module _ (w w' : State) (i : ℕ) (none : ring_event_refusal (Learns i) (roster_of w) ≡ None)
    (consistent : IsConsistent w) (turn : LearnsRingAt i w w') where
  turned : roster_then (Learn i) (roster_of w) ≡ roster_after (Learns i) (roster_of w)
  turned = roster_turned w (Learns i) none

  own_start : (x : Instance) → instance_at i w.instances ≡ Some x
      → ((learned x).incarnation ≡ (roster_after (Learns i) (roster_of w)).incarnation i)
      × ((learned x).known ≡ (roster_after (Learns i) (roster_of w)).known i)
  unfolding roster_after
  own_start x at = (
    sym (incarnation_here i w.instances x at),
    ap (λ n. n + 1) (sym (known_here i w.instances x at))
        ∙ sym (put_here (roster_of w).known i ((roster_of w).known i + 1)),
  )

  other_start : (j : ℕ) → (j == i) ≡ false → IsSameStart j (roster_after (Learns i) (roster_of w)) (roster_of w)
  unfolding roster_after
  other_start j apart = (refl, put_other (roster_of w).known i j ((roster_of w).known i + 1) apart)

  asks : IsSome (instance_at i w.instances) → AsksOne w (Learn i) i learned
  asks exists = record {
    taken = taken w (Learns i) none;
    alone = λ j. refl;
    clock = refl;
    left = λ posted. refl;
    exists = exists;
    own = λ x at.
        subst (λ (r : Roster). ((learned x).incarnation ≡ r.incarnation i) × ((learned x).known ≡ r.known i))
        (sym turned) (own_start x at);
    others = λ j apart.
        subst (λ (r : Roster). IsSameStart j r (roster_of w)) (sym turned) (other_start j apart);
    refused = λ x. refl;
  }

  rings_then : (roster_of w').rings ≡ (roster_then (Learn i) (roster_of w)).rings
  unfolding roster_after
  rings_then =
      ap (λ (c : Common). named_by c.rings.items) turn.beside.common
      ∙ sym (ap (λ (r : Roster). r.rings) turned)

  causes : (fault : Fault) (old new : List Shelf) → IsOpenedClean (roster_of w) (Learn i) new i
      → Turns i (FailsToLearn (around_at w.clock w) fault) w.instances w'.instances
      → StopsBy w old (Learn i) i fault (refused_by w' i)
  causes fault old new clean fails x at =
      let y = exists_then i w.instances w'.instances x consistent.numbered turn.others.numbered at in
      subst (λ texts. StopsLearning (around_at w.clock w) x texts fault)
      (sym (refused_here i w'.instances y.0 y.1)) (fails x y.0 at y.1)

  pub learn_step : IsSome (instance_at i w.instances) → (old new : List Shelf) → NeverCleaner old new
      → ((j : ℕ) → (j == i) ≡ false → shelf_at j new ≡ shelf_at j old)
      → Step (over w old) (Learn i) (over w' new)
  learn_step exists old new never rest = record {
    ends = elim turn.ends [
      | inl acts ↦
          inl (kept_learn w w' i consistent (learn_behind w i none consistent).0 acts turn.others turn.beside old new
          none rest)
      | inr ends ↦
          inr (faulted_one w w w' (Learn i) i learned (FailsToLearn (around_at w.clock w)) consistent.numbered
          (asks exists) (begins_itself w) ends turn.others turn.beside old new rings_then (causes ends.fault old new))
    ];
    clean = never;
  }
