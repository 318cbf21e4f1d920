-- A restart, as a world takes it: when it is refused, and that all had their turns.
use Rattle.std.proofs.Common.{◌≡◌, ◌∙◌, inl, inr, ℕ, ◌+◌, ◌-◌, ◌==◌, ◌&&◌, nat_eq, Bool, true, false, List, IfNone}
use Rattle.std.proofs.Common.{IfSome, IsSome, None, Option, Some, drop, is_none, is_some, not, refl, sym, take, ap}
use Rattle.std.proofs.Common.{subst, arith}
use Rattle.std.specs.Prelude.{nat_le}
use Rattle.std.proofs.lemmas.Bool.{and_parts, cases_Bool, false≢true, true≢false}
use Rattle.std.proofs.lemmas.Bool.Decides.{nat_tests}
use Rattle.am_cluster.proofs.Newest.{is_member}
use Rattle.am_cluster.specs.Events.{Restart}
use Rattle.am_cluster.specs.Refused.{InstanceNotUp, NoIncarnation, Refused}
use Rattle.am_cluster.specs.Roster.{Restarts, last_incarnation, ring_event_refusal}
use Rattle.am_item.specs.declared.item.Item.{Item}
use Rattle.am_ring.specs.Instances.{all_instances, is_among, is_instance}
use Rattle.am_instance.specs.Leaving.{LeavesOwn, stop_for}
use Rattle.am_instance.specs.Shelves.{Shelf}
use Rattle.am_instance.specs.declared.instance.Instance.{Instance}
use Rattle.am_world.specs.Changing.{ComesUpAt, FailsToFollow, FollowsRestart, FollowsRestartAt, InTurn, MayComeUp}
use Rattle.am_world.specs.Changing.{Restarting, WhereUp, around_opening, incarnations_with, may_restart}
use Rattle.am_world.specs.Consistent.{IsConsistent, around, newest_in}
use Rattle.am_world.specs.Leaving.{LeavesShelves, opens_or_drops, stop_at}
use Rattle.am_world.specs.Places.{At, cause_at, cause_where, incarnation_at, instance_at, up_at, up_where}
use Rattle.am_world.specs.Refusal.{refusal}
use Rattle.am_world.specs.Shelves.{shelf_at}
use Rattle.am_world.specs.Simulation.{IsSameBeside, roster_of}
use Rattle.am_world.specs.declared.common.Common.{Common}
use Rattle.am_world.specs.declared.state.State.{State}
use Rattle.am_world.proofs.AlonePlaces.{incarnation_here, up_here}
use Rattle.am_world.proofs.InstancesLemmas.{number_of}
use Rattle.am_world.proofs.LearnStep.{up_known}
use Rattle.am_world.proofs.RestartTurns.{not_before, not_behind}
use Rattle.am_world.proofs.Shelved.{shelves_unwritten}
use Rattle.am_world.proofs.TurnsTaken.{beside_in_turn, stays_in_turn}

-- ---- when it is refused

-- as it is tested
pub restart_tested : (w : State) (i : ℕ) (contains out : Bool) → contains ≡ is_among i (newest_in w.common)
    → out ≡ not (up_at i w.instances) → (contains && out) ≡ may_restart w i
restart_tested w i contains out among is = λ d. among d && is d

not_not : (b : Bool) → b ≡ not (not b)
not_not true = refl
not_not false = refl

-- whether an instance isn't up, by who is found
pub down_known : (w : State) (i : ℕ) (o : Option ℕ) (out : Bool) → is_some o ≡ not out
    → IfSome o (λ n. up_at i w.instances ≡ true) → IfNone o (up_at i w.instances ≡ false)
    → out ≡ not (up_at i w.instances)
down_known w i o out is some none =
    not_not out ∙ ap not (sym is) ∙ ap not (sym (up_known w i o (is_some o) refl some none))

pub restart_not_up : (w : State) (i : ℕ) → may_restart w i ≡ false
    → ring_event_refusal (Restarts i) (roster_of w) ≡ Some InstanceNotUp
unfolding ring_event_refusal
restart_not_up w i out = rw out refl

pub restart_last : (w : State) (i : ℕ) → may_restart w i ≡ true
    → nat_le last_incarnation (incarnation_at i w.instances) ≡ true
    → ring_event_refusal (Restarts i) (roster_of w) ≡ Some NoIncarnation
unfolding ring_event_refusal
restart_last w i may last = rw (may, last) refl

pub restart_taken : (w : State) (i : ℕ) → may_restart w i ≡ true
    → nat_le last_incarnation (incarnation_at i w.instances) ≡ false
    → ring_event_refusal (Restarts i) (roster_of w) ≡ None
unfolding ring_event_refusal
restart_taken w i may next = rw (may, next) refl

not_true : (b : Bool) → not b ≡ true → b ≡ false
not_true true never = sym never
not_true false is = refl

pub restart_down : (w : State) (i : ℕ) → may_restart w i ≡ true → up_at i w.instances ≡ false
restart_down w i may =
    not_true (up_at i w.instances) (and_parts (is_among i (newest_in w.common)) (not (up_at i w.instances)) may).1

pub restarter_is : (w : State) (i : ℕ) → IsConsistent w → may_restart w i ≡ true → is_instance i ≡ true
restarter_is w i consistent may =
    is_member (newest_in w.common) i (sym consistent.ring)
    (and_parts (is_among i (newest_in w.common)) (not (up_at i w.instances)) may).0

-- the one that is restarted may come up
pub restart_may : (w : State) (i : ℕ) → may_restart w i ≡ true
    → nat_le last_incarnation (incarnation_at i w.instances) ≡ false
    → At i (MayComeUp (newest_in w.common)) w.instances
restart_may w i may next x found =
    let early : nat_le last_incarnation x.incarnation ≡ false =
    sym (ap (nat_le last_incarnation) (incarnation_here i w.instances x found)) ∙ next in
    record {
      down = sym (up_here i w.instances x found) ∙ restart_down w i may;
      next = grind (arith, nat_tests);
      member = ap (λ k. is_among k (newest_in w.common)) (number_of i w.instances x found)
          ∙ (and_parts (is_among i (newest_in w.common)) (not (up_at i w.instances)) may).0;
    }

-- ---- the stores

-- no store is written or turned over where it is refused
pub restart_untouched : (Rejects : List ℕ → List Item → Type 0) (w : State) (i : ℕ) (shelves : List Shelf) (r : Refused)
    → ring_event_refusal (Restarts i) (roster_of w) ≡ Some r → LeavesShelves Rejects w (Restart i) w shelves shelves
restart_untouched Rejects w i shelves r refused =
    shelves_unwritten Rejects w (Restart i) w shelves (λ j. refl)
    (λ j. ap (λ (o : Option Refused). j == i && is_none o) refused ∙ none_of (j == i))
  where
    none_of : (b : Bool) → (b && false) ≡ false
    none_of true = refl
    none_of false = refl

-- .. nor any but its own
pub restart_elsewhere : (w : State) (i j : ℕ) → (j == i) ≡ false → opens_or_drops w (Restart i) j ≡ false
restart_elsewhere w i j apart = ap (λ b. b && is_none (refusal w (Restart i))) apart

pub restart_left : (Rejects : List ℕ → List Item → Type 0) (w w' : State) (i : ℕ) (old new : List Shelf)
    → opens_or_drops w (Restart i) i ≡ true → ((j : ℕ) → (j == i) ≡ false → shelf_at j new ≡ shelf_at j old)
    → LeavesOwn (newest_in w.common) i (stop_at i w'.instances) (shelf_at i old) (shelf_at i new)
    → LeavesShelves Rejects w (Restart i) w' old new
restart_left Rejects w w' i old new some rest left = record {
  each = λ j never. absurd (false≢true never);
  turned = λ j taken. elim (cases_Bool (nat_eq j i)) [
    | inl h ↦
        let is : j ≡ i = grind (arith, nat_tests) in
        subst (λ k. LeavesOwn (newest_in w.common) k (stop_at k w'.instances) (shelf_at k old) (shelf_at k new))
        (sym is) left
    | inr h ↦ absurd (true≢false (sym taken ∙ restart_elsewhere w i j h))
  ];
  others = λ j idle out. elim (cases_Bool (nat_eq j i)) [
    | inl h ↦
        let is : j ≡ i = grind (arith, nat_tests) in
        absurd (true≢false (sym some ∙ ap (opens_or_drops w (Restart i)) (sym is) ∙ out))
    | inr h ↦ rest j h
  ];
}

pub restart_there : (w : State) (i : ℕ) → ring_event_refusal (Restarts i) (roster_of w) ≡ None
    → opens_or_drops w (Restart i) i ≡ true
restart_there w i none =
    let itself : nat_eq i i ≡ true = grind (arith, nat_tests) in
    rw (itself, none) refl

-- ---- all had their turns

module _ (w lower : State) (r at : ℕ) (ks : List ℕ) (place : at + 1 ≡ r)
    (before : InTurn (FollowsRestartAt (around w.clock w.common ks) r) (take at all_instances) w lower) where
  its_place : at ≡ r - 1
  its_place = omega (arith, place)

  -- until then it is as it was, and so is what is so of all
  pub lower_same : instance_at r lower.instances ≡ instance_at r w.instances
  lower_same =
      stays_in_turn (λ i x. x) (λ i. WhereUp (FollowsRestart (around w.clock w.common ks) r))
      (λ i. FailsToFollow (around w.clock w.common ks) r) r (take at all_instances) w lower before
      (ap (λ k. is_among r (take k all_instances)) its_place ∙ not_before r (omega (arith, place)))

  pub lower_beside : IsSameBeside w lower
  lower_beside =
      beside_in_turn (λ i x. x) (λ i. WhereUp (FollowsRestart (around w.clock w.common ks) r))
      (λ i. FailsToFollow (around w.clock w.common ks) r) (take at all_instances) w lower before

  pub lower_may : At r (MayComeUp (newest_in w.common)) w.instances
      → At r (MayComeUp (newest_in lower.common)) lower.instances
  lower_may may x found =
      subst (λ (c : Common). MayComeUp (newest_in c) x) (sym lower_beside.common) (may x (sym lower_same ∙ found))

  pub lower_exists : IsSome (instance_at r w.instances) → IsSome (instance_at r lower.instances)
  lower_exists is = subst IsSome (sym lower_same) is

  pub all_restarting : (upper w' : State) (old new : Shelf) → ks ≡ incarnations_with r w.instances
      → ComesUpAt (around lower.clock lower.common ks) r old new lower upper
      → InTurn (FollowsRestartAt (around upper.clock upper.common ks) r) (drop (at + 1) all_instances) upper w'
      → Restarting (around_opening r w) r old new w w'
  all_restarting upper w' old new next comes after =
      let first : around w.clock w.common ks ≡ around_opening r w = ap (around w.clock w.common) next in
      let mid : around lower.clock lower.common ks ≡ around_opening r w =
      (λ d. around (lower_beside.clock d) (lower_beside.common d) (next d)) in
      let last : around upper.clock upper.common ks ≡ around_opening r w =
      (λ d. around (comes.beside.clock d) (comes.beside.common d) ks) ∙ mid in
      record {
        lower = lower;
        before = subst (λ a. InTurn (FollowsRestartAt a r) (take (r - 1) all_instances) w lower) first
            (subst (λ k. InTurn (FollowsRestartAt (around w.clock w.common ks) r) (take k all_instances) w lower)
            its_place before);
        upper = upper;
        opens = subst (λ a. ComesUpAt a r old new lower upper) mid comes;
        after = subst (λ a. InTurn (FollowsRestartAt a r) (drop r all_instances) upper w') last
            (subst (λ k. InTurn (FollowsRestartAt (around upper.clock upper.common ks) r) (drop k all_instances)
            upper w') place after);
      }

stops_alike : (i : ℕ) (xs ys : List Instance) → instance_at i xs ≡ instance_at i ys → stop_at i xs ≡ stop_at i ys
unfolding up_at cause_at
stops_alike i xs ys same = ap (λ (o : Option Instance). stop_for (up_where o) (cause_where o)) same

-- those behind it leave it as it was, and so the fault for which it stopped
pub upper_stop : (upper w' : State) (r at : ℕ) (ks : List ℕ) → at + 1 ≡ r
    → InTurn (FollowsRestartAt (around upper.clock upper.common ks) r) (drop (at + 1) all_instances) upper w'
    → stop_at r w'.instances ≡ stop_at r upper.instances
upper_stop upper w' r at ks place after =
    stops_alike r w'.instances upper.instances
    (stays_in_turn (λ i x. x) (λ i. WhereUp (FollowsRestart (around upper.clock upper.common ks) r))
    (λ i. FailsToFollow (around upper.clock upper.common ks) r) r (drop (at + 1) all_instances) upper w' after
    (ap (λ k. is_among r (drop k all_instances)) place ∙ not_behind r))
