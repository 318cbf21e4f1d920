-- Several instances have work of an event in turn, and it went well, or some of them stopped: where one is restarted,
-- and where a tenant is settled by force.
use Rattle.std.proofs.Common.{◌≡◌, ◌⊎◌, ◌∙◌, inl, inr, ℕ, ◌+◌, ◌==◌, ◌||◌, nat_eq, Bool, true, false, List}
use Rattle.std.proofs.Common.{[], ◌∷◌, filter, length, None, Some, refl, sym, ap, subst, arith, if◌then◌else◌}
use Rattle.std.proofs.lemmas.Bool.{cases_Bool, or_parts, true≢false}
use Rattle.std.proofs.lemmas.Bool.Decides.{nat_tests}
use Rattle.am_cluster.specs.Events.{Force, Output, Restart}
use Rattle.am_cluster.specs.RingChanges.{other_restarted}
use Rattle.am_cluster.specs.Rings.{newest_epoch}
use Rattle.am_cluster.specs.Roster.{Restarts, Roster, ring_event_refusal, roster_after}
use Rattle.am_item.specs.declared.fault.Fault.{Fault}
use Rattle.am_ring.proofs.Numbers.{all_among, within}
use Rattle.am_ring.specs.Instances.{all_instances, is_among, is_instance}
use Rattle.am_instance.specs.Changing.{StopsForcing, StopsReactingAll, renewed}
use Rattle.am_instance.specs.Shelves.{Shelf}
use Rattle.am_instance.specs.Ticks.{Either}
use Rattle.am_instance.specs.declared.instance.Instance.{Instance}
use Rattle.am_world.specs.Changes.{IsOpenedClean, roster_then}
use Rattle.am_world.specs.Changing.{ComesUp, FailsToComeUp, FailsToFollow, FailsToForce, FollowsRestart, ForcesAt}
use Rattle.am_world.specs.Changing.{InTurn, IsForced, Restarting, StopsComingUp, WhereUp, around_opening}
use Rattle.am_world.specs.Consistent.{IsConsistent, around_at, over}
use Rattle.am_world.specs.Places.{AreNumbered, Turns, instance_at, up_at}
use Rattle.am_world.specs.Shelves.{NeverCleaner, shelf_at}
use Rattle.am_world.specs.Simulation.{fault_count, refused_by, roster_of}
use Rattle.am_world.specs.Stopping.{IsSameStart, Step, StopsBy, WentOn}
use Rattle.am_world.specs.declared.common.Common.{Common}
use Rattle.am_world.specs.declared.state.State.{State}
use Rattle.am_world.proofs.AlonePlaces.{exists_then, incarnation_here, known_here, refused_here, up_here}
use Rattle.am_world.proofs.Beside.{kept_over}
use Rattle.am_world.proofs.FaultedTurns.{AsksSeveral, faulted_turns}
use Rattle.am_world.proofs.InTurn.{Becomes, HadTurns}
use Rattle.am_world.proofs.KeptForce.{Forcing, force_turns, kept_force}
use Rattle.am_world.proofs.KeptRestart.{kept_restart}
use Rattle.am_world.proofs.NotRefused.{roster_turned, taken}
use Rattle.am_world.proofs.RestartPlaces.{Restarted}
use Rattle.am_world.proofs.RestartTurns.{DoesAtRestart, FailsAtRestart, restart_turns, restarted_as}
use Rattle.am_world.proofs.Rostered.{named_by, put_other}
use Rattle.am_world.proofs.TickFaulted.{any_stopped, none_counted}
use Rattle.am_world.proofs.TickTurns.{CountsUp}

-- ---- nobody stopped

module _ (become : Becomes) (Are : ℕ → List Output → Instance → Instance → Type 0)
    (Cause : ℕ → Fault → Instance → Instance → Type 0) (w w' : State)
    (turns : HadTurns become Are Cause all_instances w w') where
  all_on : ((i : ℕ) → is_among i all_instances ≡ true → turns.stopped i ≡ false) → (i : ℕ) → turns.stopped i ≡ false
  all_on on i = elim (cases_Bool (turns.stopped i)) [
    | inl stopped ↦ on i (turns.among i stopped)
    | inr is ↦ is
  ]

  same_count : ((i : ℕ) → turns.stopped i ≡ false) → fault_count w' ≡ fault_count w
  same_count on =
      subst (λ n. CountsUp n (fault_count w) (fault_count w')) (none_counted turns.stopped all_instances on)
      turns.counted

  -- either nobody stopped, and no fault is counted, or somebody did
  who_stopped : (((i : ℕ) → turns.stopped i ≡ false) × (fault_count w' ≡ fault_count w))
      ⊎ ((i : ℕ) × (turns.stopped i ≡ true))
  who_stopped = elim (any_stopped turns.stopped all_instances) [
    | inl on ↦ inl (all_on on, same_count (all_on on))
    | inr found ↦ inr (found.0, found.2)
  ]

-- ---- by force

module _ (w w' : State) (tenant : List ℕ) (numbered : AreNumbered w.instances)
    (turns : Forcing (around_at w.clock w) tenant w w') (shelves : List Shelf) where
  forcing_causes : (i : ℕ) (fault : Fault)
      → Turns i (FailsToForce (around_at w.clock w) tenant fault) w.instances w'.instances
      → StopsBy w shelves (Force tenant) i fault (refused_by w' i)
  forcing_causes i fault fails x at =
      let y = exists_then i w.instances w'.instances x numbered turns.numbered at in
      subst (λ texts. StopsForcing (around_at w.clock w) tenant x texts fault)
      (sym (refused_here i w'.instances y.0 y.1)) (fails x y.0 at y.1).1

  asks_force : AsksSeveral w w' (Force tenant) shelves shelves (λ i x. x)
      (λ i. WhereUp (IsForced (around_at w.clock w) tenant)) (λ i. FailsToForce (around_at w.clock w) tenant)
  asks_force = record {
    taken = refl;
    clock = refl;
    left = λ posted. refl;
    worked = λ i fault x x' at cause. up_here i w.instances x at ∙ cause.0;
    causes = λ i fault clean fails. forcing_causes i fault fails;
    idle = λ i told x x' at none did.
        let down : x.up ≡ false = sym (up_here i w.instances x at) ∙ none in
        (did.idle down, did.quiet down);
    goes = λ i told works did. did;
    rings = ap (λ (c : Common). named_by c.rings.items) turns.beside.common;
    own = λ i x at. (sym (incarnation_here i w.instances x at), sym (known_here i w.instances x at));
    outside = λ i apart. (refl, refl);
    refused = λ i x. refl;
  }

  forced_step : Step (over w shelves) (Force tenant) (over w' shelves)
  forced_step = record {
    ends = elim (who_stopped (λ i x. x) (λ i. WhereUp (IsForced (around_at w.clock w) tenant))
        (λ i. FailsToForce (around_at w.clock w) tenant) w w' turns) [
          | inl on ↦
              inl (kept_over (over w shelves) (Force tenant) (over w' shelves) refl
              (kept_force w w' tenant numbered turns on.0 on.1) (λ i down. refl))
          | inr found ↦
              inr (faulted_turns w w' (Force tenant) shelves shelves (λ i x. x)
              (λ i. WhereUp (IsForced (around_at w.clock w) tenant))
              (λ i. FailsToForce (around_at w.clock w) tenant) numbered asks_force turns found.0 found.1)
        ];
    clean = λ i clean. clean;
  }

pub force_step : (w w' : State) (tenant : List ℕ) → AreNumbered w.instances
    → InTurn (ForcesAt (around_at w.clock w) tenant) all_instances w w' → (shelves : List Shelf)
    → Step (over w shelves) (Force tenant) (over w' shelves)
force_step w w' tenant numbered turns shelves =
    forced_step w w' tenant numbered (force_turns (around_at w.clock w) tenant w w' numbered turns) shelves

-- ---- a restart

module _ (w w' : State) (r : ℕ) (old new : List Shelf) (consistent : IsConsistent w)
    (none : ring_event_refusal (Restarts r) (roster_of w) ≡ None) (exists : is_among r all_instances ≡ true)
    (turns : Restarted r (shelf_at r old) (shelf_at r new) w w') where
  turned : roster_then (Restart r) (roster_of w) ≡ roster_after (Restarts r) (roster_of w)
  turned = roster_turned w (Restarts r) none

  worked : (i : ℕ) (fault : Fault) (x x' : Instance) → instance_at i w.instances ≡ Some x
      → FailsAtRestart (around_opening r w) r (shelf_at r old) (shelf_at r new) i fault x x'
      → (i == r || up_at i w.instances) ≡ true
  worked i fault x x' at fails = by (i == r) fails
    where
      by : (b : Bool) → Either b (FailsToComeUp (around_opening r w) (shelf_at r old) (shelf_at r new) fault x x')
          (FailsToFollow (around_opening r w) r fault x x') → (b || up_at i w.instances) ≡ true
      by true comes = refl
      by false follows = up_here i w.instances x at ∙ follows.0

  store_clean : (i : ℕ) → IsOpenedClean (roster_of w) (Restart r) new i → (i == r) ≡ true
      → (shelf_at r new).is_clean ≡ true
  store_clean i clean is =
      let same : i ≡ r = grind (arith, nat_tests) in
      subst (λ k. (shelf_at k new).is_clean ≡ true) same (clean (rw (is, none) refl))

  restart_causes : (i : ℕ) (fault : Fault) → IsOpenedClean (roster_of w) (Restart r) new i
      → Turns i (FailsAtRestart (around_opening r w) r (shelf_at r old) (shelf_at r new) i fault)
      w.instances w'.instances
      → StopsBy w old (Restart r) i fault (refused_by w' i)
  restart_causes i fault clean fails x at =
      let y = exists_then i w.instances w'.instances x consistent.numbered turns.numbered at in
      by y.0 (i == r) (store_clean i clean) (fails x y.0 at y.1)
    where
      by : (y : Instance) (b : Bool) → (b ≡ true → (shelf_at r new).is_clean ≡ true)
          → Either b (FailsToComeUp (around_opening r w) (shelf_at r old) (shelf_at r new) fault x y)
          (FailsToFollow (around_opening r w) r fault x y)
          → Either b (StopsComingUp (around_opening r w) (shelf_at r old) fault x)
          (StopsReactingAll (around_opening r w) (λ t here. other_restarted here r) x fault)
      by y true is_clean comes = comes (is_clean refl)
      by y false is_clean follows = follows.1

  idle : (i : ℕ) (told : List Output) (x x' : Instance) → instance_at i w.instances ≡ Some x
      → (i == r || up_at i w.instances) ≡ false
      → DoesAtRestart (around_opening r w) r (shelf_at r old) (shelf_at r new) i told x x' → (x' ≡ x) × (told ≡ [])
  idle i told x x' at out did =
      let parts = or_parts (i == r) (up_at i w.instances) out in
      let down : x.up ≡ false = sym (up_here i w.instances x at) ∙ parts.1 in
      let follows : WhereUp (FollowsRestart (around_opening r w) r) told x x' =
      subst (λ b. Either b (ComesUp (around_opening r w) (shelf_at r old) (shelf_at r new) told x x')
      (WhereUp (FollowsRestart (around_opening r w) r) told x x')) parts.0 did in
      (follows.idle down, follows.quiet down)

  goes : (i : ℕ) (told : List Output) → (i == r || up_at i w.instances) ≡ true
      → Turns i (DoesAtRestart (around_opening r w) r (shelf_at r old) (shelf_at r new) i told) w.instances w'.instances
      → WentOn (over w old) (Restart r) i told (over w' new)
  goes i told works did = did

  own_start : (i : ℕ) (x : Instance) → instance_at i w.instances ≡ Some x
      → ((restarted_as (around_opening r w) r i x).incarnation
      ≡ (roster_after (Restarts r) (roster_of w)).incarnation i)
      × ((restarted_as (around_opening r w) r i x).known ≡ (roster_after (Restarts r) (roster_of w)).known i)
  unfolding roster_after
  own_start i x at = elim (cases_Bool (nat_eq i r)) [
    | inl h ↦
        let is : i ≡ r = grind (arith, nat_tests) in
        rw h (
          ap (λ n. n + 1) (sym (incarnation_here i w.instances x at) ∙ ap (roster_of w).incarnation is),
          refl,
        )
    | inr h ↦ rw h (sym (incarnation_here i w.instances x at), sym (known_here i w.instances x at))
  ]

  outside : (i : ℕ) → is_among i all_instances ≡ false
      → IsSameStart i (roster_after (Restarts r) (roster_of w)) (roster_of w)
  unfolding roster_after
  outside i apart =
      let other : nat_eq i r ≡ false = differs i apart in (
        put_other (roster_of w).incarnation r i ((roster_of w).incarnation r + 1) other,
        put_other (roster_of w).known r i (newest_epoch (roster_of w).rings) other,
      )
    where
      differs : (j : ℕ) → is_among j all_instances ≡ false → nat_eq j r ≡ false
      differs j out = elim (cases_Bool (nat_eq j r)) [
        | inl h ↦
            let is : j ≡ r = grind (arith, nat_tests) in
            absurd (true≢false (sym exists ∙ ap (λ k. is_among k all_instances) (sym is) ∙ out))
        | inr h ↦ h
      ]

  as_renewed : (i : ℕ) (x : Instance) (b : Bool)
      → (if b then renewed (around_opening r w) x else x).cache.refused ≡ x.cache.refused
  as_renewed i x true = refl
  as_renewed i x false = refl

  rings_then : (roster_of w').rings ≡ (roster_then (Restart r) (roster_of w)).rings
  unfolding roster_after
  rings_then =
      ap (λ (c : Common). named_by c.rings.items) turns.beside.common
      ∙ sym (ap (λ (roster : Roster). roster.rings) turned)

  asks_restart : AsksSeveral w w' (Restart r) old new (restarted_as (around_opening r w) r)
      (DoesAtRestart (around_opening r w) r (shelf_at r old) (shelf_at r new))
      (FailsAtRestart (around_opening r w) r (shelf_at r old) (shelf_at r new))
  asks_restart = record {
    taken = taken w (Restarts r) none;
    clock = refl;
    left = λ posted. refl;
    worked = worked;
    causes = restart_causes;
    idle = idle;
    goes = goes;
    rings = rings_then;
    own = λ i x at.
        subst (λ (roster : Roster).
        ((restarted_as (around_opening r w) r i x).incarnation ≡ roster.incarnation i)
        × ((restarted_as (around_opening r w) r i x).known ≡ roster.known i)) (sym turned) (own_start i x at);
    outside = λ i apart.
        subst (λ (roster : Roster). IsSameStart i roster (roster_of w)) (sym turned) (outside i apart);
    refused = λ i x. as_renewed i x (i == r);
  }

  restarted_step : up_at r w.instances ≡ false → NeverCleaner old new
      → ((j : ℕ) → (j == r) ≡ false → shelf_at j new ≡ shelf_at j old)
      → Step (over w old) (Restart r) (over w' new)
  restarted_step down never rest = record {
    ends = elim (who_stopped (restarted_as (around_opening r w) r)
        (DoesAtRestart (around_opening r w) r (shelf_at r old) (shelf_at r new))
        (FailsAtRestart (around_opening r w) r (shelf_at r old) (shelf_at r new)) w w' turns) [
          | inl on ↦ inl (kept_restart w w' r old new consistent exists turns on.0 down none (never r) rest on.1)
          | inr found ↦
              inr (faulted_turns w w' (Restart r) old new (restarted_as (around_opening r w) r)
              (DoesAtRestart (around_opening r w) r (shelf_at r old) (shelf_at r new))
              (FailsAtRestart (around_opening r w) r (shelf_at r old) (shelf_at r new)) consistent.numbered asks_restart
              turns found.0 found.1)
        ];
    clean = never;
  }

pub restart_step : (w w' : State) (r : ℕ) (old new : List Shelf) → IsConsistent w
    → ring_event_refusal (Restarts r) (roster_of w) ≡ None → is_instance r ≡ true
    → Restarting (around_opening r w) r (shelf_at r old) (shelf_at r new) w w' → up_at r w.instances ≡ false
    → NeverCleaner old new → ((j : ℕ) → (j == r) ≡ false → shelf_at j new ≡ shelf_at j old)
    → Step (over w old) (Restart r) (over w' new)
restart_step w w' r old new consistent none is restarting down never rest =
    let bounds = within r is in
    restarted_step w w' r old new consistent none (all_among r is)
    (restart_turns (around_opening r w) r (shelf_at r old) (shelf_at r new) w w' consistent.numbered bounds.low
    bounds.high restarting) down never rest
