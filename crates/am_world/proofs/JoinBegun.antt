-- A join begins: whether it is refused, and the world that has the new ring; and what the turn of the instance is
-- there.
use Rattle.std.proofs.Common.{◌≡◌, ◌∙◌, inl, inr, ℕ, ◌+◌, ◌==◌, nat_eq, true, false, List, [], ◌∷◌, ◌++◌, None, Some}
use Rattle.std.proofs.Common.{◌&&◌, Bool, IsSome, Option, is_none, refl, sym, ap, subst, arith}
use Rattle.std.specs.Prelude.{IsTrue, nat_le}
use Rattle.std.proofs.lemmas.Bool.{cases_Bool, false≢true, true≢false}
use Rattle.std.proofs.lemmas.Bool.Decides.{nat_tests}
use Rattle.am_cluster.specs.Events.{Join}
use Rattle.am_cluster.specs.Refused.{NoIncarnation, Refused}
use Rattle.am_cluster.specs.Rings.{newest_epoch}
use Rattle.am_cluster.specs.Roster.{Joins, Roster, last_incarnation, refused_by_ring, ring_event_refusal, roster_after}
use Rattle.am_item.specs.declared.item.Item.{Item}
use Rattle.am_messages.specs.Posted.{posted_at}
use Rattle.am_ring.proofs.Admitted.{may_join}
use Rattle.am_ring.specs.Changes.{join_refusal, with_instance}
use Rattle.am_ring.specs.Instances.{Members, in_order, is_among, is_instance}
use Rattle.am_ring.specs.declared.refusal.RingRefusal.{RingRefusal}
use Rattle.am_instance.specs.Changing.{StopsOpening, renewed}
use Rattle.am_instance.specs.Here.{Circumstances, rings_on}
use Rattle.am_instance.specs.Leaving.{LeavesOwn}
use Rattle.am_instance.specs.Shelves.{Shelf}
use Rattle.am_instance.specs.Ticks.{Either}
use Rattle.am_instance.specs.declared.instance.Instance.{Instance}
use Rattle.am_world.specs.Changes.{IsOpenedClean, roster_then}
use Rattle.am_world.specs.Changing.{Acts, ComesUp, ComesUpAt, Ends, FailsToComeUp, MayComeUp, around_opening}
use Rattle.am_world.specs.Changing.{incarnations_with, members_of, with_ring}
use Rattle.am_world.specs.Consistent.{IsConsistent, IsMember, around, newest_in, over}
use Rattle.am_world.specs.Leaving.{LeavesOpenedOrDropped, LeavesShelves, opens_or_drops, stop_at}
use Rattle.am_world.specs.Places.{At, ChangesAt, EachIs, incarnation_at, instance_at}
use Rattle.am_world.specs.Posting.{posted_over}
use Rattle.am_world.specs.Refusal.{refusal}
use Rattle.am_world.specs.Shelves.{NeverCleaner, shelf_at}
use Rattle.am_world.specs.Simulation.{IsSameBeside, roster_of}
use Rattle.am_world.specs.Steps.{Kept}
use Rattle.am_world.specs.Stopping.{Faulted, IsSameStart, Step}
use Rattle.am_world.specs.declared.common.Common.{Common}
use Rattle.am_world.specs.declared.state.State.{State}
use Rattle.am_world.proofs.AlonePlaces.{exists_then, incarnation_here}
use Rattle.am_world.proofs.FaultedRing.{AsksOne, Begins, faulted_one}
use Rattle.am_world.proofs.InstancesLemmas.{number_of}
use Rattle.am_world.proofs.KeptJoin.{CameUp, kept_join}
use Rattle.am_world.proofs.NotRefused.{roster_turned, taken}
use Rattle.am_world.proofs.Placed.{there}
use Rattle.am_world.proofs.Shelved.{shelves_unwritten}
use Rattle.am_world.proofs.Rostered.{consistent_pushed, joined_itself, members_joined, named_by, newest_pushed}
use Rattle.am_world.proofs.Rostered.{put_here, put_other, ring_joined, rings_pushed}

-- ---- it stopped on the way

module _ (w : State) (i : ℕ) (around : Circumstances)
    (none : ring_event_refusal (Joins i) (roster_of w) ≡ None)
    (rings : rings_on around ≡ (roster_of w).rings ++ with_instance i (newest_in w.common) ∷ []) where
  turned : roster_then (Join i) (roster_of w) ≡ roster_after (Joins i) (roster_of w)
  turned = roster_turned w (Joins i) none

  own_start : (x : Instance) → instance_at i w.instances ≡ Some x
      → ((renewed around x).incarnation ≡ (roster_after (Joins i) (roster_of w)).incarnation i)
      × ((renewed around x).known ≡ (roster_after (Joins i) (roster_of w)).known i)
  unfolding roster_after
  own_start x at = (
    ap (λ n. n + 1) (sym (incarnation_here i w.instances x at))
        ∙ sym (put_here (roster_of w).incarnation i ((roster_of w).incarnation i + 1)),
    ap newest_epoch rings
        ∙ sym (put_here (roster_of w).known i
        (newest_epoch ((roster_of w).rings ++ with_instance i (newest_in w.common) ∷ []))),
  )

  other_start : (j : ℕ) → (j == i) ≡ false → IsSameStart j (roster_after (Joins i) (roster_of w)) (roster_of w)
  unfolding roster_after
  other_start j apart = (
    put_other (roster_of w).incarnation i j ((roster_of w).incarnation i + 1) apart,
    put_other (roster_of w).known i j
        (newest_epoch ((roster_of w).rings ++ with_instance i (newest_in w.common) ∷ [])) apart,
  )

  pub asks_join : IsSome (instance_at i w.instances) → AsksOne w (Join i) i (renewed around)
  asks_join exists = record {
    taken = taken w (Joins i) none;
    alone = λ j. refl;
    clock = refl;
    left = λ posted. refl;
    exists = exists;
    own = λ x at.
        subst (λ (r : Roster). ((renewed around x).incarnation ≡ r.incarnation i)
        × ((renewed around x).known ≡ r.known i)) (sym turned) (own_start x at);
    others = λ j apart.
        subst (λ (r : Roster). IsSameStart j r (roster_of w)) (sym turned) (other_start j apart);
    refused = λ x. refl;
  }

  -- the rings that are then
  pub rings_joined : (new : List (List ℕ))
      → new ≡ (roster_of w).rings ++ with_instance i (newest_in w.common) ∷ []
      → new ≡ (roster_then (Join i) (roster_of w)).rings
  unfolding roster_after
  rings_joined new is = is ∙ sym (ap (λ (r : Roster). r.rings) turned)

-- ---- the ring takes it, or refuses it

pub join_taken : (w : State) (i : ℕ) → join_refusal i (newest_in w.common) ≡ None
    → nat_le last_incarnation (incarnation_at i w.instances) ≡ false
    → ring_event_refusal (Joins i) (roster_of w) ≡ None
unfolding ring_event_refusal
join_taken w i none next = rw (none, next) refl

pub join_refused : (w : State) (i : ℕ) (refusal : RingRefusal) → join_refusal i (newest_in w.common) ≡ Some refusal
    → ring_event_refusal (Joins i) (roster_of w) ≡ Some (refused_by_ring refusal)
unfolding ring_event_refusal
join_refused w i refusal is = rw is refl

pub join_last : (w : State) (i : ℕ) → join_refusal i (newest_in w.common) ≡ None
    → nat_le last_incarnation (incarnation_at i w.instances) ≡ true
    → ring_event_refusal (Joins i) (roster_of w) ≡ Some NoIncarnation
unfolding ring_event_refusal
join_last w i none last = rw (none, last) refl

-- an instance that may join is one
pub joiner_is : (i : ℕ) (w : State) → join_refusal i (newest_in w.common) ≡ None → IsTrue (is_instance i)
joiner_is i w none = (may_join i (newest_in w.common) none).is

-- ---- the ring with it is the newest one

pub record Joining (i : ℕ) (w begun : State) : Type 0 where
  pub taken : ring_event_refusal (Joins i) (roster_of w) ≡ None
  pub rings : (roster_of begun).rings ≡ (roster_of w).rings ++ with_instance i (newest_in w.common) ∷ []
  pub consistent : IsConsistent begun
  pub may : At i (MayComeUp (newest_in begun.common)) begun.instances

pub joining : (i : ℕ) (w begun : State) (ring : Members) → IsConsistent w → Begins w begun
    → begun.common.rings.items ≡ w.common.rings.items ++ ring ∷ []
    → ring.instances ≡ with_instance i (newest_in w.common) → join_refusal i (newest_in w.common) ≡ None
    → nat_le last_incarnation (incarnation_at i w.instances) ≡ false → Joining i w begun
joining i w begun ring was begins rings is none next =
    let none_then = join_taken w i none next in
    record {
      taken = none_then;
      rings = rings_pushed w begun begins ring rings ∙ ap (λ r. (roster_of w).rings ++ r ∷ []) is;
      consistent = consistent_pushed w begun begins ring rings was
          (subst (λ r. in_order r ≡ r) (sym is) (ring_joined w i was none_then))
          (subst (λ r. EachIs (IsMember r) w.instances) (sym is) (members_joined w i was));
      may = λ x found.
          let at : instance_at i w.instances ≡ Some x = sym (ap (instance_at i) begins.instances) ∙ found in
          let number : x.number ≡ i = number_of i w.instances x at in
          record {
            down = out_of_ring w i x was none at;
            next = let early : nat_le last_incarnation x.incarnation ≡ false =
                sym (ap (nat_le last_incarnation) (incarnation_here i w.instances x at)) ∙ next in
                grind (arith, nat_tests);
            member = subst (λ r. is_among x.number r ≡ true)
                (sym (newest_pushed w begun begins ring rings ∙ is))
                (subst (λ k. is_among k (with_instance i (newest_in w.common)) ≡ true) (sym number)
                (joined_itself i (newest_in w.common) (may_join i (newest_in w.common) none).is));
          };
    }
  where
    -- who may join isn't in the ring, and so not up
    out_of_ring : (w : State) (i : ℕ) (x : Instance) → IsConsistent w → join_refusal i (newest_in w.common) ≡ None
        → instance_at i w.instances ≡ Some x → x.up ≡ false
    out_of_ring w i x was none at = elim (cases_Bool x.up) [
      | inl up ↦
          let among : is_among x.number (newest_in w.common) ≡ true = was.members i x at up in
          absurd (true≢false (sym among ∙ ap (λ k. is_among k (newest_in w.common)) (number_of i w.instances x at)
          ∙ (may_join i (newest_in w.common) none).new))
      | inr down ↦ down
    ]

-- ---- what became of it, by its turn

-- it acted in the world that has the new ring
pub came_up : (i : ℕ) (around : Circumstances) (old new : Shelf) (w begun w' : State) → IsConsistent w → Begins w begun
    → IsSome (instance_at i w.instances) → At i (MayComeUp (newest_in begun.common)) begun.instances
    → ChangesAt i begun.instances w'.instances → IsSameBeside begun w' → around.moment ≡ w.clock
    → around.limits ≡ w.common.limits → (roster_of begun).rings ≡ rings_on around → around.first ≡ w.common.first
    → around.incarnations ≡ incarnations_with i w.instances
    → Acts i (renewed around) (ComesUp around old new) begun w' → CameUp i around old new w w'
came_up i around old new w begun w' was begins exists may changed beside moment limits rings first incarnations acts =
    let change = subst (λ xs. ChangesAt i xs w'.instances) begins.instances changed in
    let x = there i w.instances exists in
    let y = exists_then i w.instances w'.instances x.0 was.numbered change.numbered x.1 in
    let at : instance_at i begun.instances ≡ Some x.0 = ap (instance_at i) begins.instances ∙ x.1 in
    record {
      numbered = was.numbered;
      early = was.clock;
      x = x.0;
      y = y.0;
      is_at = x.1;
      is_then = y.1;
      was_down = (may x.0 at).down;
      told = acts.told;
      opens = acts.acts x.0 y.0 at y.1;
      node = acts.node x.0 y.0 at y.1;
      change = change;
      posts = λ name.
          acts.posts name
          ∙ ap (λ m. posted_over m acts.told name (posted_at name begun.messages)) begins.clock
          ∙ ap (λ post. posted_over w.clock acts.told name (posted_at name post)) begins.messages;
      appended = acts.appended ∙ ap (λ outs. outs ++ acts.told) begins.outputs;
      faults = acts.faults ∙ begins.faults;
      clock = beside.clock ∙ begins.clock;
      limits = ap (λ (c : Common). c.limits) beside.common ∙ begins.limits;
      service_key = ap (λ (c : Common). c.service_key) beside.common ∙ begins.service_key;
      first = ap (λ (c : Common). c.first) beside.common ∙ begins.first;
      at_moment = moment;
      by_limits = limits;
      by_rings = ap (λ (c : Common). named_by c.rings.items) beside.common ∙ rings;
      by_first = first;
      by_incarnations = incarnations;
    }

-- ---- the event

module _ (i : ℕ) (w begun w' : State) (ks : List ℕ) (old new : List Shelf) (was : IsConsistent w)
    (begins : Begins w begun) (joins : Joining i w begun)
    (rings : begun.common.rings.items
    ≡ w.common.rings.items ++ members_of (with_instance i (newest_in w.common)) ∷ [])
    (next : ks ≡ incarnations_with i w.instances) (exists : IsSome (instance_at i w.instances))
    (turn : ComesUpAt (around begun.clock begun.common ks) i (shelf_at i old) (shelf_at i new) begun w')
    (never : NeverCleaner old new) (others : (j : ℕ) → (j == i) ≡ false → shelf_at j new ≡ shelf_at j old) where
  abbrev by : Circumstances
  by = around begun.clock begun.common ks

  by_is : by ≡ with_ring (with_instance i (newest_in w.common)) (around_opening i w)
  by_is = λ d. record {
    moment = begins.clock d;
    service_key = begins.service_key d;
    limits = begins.limits d;
    rings = rings d;
    first = begins.first d;
    incarnations = next d;
  }

  joined : Acts i (renewed by) (ComesUp by (shelf_at i old) (shelf_at i new)) begun w'
      → Kept (over w old) (Join i) (over w' new)
  joined acts =
      kept_join i by old new w w'
      (came_up i by (shelf_at i old) (shelf_at i new) w begun w' was begins exists joins.may turn.others turn.beside
      begins.clock begins.limits refl begins.first next acts)
      joins.taken joins.rings (never i) others

  store_clean : IsOpenedClean (roster_of w) (Join i) new i → (shelf_at i new).is_clean ≡ true
  store_clean clean =
      let itself : nat_eq i i ≡ true = grind (arith, nat_tests) in
      clean (rw (itself, joins.taken) refl)

  rings_then : (roster_of w').rings ≡ (roster_then (Join i) (roster_of w)).rings
  rings_then =
      rings_joined w i by joins.taken joins.rings (roster_of w').rings
      (ap (λ (c : Common). named_by c.rings.items) turn.beside.common ∙ joins.rings)

  stopped : Ends i (renewed by) (FailsToComeUp by (shelf_at i old) (shelf_at i new)) begun w'
      → Faulted (over w old) (Join i) (over w' new)
  stopped ends =
      faulted_one w begun w' (Join i) i (renewed by) (FailsToComeUp by (shelf_at i old) (shelf_at i new)) was.numbered
      (asks_join w i by joins.taken joins.rings exists) begins ends turn.others turn.beside old new rings_then
      (λ clean turns x at.
      let change = subst (λ xs. ChangesAt i xs w'.instances) begins.instances turn.others in
      let y = exists_then i w.instances w'.instances x was.numbered change.numbered at in
      subst (λ (a : Circumstances). StopsOpening a (shelf_at i old).pairs (Unit {0}) (renewed a x) ends.fault) by_is
      (turns x y.0 at y.1 (store_clean clean)))

  pub join_step : Step (over w old) (Join i) (over w' new)
  join_step = record {
    ends = elim turn.ends [ inl acts ↦ inl (joined acts) | inr ends ↦ inr (stopped ends) ];
    clean = never;
  }

-- ---- what is left in its store

-- nothing is said of one that is opened
pub turns_joined : (w : State) (i : ℕ) → refusal w (Join i) ≡ None → opens_or_drops w (Join i) i ≡ true
turns_joined w i none = let itself : nat_eq i i ≡ true = grind (arith, nat_tests) in rw (itself, none) refl

pub turns_beside : (w : State) (i j : ℕ) → (j == i) ≡ false → opens_or_drops w (Join i) j ≡ false
turns_beside w i j apart = rw apart refl

-- none is opened where it is refused
pub join_untouched : (Rejects : List ℕ → List Item → Type 0) (w : State) (i : ℕ) (shelves : List Shelf) (r : Refused)
    → ring_event_refusal (Joins i) (roster_of w) ≡ Some r → LeavesShelves Rejects w (Join i) w shelves shelves
join_untouched Rejects w i shelves r refused =
    shelves_unwritten Rejects w (Join i) w shelves (λ j. refl)
    (λ j. ap (λ (o : Option Refused). j == i && is_none o) refused ∙ none_of (j == i))
  where
    none_of : (b : Bool) → (b && false) ≡ false
    none_of true = refl
    none_of false = refl

-- .. nor where no memory was found for the ring
pub join_unbegun : (Rejects : List ℕ → List Item → Type 0) (w w' : State) (i : ℕ) (shelves : List Shelf)
    → is_among i (newest_in w'.common) ≡ false → LeavesShelves Rejects w (Join i) w' shelves shelves
join_unbegun Rejects w w' i shelves out = record {
  each = λ j never. absurd (false≢true never);
  turned = λ j some. elim (cases_Bool (nat_eq j i)) [
    | inl h ↦
        let is : j ≡ i = grind (arith, nat_tests) in
        subst (λ k. LeavesOpenedOrDropped w (Join i) w' k (shelf_at k shelves) (shelf_at k shelves)) (sym is)
        (rw out refl)
    | inr h ↦ absurd (true≢false (sym some ∙ turns_beside w i j h))
  ];
  others = λ j idle out. refl;
}

-- what it leaves in the store that it opens
pub joined_left : (i : ℕ) (begun w' : State) (old new : Shelf) → w'.common ≡ begun.common
    → is_among i (newest_in begun.common) ≡ true
    → LeavesOwn (newest_in begun.common) i (stop_at i w'.instances) old new
    → Either (is_among i (newest_in w'.common))
    (LeavesOwn (newest_in w'.common) i (stop_at i w'.instances) old new) (new ≡ old)
joined_left i begun w' old new same member left =
    subst (λ (c : Common). Either (is_among i (newest_in c)) (LeavesOwn (newest_in c) i (stop_at i w'.instances) old new)
    (new ≡ old)) (sym same) (rw member left)
