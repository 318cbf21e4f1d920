-- An event by which the ring or an instance changes, where the one instance that works stopped, or where there was no
-- memory for the ring.
use Rattle.std.proofs.Common.{◌≡◌, ◌∙◌, inl, inr, ℕ, ◌+◌, ◌-◌, ◌^◌, ◌==◌, nat_eq, true, false, List, []}
use Rattle.std.proofs.Common.{Option, None, Some, IsSome, min, refl, sym, ap, subst, arith}
use Rattle.std.proofs.lemmas.Bool.{cases_Bool, true≢false}
use Rattle.std.proofs.lemmas.Bool.Decides.{nat_tests}
use Rattle.std.proofs.lemmas.List.{append-nil}
use Rattle.am_cluster.specs.Events.{Event}
use Rattle.am_item.specs.declared.fault.Fault.{Fault}
use Rattle.am_limit.specs.Books.{limits_of}
use Rattle.am_messages.specs.Posted.{posted_at}
use Rattle.am_messages.specs.declared.messages.Posted.{Posted}
use Rattle.am_instance.specs.Instance.{HasMore, IsSameNode, refused_in}
use Rattle.am_instance.specs.Shelves.{Shelf}
use Rattle.am_instance.specs.declared.instance.Instance.{Instance}
use Rattle.am_world.specs.Changes.{IsOpenedClean, roster_then}
use Rattle.am_world.specs.Changing.{Ends}
use Rattle.am_world.specs.Consistent.{over}
use Rattle.am_world.specs.Places.{AreNumbered, ChangesAt, KeepRefused, Turns, incarnation_at, incarnation_where}
use Rattle.am_world.specs.Places.{instance_at, known_at, known_where, refused_at, refused_where}
use Rattle.am_world.specs.Refusal.{refusal}
use Rattle.am_world.specs.Simulation.{IsSameBeside, fault_count, put_out, refused_by, roster_of}
use Rattle.am_world.specs.Steps.{clock_after}
use Rattle.am_world.specs.Stopping.{Faulted, IsSameStart, StopsBy, left_by, may_fail_alone, works}
use Rattle.am_world.specs.declared.common.Common.{Common}
use Rattle.am_world.specs.declared.state.State.{State}
use Rattle.am_world.proofs.AlonePlaces.{exists_then}
use Rattle.am_world.proofs.Faults.{one_fault}
use Rattle.am_world.proofs.Placed.{there}
use Rattle.am_world.proofs.RunPlaces.{turned}

-- what an event may have changed before an instance acts: the rings alone
pub record Begins (w begun : State) : Type 0 where
  pub instances : begun.instances ≡ w.instances
  pub messages : begun.messages ≡ w.messages
  pub outputs : put_out begun ≡ put_out w
  pub faults : fault_count begun ≡ fault_count w
  pub clock : begun.clock ≡ w.clock
  pub limits : begun.common.limits ≡ w.common.limits
  pub service_key : begun.common.service_key ≡ w.common.service_key
  pub first : begun.common.first ≡ w.common.first

pub begins_itself : (w : State) → Begins w w
begins_itself w = record {
  instances = refl;
  messages = refl;
  outputs = refl;
  faults = refl;
  clock = refl;
  limits = refl;
  service_key = refl;
  first = refl;
}

-- ---- no memory for the ring

pub faulted_alone : (w w' : State) (shelves : List Shelf) (e : Event) → refusal w e ≡ None → may_fail_alone e ≡ true
    → Begins w (record w' { faults = w.faults }) → w'.common.rings.items ≡ w.common.rings.items
    → fault_count w' ≡ min (fault_count w + 1) (2 ^ 64 - 1) → Faulted (over w shelves) e (over w' shelves)
faulted_alone w w' shelves e taken may begins rings counted = inr (record {
  taken = taken;
  may = may;
  clock = begins.clock;
  limits = λ t. ap (limits_of t) begins.limits;
  service_key = begins.service_key;
  rings = rings;
  first = begins.first;
  instances = begins.instances;
  messages = begins.messages;
  outputs = begins.outputs;
  counted = counted;
  shelves = refl;
})

-- ---- the one that works stopped

-- what is so of an event that asks work of one instance: once it went well, that has become this, and every other is in
-- the incarnation and knows the ring that it was in and knew
pub record AsksOne (w : State) (e : Event) (i : ℕ) (become : Instance → Instance) : Type 0 where
  pub taken : refusal w e ≡ None
  pub alone : (j : ℕ) → works w e j ≡ (j == i)
  pub clock : clock_after e w.clock ≡ w.clock
  pub left : (posted : Option Posted) → left_by e posted ≡ posted
  pub exists : IsSome (instance_at i w.instances)
  pub own : (x : Instance) → instance_at i w.instances ≡ Some x
      → ((become x).incarnation ≡ (roster_then e (roster_of w)).incarnation i)
      × ((become x).known ≡ (roster_then e (roster_of w)).known i)
  pub others : (j : ℕ) → (j == i) ≡ false → IsSameStart j (roster_then e (roster_of w)) (roster_of w)
  pub refused : (x : Instance) → refused_in (become x) ≡ refused_in x

module _ (w begun w' : State) (e : Event) (i : ℕ) (become : Instance → Instance)
    (Cause : Fault → Instance → Instance → Type 0) (numbered : AreNumbered w.instances)
    (asks : AsksOne w e i become) (begins : Begins w begun) (ends : Ends i become Cause begun w')
    (changed : ChangesAt i begun.instances w'.instances) (beside : IsSameBeside begun w') where
  change : ChangesAt i w.instances w'.instances
  change = subst (λ xs. ChangesAt i xs w'.instances) begins.instances changed

  node : Turns i (λ x x'. IsSameNode (become x) x') w.instances w'.instances
  node = subst (λ xs. Turns i (λ x x'. IsSameNode (become x) x') xs w'.instances) begins.instances ends.node

  itself : nat_eq i i ≡ true
  itself = grind (arith, nat_tests)

  starts_there : (x y : Instance) → instance_at i w.instances ≡ Some x → instance_at i w'.instances ≡ Some y
      → IsSameNode (become x) y → IsSameStart i (roster_of w') (roster_then e (roster_of w))
  unfolding incarnation_at known_at
  starts_there x y at after became = (
    ap incarnation_where after ∙ became.incarnation ∙ (asks.own x at).0,
    ap known_where after ∙ became.known ∙ (asks.own x at).1,
  )

  starts : (j : ℕ) → IsSameStart j (roster_of w') (roster_then e (roster_of w))
  unfolding incarnation_at known_at
  starts j = elim (cases_Bool (nat_eq j i)) [
    | inl h ↦
        let here : i ≡ j = grind (arith, nat_tests) in
        let x = there i w.instances asks.exists in
        let y = exists_then i w.instances w'.instances x.0 numbered change.numbered x.1 in
        subst (λ k. IsSameStart k (roster_of w') (roster_then e (roster_of w))) here
        (starts_there x.0 y.0 x.1 y.1 (node x.0 y.0 x.1 y.1))
    | inr h ↦ (
      ap incarnation_where (change.others j h) ∙ sym (asks.others j h).0,
      ap known_where (change.others j h) ∙ sym (asks.others j h).1,
    )
  ]

  more : (x x' : Instance) → IsSameNode (become x) x' → HasMore (refused_in x) (refused_in x')
  more x x' became = subst (λ texts. HasMore texts (refused_in x')) (asks.refused x) became.refused

  refused : KeepRefused w.instances w'.instances
  unfolding refused_at
  refused =
      turned (λ o o'. HasMore (refused_where o) (refused_where o')) (λ o. ([], sym (append-nil (refused_where o))))
      (λ x x'. IsSameNode (become x) x') more i w.instances w'.instances numbered change node

  pub faulted_one : (old new : List Shelf)
      → (roster_of w').rings ≡ (roster_then e (roster_of w)).rings
      → (IsOpenedClean (roster_of w) e new i → Turns i (Cause ends.fault) w.instances w'.instances
      → StopsBy w old e i ends.fault (refused_by w' i))
      → Faulted (over w old) e (over w' new)
  faulted_one old new rings cause = inl (record {
    taken = asks.taken;
    stopped = λ j. j == i;
    some = (i, itself);
    worked = λ j same. asks.alone j ∙ same;
    down = λ j same. let here : i ≡ j = grind (arith, nat_tests) in rw (← here) ends.down;
    causes = λ j same.
        let here : i ≡ j = grind (arith, nat_tests) in
        rw (← here) (record {
          fault = ends.fault;
          told = ends.told;
          cause = λ clean.
              cause clean (subst (λ xs. Turns i (Cause ends.fault) xs w'.instances) begins.instances ends.cause);
        });
    others = λ j idle. change.others j (sym (asks.alone j) ∙ idle);
    starts = starts;
    told = λ j. [];
    goes_on = λ j works on. absurd (true≢false (sym works ∙ asks.alone j ∙ on));
    silent = λ j same. refl;
    idle = λ j idle. refl;
    appended = ends.silent ∙ begins.outputs ∙ sym (append-nil (put_out w));
    posted = λ name.
        ends.posted name ∙ ap (posted_at name) begins.messages ∙ sym (asks.left (posted_at name w.messages));
    limits = λ t.
        ap (λ (c : Common). limits_of t c.limits) beside.common ∙ ap (limits_of t) begins.limits;
    service_key = ap (λ (c : Common). c.service_key) beside.common ∙ begins.service_key;
    rings = rings;
    first = ap (λ (c : Common). c.first) beside.common ∙ begins.first;
    refused = refused;
    counted = ends.faults
        ∙ ap (λ n. min (n + 1) (2 ^ 64 - 1)) begins.faults
        ∙ ap (λ n. min (fault_count w + n) (2 ^ 64 - 1)) (sym (one_fault i));
    clock = beside.clock ∙ begins.clock ∙ sym asks.clock;
  })
