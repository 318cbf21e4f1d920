-- An event of which several instances have work in turn, where some of them stopped.
use Rattle.std.proofs.Common.{◌≡◌, ◌∙◌, inl, inr, ℕ, ◌-◌, true, false, List, [], filter, length, Option, None, Some}
use Rattle.std.proofs.Common.{sym, ap, subst}
use Rattle.std.proofs.lemmas.Bool.{cases_Bool, true≢false}
use Rattle.std.proofs.lemmas.List.{append-nil}
use Rattle.am_cluster.specs.Events.{Event, Output}
use Rattle.am_item.specs.declared.fault.Fault.{Fault}
use Rattle.am_limit.specs.Books.{limits_of}
use Rattle.am_messages.specs.declared.messages.Posted.{Posted}
use Rattle.am_messages.specs.Posted.{posted_at}
use Rattle.am_ring.specs.Instances.{all_instances, is_among}
use Rattle.am_instance.specs.Instance.{HasMore, IsSameNode, refused_in}
use Rattle.am_instance.specs.Shelves.{Shelf}
use Rattle.am_instance.specs.declared.instance.Instance.{Instance}
use Rattle.am_world.specs.Changes.{IsOpenedClean, roster_then}
use Rattle.am_world.specs.Consistent.{over}
use Rattle.am_world.specs.Places.{AreNumbered, KeepRefused, Turns, incarnation_at, incarnation_where, instance_at}
use Rattle.am_world.specs.Places.{known_at, known_where, refused_at, refused_where}
use Rattle.am_world.specs.Posting.{posted_over}
use Rattle.am_world.specs.Refusal.{refusal}
use Rattle.am_world.specs.Simulation.{fault_count, refused_by, roster_of}
use Rattle.am_world.specs.Steps.{clock_after}
use Rattle.am_world.specs.Stopping.{Faulted, IsSameStart, StopsBy, WentOn, left_by, works}
use Rattle.am_world.specs.declared.common.Common.{Common}
use Rattle.am_world.specs.declared.state.State.{State}
use Rattle.am_world.proofs.InTurn.{Becomes, HadTurns}
use Rattle.am_world.proofs.TickFaulted.{counted_all, some_counted}
use Rattle.am_world.proofs.TickPlaces.{at_each_place, nobody, standing}

-- what is so of such an event: who stops had work, for such a cause; who has none does nothing; who goes on did what
-- the event asks; and once all went well each instance is in the incarnation and knows the ring that it has become
pub record AsksSeveral (w w' : State) (e : Event) (old new : List Shelf) (become : Becomes)
    (Are : ℕ → List Output → Instance → Instance → Type 0) (Cause : ℕ → Fault → Instance → Instance → Type 0) :
    Type 0 where
  pub taken : refusal w e ≡ None
  pub clock : clock_after e w.clock ≡ w.clock
  pub left : (posted : Option Posted) → left_by e posted ≡ posted
  pub worked : (i : ℕ) (fault : Fault) (x x' : Instance) → instance_at i w.instances ≡ Some x → Cause i fault x x'
      → works w e i ≡ true
  pub causes : (i : ℕ) (fault : Fault) → IsOpenedClean (roster_of w) e new i
      → Turns i (Cause i fault) w.instances w'.instances → StopsBy w old e i fault (refused_by w' i)
  pub idle : (i : ℕ) (told : List Output) (x x' : Instance) → instance_at i w.instances ≡ Some x
      → works w e i ≡ false → Are i told x x' → (x' ≡ x) × (told ≡ [])
  pub goes : (i : ℕ) (told : List Output) → works w e i ≡ true → Turns i (Are i told) w.instances w'.instances
      → WentOn (over w old) e i told (over w' new)
  pub rings : (roster_of w').rings ≡ (roster_then e (roster_of w)).rings
  pub own : (i : ℕ) (x : Instance) → instance_at i w.instances ≡ Some x
      → ((become i x).incarnation ≡ (roster_then e (roster_of w)).incarnation i)
      × ((become i x).known ≡ (roster_then e (roster_of w)).known i)
  pub outside : (i : ℕ) → is_among i all_instances ≡ false
      → IsSameStart i (roster_then e (roster_of w)) (roster_of w)
  pub refused : (i : ℕ) (x : Instance) → refused_in (become i x) ≡ refused_in x

module _ (w w' : State) (e : Event) (old new : List Shelf) (become : Becomes)
    (Are : ℕ → List Output → Instance → Instance → Type 0) (Cause : ℕ → Fault → Instance → Instance → Type 0)
    (numbered : AreNumbered w.instances) (asks : AsksSeveral w w' e old new become Are Cause)
    (turns : HadTurns become Are Cause all_instances w w') where
  who_worked : (i : ℕ) → turns.stopped i ≡ true → works w e i ≡ true
  who_worked i stopped =
      let is = turns.stops i stopped in
      let x = standing i w.instances numbered (turns.among i stopped) in
      let y = standing i w'.instances turns.numbered (turns.among i stopped) in
      asks.worked i is.fault x.0 y.0 x.1 (is.cause x.0 y.0 x.1 y.1)

  idle_on : (i : ℕ) → works w e i ≡ false → turns.stopped i ≡ false
  idle_on i none = elim (cases_Bool (turns.stopped i)) [
    | inl stopped ↦ absurd (true≢false (sym (who_worked i stopped) ∙ none))
    | inr on ↦ on
  ]

  idle_same : (i : ℕ) → works w e i ≡ false → instance_at i w'.instances ≡ instance_at i w.instances
  idle_same i none = elim (cases_Bool (is_among i all_instances)) [
    | inl among ↦
        let x = standing i w.instances numbered among in
        let y = standing i w'.instances turns.numbered among in
        y.1 ∙ ap Some (asks.idle i (turns.told i) x.0 y.0 x.1 none
        (turns.acts i among (idle_on i none) x.0 y.0 x.1 y.1)).0 ∙ sym x.1
    | inr apart ↦ turns.others i apart
  ]

  idle_quiet : (i : ℕ) → works w e i ≡ false → turns.told i ≡ []
  idle_quiet i none = elim (cases_Bool (is_among i all_instances)) [
    | inl among ↦
        let x = standing i w.instances numbered among in
        let y = standing i w'.instances turns.numbered among in
        (asks.idle i (turns.told i) x.0 y.0 x.1 none (turns.acts i among (idle_on i none) x.0 y.0 x.1 y.1)).1
    | inr apart ↦ turns.none i apart
  ]

  -- who is there and didn't stop did what was asked
  acted : (i : ℕ) → turns.stopped i ≡ false → Turns i (Are i (turns.told i)) w.instances w'.instances
  acted i on x x' here after = elim (cases_Bool (is_among i all_instances)) [
    | inl among ↦ turns.acts i among on x x' here after
    | inr apart ↦ absurd (let clash = sym (nobody i w.instances numbered apart) ∙ here in cc)
  ]

  -- what became of the instance of a number that is there
  node : (i : ℕ) → is_among i all_instances ≡ true → Turns i (λ x x'. IsSameNode (become i x) x')
      w.instances w'.instances
  node i among = elim (cases_Bool (turns.stopped i)) [
    | inl stopped ↦ (turns.stops i stopped).node
    | inr on ↦ turns.nodes i among on
  ]

  starts : (i : ℕ) → IsSameStart i (roster_of w') (roster_then e (roster_of w))
  unfolding incarnation_at known_at
  starts i = elim (cases_Bool (is_among i all_instances)) [
    | inl among ↦
        let x = standing i w.instances numbered among in
        let y = standing i w'.instances turns.numbered among in
        let became = node i among x.0 y.0 x.1 y.1 in (
          ap incarnation_where y.1 ∙ became.incarnation ∙ (asks.own i x.0 x.1).0,
          ap known_where y.1 ∙ became.known ∙ (asks.own i x.0 x.1).1,
        )
    | inr apart ↦ (
      ap incarnation_where (turns.others i apart) ∙ sym (asks.outside i apart).0,
      ap known_where (turns.others i apart) ∙ sym (asks.outside i apart).1,
    )
  ]

  more : (i : ℕ) (x x' : Instance) → IsSameNode (become i x) x' → HasMore (refused_in x) (refused_in x')
  more i x x' became = subst (λ texts. HasMore texts (refused_in x')) (asks.refused i x) became.refused

  refused : KeepRefused w.instances w'.instances
  unfolding refused_at
  refused i =
      at_each_place (λ o o'. HasMore (refused_where o) (refused_where o')) i w.instances w'.instances numbered
      turns.numbered (turns.others i) (λ o. ([], sym (append-nil (refused_where o))))
      (λ among x y here after. more i x y (node i among x y here after))

  pub faulted_turns : (i : ℕ) → turns.stopped i ≡ true → Faulted (over w old) e (over w' new)
  faulted_turns i stopped = inl (record {
    taken = asks.taken;
    stopped = turns.stopped;
    some = (i, stopped);
    worked = who_worked;
    down = λ j is. (turns.stops j is).down;
    causes = λ j is. record {
      fault = (turns.stops j is).fault;
      told = (turns.stops j is).told;
      cause = λ clean. asks.causes j (turns.stops j is).fault clean (turns.stops j is).cause;
    };
    others = idle_same;
    starts = starts;
    told = turns.told;
    goes_on = λ j works on. asks.goes j (turns.told j) works (acted j on);
    silent = turns.silent;
    idle = idle_quiet;
    appended = turns.appended;
    posted = λ name.
        turns.posted name
        ∙ ap (λ o. posted_over w.clock (turns.told name.from) name o) (sym (asks.left (posted_at name w.messages)))
        ∙ ap (λ m. posted_over m (turns.told name.from) name (left_by e (posted_at name w.messages)))
        (sym turns.beside.clock);
    limits = λ t. ap (λ (c : Common). limits_of t c.limits) turns.beside.common;
    service_key = ap (λ (c : Common). c.service_key) turns.beside.common;
    rings = asks.rings;
    first = ap (λ (c : Common). c.first) turns.beside.common;
    refused = refused;
    counted = counted_all (length (filter turns.stopped all_instances)) (fault_count w) (fault_count w')
        (some_counted turns.stopped all_instances i (turns.among i stopped) stopped) turns.counted;
    clock = turns.beside.clock ∙ sym asks.clock;
  })
