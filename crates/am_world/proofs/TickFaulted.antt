-- A tick at which instances stopped; and that a tick keeps the simulation, or stops instances.
use Rattle.std.proofs.Common.{◌≡◌, ◌∙◌, ◌⊎◌, inl, inr, ℕ, ◌+◌, ◌-◌, ◌^◌, ◌≤◌, ◌==◌, nat_eq, zero, suc, Bool, true}
use Rattle.std.proofs.Common.{false, List, [], ◌∷◌, filter, length, max, min, Option, None, Some, refl, sym}
use Rattle.std.proofs.Common.{ap, arith, subst, if◌then◌else◌}
use Rattle.std.proofs.lemmas.Bool.{cases_Bool, or_right, true≢false}
use Rattle.std.proofs.lemmas.Bool.Decides.{nat_tests}
use Rattle.std.proofs.lemmas.List.{append-nil}
use Rattle.am_cluster.specs.Events.{Tick}
use Rattle.am_cluster.specs.Moments.{is_refused_tick}
use Rattle.am_cluster.specs.Refused.{Refused, MomentRefused}
use Rattle.am_limit.specs.Books.{limits_of}
use Rattle.am_messages.specs.Posted.{posted_at, unlost}
use Rattle.am_messages.specs.declared.name.MessageName.{MessageName}
use Rattle.am_ring.specs.Instances.{all_instances, is_among}
use Rattle.am_instance.specs.Instance.{HasMore, IsSameNode}
use Rattle.am_instance.specs.Shelves.{Shelf}
use Rattle.am_instance.specs.Ticks.{StopsTicking, Ticks}
use Rattle.am_instance.specs.declared.instance.Instance.{Instance}
use Rattle.am_world.specs.Consistent.{around_at, over}
use Rattle.am_world.specs.Places.{AreNumbered, incarnation_at, incarnation_where, instance_at, known_at}
use Rattle.am_world.specs.Places.{Turns, known_where, refused_at, refused_where, up_at}
use Rattle.am_world.specs.Posting.{Post, posted_over}
use Rattle.am_world.specs.Shelves.{NeverCleaner, shelf_at}
use Rattle.am_world.specs.Simulation.{fault_count, roster_of}
use Rattle.am_world.specs.Steps.{Kept}
use Rattle.am_world.specs.Stopping.{Faulted, LeavesPost, Step, StoppedBy}
use Rattle.am_world.specs.Ticks.{TakeTurns}
use Rattle.am_world.specs.declared.common.Common.{Common}
use Rattle.am_world.specs.declared.state.State.{State}
use Rattle.am_world.proofs.AlonePlaces.{refused_here, up_here}
use Rattle.am_world.proofs.Beside.{kept_over}
use Rattle.am_world.proofs.TickKept.{kept_tick}
use Rattle.am_world.proofs.TickPlaces.{at_each_place, nobody, standing}
use Rattle.am_world.proofs.TickTurns.{CountsUp, HadTurns, had_turns}

-- ---- whether somebody stopped

or_on : (stopped : ℕ → Bool) (n : ℕ) (ns : List ℕ) → stopped n ≡ false
    → ((i : ℕ) → is_among i ns ≡ true → stopped i ≡ false) → (i : ℕ) → is_among i (n ∷ ns) ≡ true → stopped i ≡ false
or_on stopped n ns first others i among = elim (cases_Bool (nat_eq i n)) [
  | inl h ↦ let is : i ≡ n = grind (arith, nat_tests) in ap stopped is ∙ first
  | inr h ↦ others i (rw h at among)
]

pub any_stopped : (stopped : ℕ → Bool) (ns : List ℕ)
    → ((i : ℕ) → is_among i ns ≡ true → stopped i ≡ false) ⊎ ((i : ℕ) × (is_among i ns ≡ true) × (stopped i ≡ true))
any_stopped stopped [] = inl (λ i among. absurd (true≢false (sym among)))
any_stopped stopped (n ∷ ns) = elim (cases_Bool (stopped n)) [
  | inl is ↦ let itself : nat_eq n n ≡ true = grind (arith, nat_tests) in inr (n, rw itself refl, is)
  | inr on ↦ elim (any_stopped stopped ns) [
    | inl all ↦ inl (or_on stopped n ns on all)
    | inr found ↦ inr (found.0, or_right (found.0 == n) (is_among found.0 ns) found.1, found.2)
  ]
]

pub none_counted : (stopped : ℕ → Bool) (ns : List ℕ) → ((i : ℕ) → stopped i ≡ false) → length (filter stopped ns) ≡ 0
none_counted stopped [] on = refl
none_counted stopped (n ∷ ns) on = rw (on n) (none_counted stopped ns on)

pub some_counted : (stopped : ℕ → Bool) (ns : List ℕ) (i : ℕ) → is_among i ns ≡ true → stopped i ≡ true
    → 1 ≤ length (filter stopped ns)
some_counted stopped [] i among is = absurd (true≢false (sym among))
some_counted stopped (n ∷ ns) i among is = elim (cases_Bool (stopped n)) [
  | inl h ↦ rw h (omega arith)
  | inr h ↦
      let apart : nat_eq i n ≡ false = other h in
      rw h (some_counted stopped ns i (rw apart at among) is)
]
  where
    other : stopped n ≡ false → nat_eq i n ≡ false
    other on = elim (cases_Bool (nat_eq i n)) [
      | inl h ↦ let same : i ≡ n = grind (arith, nat_tests) in absurd (true≢false (sym is ∙ ap stopped same ∙ on))
      | inr h ↦ h
    ]

pub counted_all : (n before after : ℕ) → 1 ≤ n → CountsUp n before after
    → after ≡ min (before + max 1 n) (2 ^ 64 - 1)
counted_all zero before after some counts = absurd (omega (arith, some))
counted_all (suc n) before after some counts =
    let greater : max 1 (suc n) ≡ suc n = omega arith in
    counts ∙ ap (λ k. min (before + k) (2 ^ 64 - 1)) (sym greater)

-- ---- who stopped

more_none : (texts : List (List ℕ)) → HasMore texts texts
more_none texts = ([], sym (append-nil texts))

module _ (w w' : State) (m : ℕ) (post : Post) (numbered : AreNumbered w.instances)
    (lost : (name : MessageName) → posted_at name post ≡ unlost m (posted_at name w.messages))
    (turns : HadTurns all_instances (record w { clock = m; messages = post }) w') (old new : List Shelf) where
  -- what is so of the same instance, and of what stays, is so at each number
  each_place : (P : Option Instance → Option Instance → Type 0) (i : ℕ) → ((o : Option Instance) → P o o)
      → ((x y : Instance) → IsSameNode x y → P (Some x) (Some y))
      → P (instance_at i w.instances) (instance_at i w'.instances)
  each_place P i same stays =
      at_each_place P i w.instances w'.instances numbered turns.numbered (turns.others i) same
      (λ among x y at after. stays x y (turns.stays i x y at after))

  -- who is down didn't stop
  idle_on : (i : ℕ) → up_at i w.instances ≡ false → turns.stopped i ≡ false
  idle_on i down = elim (cases_Bool (turns.stopped i)) [
    | inl stopped ↦ absurd (true≢false (sym (turns.stops i stopped).worked ∙ down))
    | inr on ↦ on
  ]

  -- .. and told nothing
  idle_quiet : (i : ℕ) → up_at i w.instances ≡ false → turns.told i ≡ []
  idle_quiet i down = elim (cases_Bool (is_among i all_instances)) [
    | inl among ↦
        let x = standing i w.instances numbered among in
        let y = standing i w'.instances turns.numbered among in
        (turns.ticks i among (idle_on i down) x.0 y.0 x.1 y.1).quiet (sym (up_here i w.instances x.0 x.1) ∙ down)
    | inr apart ↦ turns.none i apart
  ]

  idle_same : (i : ℕ) → up_at i w.instances ≡ false → instance_at i w'.instances ≡ instance_at i w.instances
  idle_same i down = elim (cases_Bool (is_among i all_instances)) [
    | inl among ↦
        let x = standing i w.instances numbered among in
        let y = standing i w'.instances turns.numbered among in
        y.1 ∙ ap Some ((turns.ticks i among (idle_on i down) x.0 y.0 x.1 y.1).idle
        (sym (up_here i w.instances x.0 x.1) ∙ down)) ∙ sym x.1
    | inr apart ↦ turns.others i apart
  ]

  cause : (i : ℕ) → turns.stopped i ≡ true → StoppedBy (over w old) (Tick m) i (over w' new)
  cause i stopped =
      let is = turns.stops i stopped in
      let y = standing i w'.instances turns.numbered (turns.among i stopped) in
      record {
        fault = is.fault;
        told = is.told;
        cause = λ clean x at.
            subst (λ texts. StopsTicking (around_at m w) x texts is.fault) (sym (refused_here i w'.instances y.0 y.1))
            (is.cause x y.0 at y.1);
      }

  -- who is there and didn't stop ticked
  goes : (i : ℕ) → turns.stopped i ≡ false
      → Turns i (λ x x'. Ticks (around_at m w) x x' [] (turns.told i)) w.instances w'.instances
  goes i on x x' here there = elim (cases_Bool (is_among i all_instances)) [
    | inl among ↦ turns.ticks i among on x x' here there
    | inr apart ↦ absurd (let clash = sym (nobody i w.instances numbered apart) ∙ here in cc)
  ]

  left : LeavesPost w (Tick m) turns.told w'
  left name =
      turns.posted name
      ∙ ap (posted_over m (turns.told name.from) name) (lost name)
      ∙ ap (λ k. posted_over k (turns.told name.from) name (unlost m (posted_at name w.messages)))
      (sym turns.beside.clock)

  -- where somebody stopped
  pub faulted_tick : is_refused_tick m w.clock ≡ false → (i : ℕ) → turns.stopped i ≡ true
      → Faulted (over w old) (Tick m) (over w' new)
  unfolding refused_at known_at incarnation_at
  faulted_tick allowed i stopped = inl (record {
    taken = ap (λ b. let o : Option Refused = if b then Some MomentRefused else None in o) allowed;
    stopped = turns.stopped;
    worked = λ j is. (turns.stops j is).worked;
    some = (i, stopped);
    down = λ j is. (turns.stops j is).down;
    causes = cause;
    others = idle_same;
    starts = λ j. (
      each_place (λ o o'. incarnation_where o' ≡ incarnation_where o) j (λ o. refl) (λ x y stays. stays.incarnation),
      each_place (λ o o'. known_where o' ≡ known_where o) j (λ o. refl) (λ x y stays. stays.known),
    );
    told = turns.told;
    goes_on = λ j up on. goes j on;
    silent = turns.silent;
    idle = idle_quiet;
    appended = turns.appended;
    posted = left;
    limits = λ t. ap (λ (c : Common). limits_of t c.limits) turns.beside.common;
    service_key = ap (λ (c : Common). c.service_key) turns.beside.common;
    rings = ap (λ (c : Common). (roster_of (record w { common = c })).rings) turns.beside.common;
    first = ap (λ (c : Common). c.first) turns.beside.common;
    refused = λ j.
        each_place (λ o o'. HasMore (refused_where o) (refused_where o')) j (λ o. more_none (refused_where o))
        (λ x y stays. stays.refused);
    counted = counted_all (length (filter turns.stopped all_instances)) (fault_count w) (fault_count w')
        (some_counted turns.stopped all_instances i (turns.among i stopped) stopped) turns.counted;
    clock = turns.beside.clock ∙ sym (ap (λ b. if b then w.clock else m) allowed);
  })

  all_on : ((i : ℕ) → is_among i all_instances ≡ true → turns.stopped i ≡ false) → (i : ℕ) → turns.stopped i ≡ false
  all_on on i = elim (cases_Bool (turns.stopped i)) [
    | inl stopped ↦ on i (turns.among i stopped)
    | inr is ↦ is
  ]

  stepped : is_refused_tick m w.clock ≡ false
      → ((i : ℕ) → up_at i w.instances ≡ false → shelf_at i new ≡ shelf_at i old)
      → Kept (over w old) (Tick m) (over w' new) ⊎ Faulted (over w old) (Tick m) (over w' new)
  stepped allowed rest = elim (any_stopped turns.stopped all_instances) [
    | inl on ↦
        inl (kept_over (over w old) (Tick m) (over w' new) refl
        (kept_tick w w' m post allowed numbered lost turns (all_on on)
        (subst (λ n. CountsUp n (fault_count w) (fault_count w')) (none_counted turns.stopped all_instances (all_on on))
        turns.counted)) rest)
    | inr found ↦ inr (faulted_tick allowed found.0 found.2)
  ]

-- instances took their turns at a moment that isn't refused, after messages were lost
pub tick_step : (w w' : State) (m : ℕ) (post : Post) → is_refused_tick m w.clock ≡ false → AreNumbered w.instances
    → ((name : MessageName) → posted_at name post ≡ unlost m (posted_at name w.messages))
    → TakeTurns all_instances (record w { clock = m; messages = post }) w' → (old new : List Shelf)
    → ((i : ℕ) → up_at i w.instances ≡ false → shelf_at i new ≡ shelf_at i old) → NeverCleaner old new
    → Step (over w old) (Tick m) (over w' new)
tick_step w w' m post allowed numbered lost turns old new rest clean = record {
  ends = stepped w w' m post numbered lost (had_turns (record w { clock = m; messages = post }) w' numbered turns) old
      new allowed rest;
  clean = clean;
}
