-- What the turn of each instance did where the ring or one of them changed, by what all had before the first of them.
use Rattle.std.proofs.Common.{◌≡◌, ◌∙◌, inl, inr, ℕ, ◌+◌, ◌-◌, ◌==◌, nat_eq, suc, Bool, true, false, List, [], ◌∷◌}
use Rattle.std.proofs.Common.{◌++◌, filter, length, Some, refl, sym, ap, arith, subst, flat_map, if◌then◌else◌}
use Rattle.std.proofs.lemmas.Bool.{cases_Bool, false≢true, or_parts, or_right, true≢false}
use Rattle.std.proofs.lemmas.Bool.Decides.{nat_tests}
use Rattle.std.proofs.lemmas.List.{append-nil, append_assoc}
use Rattle.am_cluster.specs.Events.{Output}
use Rattle.am_item.specs.declared.fault.Fault.{Fault}
use Rattle.am_messages.specs.Posted.{posted_at}
use Rattle.am_messages.specs.declared.name.MessageName.{MessageName}
use Rattle.am_ring.specs.Instances.{all_instances, is_among}
use Rattle.am_instance.specs.Instance.{IsDown, IsSameNode}
use Rattle.am_instance.specs.declared.instance.Instance.{Instance}
use Rattle.am_world.specs.Changing.{Acts, Ends, InTurn, TakesPart}
use Rattle.am_world.specs.Places.{AreNumbered, At, Turns, cause_at, cause_where, instance_at}
use Rattle.am_world.specs.Posting.{posted_over}
use Rattle.am_world.specs.Simulation.{IsSameBeside, fault_count, put_out}
use Rattle.am_world.specs.declared.state.State.{State}
use Rattle.am_world.proofs.TickPlaces.{CountsFrom, all_counted, not_later, standing, turns_same}
use Rattle.am_world.proofs.TickSaid.{AreFrom, unposted_from}
use Rattle.am_world.proofs.TickTurns.{CountsUp, counts_more, filter_later, length_first, told_later}
use Rattle.am_world.proofs.InstancesLemmas.{number_of}

-- ---- what several do

-- what the instance of a number becomes
abbrev pub Becomes : Type 0
Becomes = ℕ → Instance → Instance

-- the instance of a number stopped
pub record HasStopped (i : ℕ) (become : Instance → Instance) (Cause : Fault → Instance → Instance → Type 0)
    (xs ys : List Instance) : Type 0 where
  pub down : At i IsDown ys
  pub fault : Fault
  pub told : cause_at i ys ≡ Some fault
  pub cause : Turns i (Cause fault) xs ys
  pub node : Turns i (λ x x'. IsSameNode (become x) x') xs ys

-- which of several instances stopped at their turns, what each of the others told, and what became of the messages
pub record HadTurns (become : Becomes) (Are : ℕ → List Output → Instance → Instance → Type 0)
    (Cause : ℕ → Fault → Instance → Instance → Type 0) (ns : List ℕ) (w w' : State) : Type 0 where
  pub stopped : ℕ → Bool
  pub told : ℕ → List Output
  pub acts : (i : ℕ) → is_among i ns ≡ true → stopped i ≡ false → Turns i (Are i (told i)) w.instances w'.instances
  pub nodes : (i : ℕ) → is_among i ns ≡ true → stopped i ≡ false
      → Turns i (λ x x'. IsSameNode (become i x) x') w.instances w'.instances
  pub stops : (i : ℕ) → stopped i ≡ true → HasStopped i (become i) (Cause i) w.instances w'.instances
  pub among : (i : ℕ) → stopped i ≡ true → is_among i ns ≡ true
  pub silent : (i : ℕ) → stopped i ≡ true → told i ≡ []
  pub none : (i : ℕ) → is_among i ns ≡ false → told i ≡ []
  pub others : (i : ℕ) → is_among i ns ≡ false → instance_at i w'.instances ≡ instance_at i w.instances
  pub numbered : AreNumbered w'.instances
  pub beside : IsSameBeside w w'
  pub appended : put_out w' ≡ put_out w ++ flat_map told ns
  pub posted : (name : MessageName)
      → posted_at name w'.messages ≡ posted_over w.clock (told name.from) name (posted_at name w.messages)
  pub counted : CountsUp (length (filter stopped ns)) (fault_count w) (fault_count w')

-- of the same two instances
stopped_same : (i : ℕ) (become : Instance → Instance) (Cause : Fault → Instance → Instance → Type 0)
    (xs xs' ys ys' : List Instance) → instance_at i xs' ≡ instance_at i xs → instance_at i ys' ≡ instance_at i ys
    → HasStopped i become Cause xs ys → HasStopped i become Cause xs' ys'
unfolding cause_at
stopped_same i become Cause xs xs' ys ys' first last is = record {
  down = λ x at. is.down x (sym last ∙ at);
  fault = is.fault;
  told = ap cause_where last ∙ is.told;
  cause = turns_same i (Cause is.fault) xs xs' ys ys' first last is.cause;
  node = turns_same i (λ x x'. IsSameNode (become x) x') xs xs' ys ys' first last is.node;
}

-- the turn of one instance, whether it went on or stopped
record HadTurn (n : ℕ) (become : Instance → Instance) (Are : List Output → Instance → Instance → Type 0)
    (Cause : Fault → Instance → Instance → Type 0) (w w' : State) : Type 0 where
  stopped : Bool
  told : List Output
  acts : stopped ≡ false → Turns n (Are told) w.instances w'.instances
  node : stopped ≡ false → Turns n (λ x x'. IsSameNode (become x) x') w.instances w'.instances
  stops : stopped ≡ true → HasStopped n become Cause w.instances w'.instances
  silent : stopped ≡ true → told ≡ []
  appended : put_out w' ≡ put_out w ++ told
  own : (name : MessageName) → name.from ≡ n
      → posted_at name w'.messages ≡ posted_over w.clock told name (posted_at name w.messages)
  others : (name : MessageName) → (name.from ≡ n → ⊥) → posted_at name w'.messages ≡ posted_at name w.messages
  counted : CountsUp (if stopped then 1 else 0) (fault_count w) (fault_count w')

module _ (become : Becomes) (Are : ℕ → List Output → Instance → Instance → Type 0)
    (Cause : ℕ → Fault → Instance → Instance → Type 0)
    (says : (i : ℕ) (told : List Output) (x x' : Instance) → Are i told x x' → AreFrom x.number told) where
  abbrev Had : List ℕ → State → State → Type 0
  Had ns w w' = HadTurns become Are Cause ns w w'

  abbrev One : ℕ → State → State → Type 0
  One n w w' = HadTurn n (become n) (Are n) (Cause n) w w'

  abbrev pub Turn : ℕ → State → State → Type 0
  Turn n w w' = TakesPart n (become n) (Are n) (Cause n) w w'

  -- ---- no turn

  no_turn : (w : State) → AreNumbered w.instances → Had [] w w
  no_turn w numbered = record {
    stopped = λ i. false;
    told = λ i. [];
    acts = λ i among. absurd (false≢true among);
    nodes = λ i among. absurd (false≢true among);
    stops = λ i never. absurd (false≢true never);
    among = λ i never. absurd (false≢true never);
    silent = λ i never. refl;
    none = λ i apart. refl;
    others = λ i apart. refl;
    numbered = numbered;
    beside = record { clock = refl; common = refl };
    appended = sym (append-nil (put_out w));
    posted = λ name. refl;
    counted = refl;
  }

  -- ---- one turn

  went_on : (n : ℕ) (w w' : State) → AreNumbered w.instances → AreNumbered w'.instances
      → is_among n all_instances ≡ true → Acts n (become n) (Are n) w w' → One n w w'
  went_on n w w' numbered also among turn =
      let x = standing n w.instances numbered among in
      let x' = standing n w'.instances also among in
      let from : AreFrom n turn.told =
      subst (λ i. AreFrom i turn.told) (number_of n w.instances x.0 x.1)
      (says n turn.told x.0 x'.0 (turn.acts x.0 x'.0 x.1 x'.1)) in
      record {
        stopped = false;
        told = turn.told;
        acts = λ on. turn.acts;
        node = λ on. turn.node;
        stops = λ never. absurd (false≢true never);
        silent = λ never. absurd (false≢true never);
        appended = turn.appended;
        own = λ name is. turn.posts name;
        others = λ name other.
            turn.posts name ∙ unposted_from n w.clock turn.told name (posted_at name w.messages) from other;
        counted = turn.faults;
      }

  has_stopped : (n : ℕ) (w w' : State) → Ends n (become n) (Cause n) w w' → One n w w'
  has_stopped n w w' turn = record {
    stopped = true;
    told = [];
    acts = λ never. absurd (true≢false never);
    node = λ never. absurd (true≢false never);
    stops = λ is. record {
      down = turn.down;
      fault = turn.fault;
      told = turn.told;
      cause = turn.cause;
      node = turn.node;
    };
    silent = λ is. refl;
    appended = turn.silent ∙ sym (append-nil (put_out w));
    own = λ name is. turn.posted name;
    others = λ name other. turn.posted name;
    counted = turn.faults;
  }

  had_turn : (n : ℕ) (w w' : State) → AreNumbered w.instances → is_among n all_instances ≡ true → Turn n w w'
      → One n w w'
  had_turn n w w' numbered among turn = elim turn.ends [
    | inl acts ↦ went_on n w w' numbered turn.others.numbered among acts
    | inr stops ↦ has_stopped n w w' stops
  ]

  -- ---- .. and those of others behind it

  module _ (n : ℕ) (ns : List ℕ) (w mid w' : State) (counts : CountsFrom (suc n) ns)
      (among_all : is_among n all_instances ≡ true) (numbered : AreNumbered w.instances) (turn : Turn n w mid)
      (rest : Had ns mid w') where
    one : One n w mid
    one = had_turn n w mid numbered among_all turn

    itself : nat_eq n n ≡ true
    itself = grind (arith, nat_tests)

    later : is_among n ns ≡ false
    later = not_later (suc n) n ns counts (omega arith)

    abbrev Stopped : ℕ → Bool
    Stopped i = if i == n then one.stopped else rest.stopped i

    abbrev Told : ℕ → List Output
    Told i = if i == n then one.told else rest.told i

    stopped_here : (i : ℕ) → i ≡ n → Stopped i ≡ one.stopped
    stopped_here i is = let same : nat_eq i n ≡ true = grind (arith, nat_tests) in rw same refl

    stopped_other : (i : ℕ) → nat_eq i n ≡ false → Stopped i ≡ rest.stopped i
    stopped_other i apart = rw apart refl

    told_here : (i : ℕ) → i ≡ n → Told i ≡ one.told
    told_here i is = let same : nat_eq i n ≡ true = grind (arith, nat_tests) in rw same refl

    told_other : (i : ℕ) → nat_eq i n ≡ false → Told i ≡ rest.told i
    told_other i apart = rw apart refl

    number_is : (i : ℕ) → nat_eq i n ≡ true → i ≡ n
    number_is i h = grind (arith, nat_tests)

    among_rest : (i : ℕ) → nat_eq i n ≡ false → is_among i (n ∷ ns) ≡ true → is_among i ns ≡ true
    among_rest i apart among = rw apart at among

    -- what is so of the first two, or of what those behind had and have, is so of all
    placed : (R : ℕ → Instance → Instance → Type 0) (i : ℕ)
        → (i ≡ n → Turns n (R n) w.instances mid.instances)
        → (nat_eq i n ≡ false → Turns i (R i) mid.instances w'.instances)
        → Turns i (R i) w.instances w'.instances
    placed R i own behind = elim (cases_Bool (nat_eq i n)) [
      | inl h ↦
          let is : i ≡ n = number_is i h in
          subst (λ k. Turns k (R k) w.instances w'.instances) (sym is)
          (turns_same n (R n) w.instances w.instances mid.instances w'.instances refl (rest.others n later) (own is))
      | inr h ↦
          turns_same i (R i) mid.instances w.instances w'.instances w'.instances (sym (turn.others.others i h)) refl
          (behind h)
    ]

    acts : (i : ℕ) → is_among i (n ∷ ns) ≡ true → Stopped i ≡ false
        → Turns i (Are i (Told i)) w.instances w'.instances
    acts i among on =
        placed (λ k. Are k (Told i)) i
        (λ is. subst (λ os. Turns n (Are n os) w.instances mid.instances) (sym (told_here i is))
        (one.acts (sym (stopped_here i is) ∙ on)))
        (λ h. subst (λ os. Turns i (Are i os) mid.instances w'.instances) (sym (told_other i h))
        (rest.acts i (among_rest i h among) (sym (stopped_other i h) ∙ on)))

    nodes : (i : ℕ) → is_among i (n ∷ ns) ≡ true → Stopped i ≡ false
        → Turns i (λ x x'. IsSameNode (become i x) x') w.instances w'.instances
    nodes i among on =
        placed (λ k x x'. IsSameNode (become k x) x') i (λ is. one.node (sym (stopped_here i is) ∙ on))
        (λ h. rest.nodes i (among_rest i h among) (sym (stopped_other i h) ∙ on))

    stops : (i : ℕ) → Stopped i ≡ true → HasStopped i (become i) (Cause i) w.instances w'.instances
    stops i stopped = elim (cases_Bool (nat_eq i n)) [
      | inl h ↦
          let is : i ≡ n = number_is i h in
          subst (λ k. HasStopped k (become k) (Cause k) w.instances w'.instances) (sym is)
          (stopped_same n (become n) (Cause n) w.instances w.instances mid.instances w'.instances refl
          (rest.others n later) (one.stops (sym (stopped_here i is) ∙ stopped)))
      | inr h ↦
          stopped_same i (become i) (Cause i) mid.instances w.instances w'.instances w'.instances
          (sym (turn.others.others i h)) refl (rest.stops i (sym (stopped_other i h) ∙ stopped))
    ]

    among : (i : ℕ) → Stopped i ≡ true → is_among i (n ∷ ns) ≡ true
    among i stopped = elim (cases_Bool (nat_eq i n)) [
      | inl h ↦ rw h refl
      | inr h ↦ rw h (rest.among i (sym (stopped_other i h) ∙ stopped))
    ]

    silent : (i : ℕ) → Stopped i ≡ true → Told i ≡ []
    silent i stopped = elim (cases_Bool (nat_eq i n)) [
      | inl h ↦ let is : i ≡ n = number_is i h in told_here i is ∙ one.silent (sym (stopped_here i is) ∙ stopped)
      | inr h ↦ told_other i h ∙ rest.silent i (sym (stopped_other i h) ∙ stopped)
    ]

    all_told : flat_map Told (n ∷ ns) ≡ one.told ++ flat_map rest.told ns
    all_told =
        ap (λ b. (if b then one.told else rest.told n) ++ flat_map Told ns) itself
        ∙ ap (λ os. one.told ++ os) (told_later n (suc n) one.told rest.told ns counts (omega arith))

    differs : (i : ℕ) → nat_eq i n ≡ false → i ≡ n → ⊥
    differs i apart is = let same : nat_eq i n ≡ true = grind (arith, nat_tests) in true≢false (sym same ∙ apart)

    posted : (name : MessageName)
        → posted_at name w'.messages ≡ posted_over w.clock (Told name.from) name (posted_at name w.messages)
    posted name = elim (cases_Bool (nat_eq name.from n)) [
      | inl h ↦
          let is : name.from ≡ n = number_is name.from h in
          rest.posted name
          ∙ ap (λ os. posted_over mid.clock os name (posted_at name mid.messages))
          (rest.none name.from (subst (λ k. is_among k ns ≡ false) (sym is) later))
          ∙ one.own name is
          ∙ ap (λ os. posted_over w.clock os name (posted_at name w.messages)) (sym (told_here name.from is))
      | inr h ↦
          rest.posted name
          ∙ ap (λ m. posted_over m (rest.told name.from) name (posted_at name mid.messages)) turn.beside.clock
          ∙ ap (λ o. posted_over w.clock (rest.told name.from) name o) (one.others name (differs name.from h))
          ∙ ap (λ os. posted_over w.clock os name (posted_at name w.messages)) (sym (told_other name.from h))
    ]

    counted : CountsUp (length (filter Stopped (n ∷ ns))) (fault_count w) (fault_count w')
    counted =
        subst (λ k. CountsUp k (fault_count w) (fault_count w'))
        (length_first one.stopped n (filter rest.stopped ns)
        ∙ ap (λ is. length (if one.stopped then n ∷ is else is))
        (sym (filter_later n (suc n) one.stopped rest.stopped ns counts (omega arith)))
        ∙ ap (λ b. length (if b then n ∷ filter Stopped ns else filter Stopped ns)) (sym (stopped_here n refl)))
        (counts_more one.stopped (fault_count w) (fault_count mid) (fault_count w')
        (length (filter rest.stopped ns)) one.counted rest.counted)

    turns_before : Had (n ∷ ns) w w'
    turns_before = record {
      stopped = Stopped;
      told = Told;
      acts = acts;
      nodes = nodes;
      stops = stops;
      among = among;
      silent = silent;
      none = λ i apart.
          let parts = or_parts (i == n) (is_among i ns) apart in
          told_other i parts.0 ∙ rest.none i parts.1;
      others = λ i apart.
          let parts = or_parts (i == n) (is_among i ns) apart in
          rest.others i parts.1 ∙ turn.others.others i parts.0;
      numbered = rest.numbered;
      beside = record {
        clock = rest.beside.clock ∙ turn.beside.clock;
        common = rest.beside.common ∙ turn.beside.common;
      };
      appended =
          rest.appended ∙ ap (λ os. os ++ flat_map rest.told ns) one.appended
          ∙ append_assoc (put_out w) one.told (flat_map rest.told ns)
          ∙ ap (λ os. put_out w ++ os) (sym all_told);
      posted = posted;
      counted = counted;
    }

  -- ---- all of them

  turns_from : (n : ℕ) (ns : List ℕ) (w w' : State) → CountsFrom n ns
      → ((i : ℕ) → is_among i ns ≡ true → is_among i all_instances ≡ true) → AreNumbered w.instances
      → InTurn Turn ns w w' → Had ns w w'
  turns_from n [] w w' counts exist numbered is = subst (Had [] w) (sym is) (no_turn w numbered)
  turns_from n (m ∷ ns) w w' (own, counts) exist numbered (mid, turn, rest) =
      let from : CountsFrom (suc m) ns = subst (λ k. CountsFrom (suc k) ns) (sym own) counts in
      let itself : nat_eq m m ≡ true = grind (arith, nat_tests) in
      let first : is_among m (m ∷ ns) ≡ true = rw itself refl in
      turns_before m ns w mid w' from (exist m first) numbered turn
      (turns_from (suc m) ns mid w' from (λ i among. exist i (or_right (i == m) (is_among i ns) among))
      turn.others.numbered rest)

  -- instances take part one after the other
  pub had_turns : (w w' : State) → AreNumbered w.instances → InTurn Turn all_instances w w'
      → Had all_instances w w'
  had_turns w w' numbered turns = turns_from 1 all_instances w w' all_counted (λ i among. among) numbered turns

-- ---- one turn more

pub in_turn_more : (Turn : ℕ → State → State → Type 0) (ns : List ℕ) (n : ℕ) (w mid w' : State)
    → InTurn Turn ns w mid → Turn n mid w' → InTurn Turn (ns ++ n ∷ []) w w'
in_turn_more Turn [] n w mid w' is turn = (w', subst (λ v. Turn n v w') is turn, refl)
in_turn_more Turn (m ∷ ns) n w mid w' (next, one, others) turn =
    (next, one, in_turn_more Turn ns n next mid w' others turn)

-- those of one list, and then those of another
pub in_turn_then : (Turn : ℕ → State → State → Type 0) (ns ms : List ℕ) (w mid w' : State)
    → InTurn Turn ns w mid → InTurn Turn ms mid w' → InTurn Turn (ns ++ ms) w w'
in_turn_then Turn [] ms w mid w' is rest = subst (λ v. InTurn Turn ms v w') is rest
in_turn_then Turn (n ∷ ns) ms w mid w' (next, one, others) rest =
    (next, one, in_turn_then Turn ns ms next mid w' others rest)
