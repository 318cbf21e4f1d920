-- A tick of which no instance stopped: every tenant has of it what its private cluster makes of it.
use Rattle.std.proofs.Common.{◌≡◌, ◌∙◌, inl, inr, ℕ, ◌<◌, ◌≤◌, ◌&&◌, nat_lt, Bool, true, false, List, [], ◌∷◌, ◌++◌}
use Rattle.std.proofs.Common.{find, flat_map, map, Option, None, Some, is_some, refl, sym, ap, arith, subst}
use Rattle.std.proofs.Common.{if◌then◌else◌}
use Rattle.std.specs.List.{list_all}
use Rattle.std.specs.Option.{option_or}
use Rattle.std.proofs.lemmas.Bool.{cases_Bool, or_parts}
use Rattle.std.proofs.lemmas.Bool.Decides.{nat_tests}
use Rattle.std.proofs.lemmas.List.{append-nil}
use Rattle.std.proofs.lemmas.List.Elements.{All-nil, filter-append}
use Rattle.std.proofs.lemmas.List.Folds.{find-append, list_all-append}
use Rattle.am_cluster.specs.Courses.{course, course_by, handled_by, refusal_of}
use Rattle.am_cluster.specs.Deciding.{deciding_at}
use Rattle.am_cluster.specs.Events.{Output, Tick}
use Rattle.am_cluster.specs.Happening.{Ticked}
use Rattle.am_cluster.specs.Local.{Local}
use Rattle.am_cluster.specs.Moments.{is_refused_tick, last_moment}
use Rattle.am_cluster.specs.Naming.{IsPast, NamesOnce}
use Rattle.am_cluster.specs.Outputs.{are_owned, front_outputs, front_told, is_front, is_tenant, outputs_of, owner}
use Rattle.am_cluster.specs.PrivateCluster.{Course, PrivateCluster, here_at, output_of, put_out_at, react_all}
use Rattle.am_cluster.specs.PrivateCluster.{unchanged}
use Rattle.am_cluster.specs.Reactions.{Reaction, Said, stays}
use Rattle.am_cluster.specs.Refused.{Refused, MomentRefused}
use Rattle.am_cluster.specs.Replying.{WaitOver}
use Rattle.am_cluster.specs.Roster.{IsSameRoster}
use Rattle.am_cluster.specs.Sent.{is_named, sent_at}
use Rattle.am_cluster.specs.Ticking.{ticked}
use Rattle.am_cluster.specs.View.{Watch, adds, watch}
use Rattle.am_cluster.proofs.Counted.{ticked_counted}
use Rattle.am_cluster.proofs.Named.{all_react_kept, said_by_all}
use Rattle.am_cluster.proofs.Names.{Each-map}
use Rattle.am_cluster.proofs.Posting.{turn_is_new, turn_once}
use Rattle.am_limit.specs.Books.{limits_of}
use Rattle.am_messages.specs.Posted.{posted_at, unlost}
use Rattle.am_messages.specs.declared.messages.Posted.{Posted}
use Rattle.am_messages.specs.declared.name.MessageName.{MessageName}
use Rattle.am_http.specs.Connections.{bytes_of}
use Rattle.am_ring.specs.Instances.{Members, all_instances, is_among}
use Rattle.am_text.specs.Moment.{greatest_moment}
use Rattle.am_instance.specs.Instance.{IsSameNode, local_in}
use Rattle.am_instance.specs.Ticks.{Ticks}
use Rattle.am_instance.specs.declared.instance.Instance.{Instance}
use Rattle.am_world.specs.Consistent.{around_at}
use Rattle.am_world.specs.Places.{AreNumbered, bytes_at, bytes_where, incarnation_at, incarnation_where}
use Rattle.am_world.specs.Places.{instance_at, known_at, known_where, local_at, local_where, refused_at}
use Rattle.am_world.specs.Places.{refused_where, up_at, up_where}
use Rattle.am_world.specs.Posting.{Post, posted_over, unlost_sent}
use Rattle.am_world.specs.Simulation.{AreAsked, IsAskerOf, IsPostedAlike, Stands, fault_count, limits_in, put_out}
use Rattle.am_world.specs.Simulation.{roster_of}
use Rattle.am_world.specs.Steps.{Later}
use Rattle.am_world.specs.declared.common.Common.{Common}
use Rattle.am_world.specs.declared.state.State.{State}
use Rattle.am_world.proofs.Beside.{IsAsAlone, Kept}
use Rattle.am_world.proofs.Alone.{own_messages}
use Rattle.am_world.proofs.AloneOwn.{AreOf, IsOf, ticked_own}
use Rattle.am_world.proofs.AlonePlaces.{local_here, roster_then, same_again}
use Rattle.am_world.proofs.Posted.{just_sent, lost_alike, posted_alike, posted_of_own}
use Rattle.am_world.proofs.TickPlaces.{nobody, standing, at_each_place}
use Rattle.am_world.proofs.TickSaid.{all_owned, of_front, of_somebody, still_asked}
use Rattle.am_world.proofs.TickTurns.{HadTurns}
use Rattle.am_world.proofs.TickAlone.{IsTurnAlone, Stood, at_tick, down_alone, found_all, nobody_alone, turn_at}
use Rattle.am_world.proofs.TickAlone.{turns_alone, up_alone}

-- ---- all of them

outputs_flat : (t : List ℕ) (u : Watch) (f : ℕ → List Output) (ns : List ℕ)
    → outputs_of t u (flat_map f ns) ≡ flat_map (λ i. outputs_of t u (f i)) ns
outputs_flat t u f [] = refl
outputs_flat t u f (n ∷ ns) =
    filter-append (λ output. is_tenant t (owner u output)) (f n) (flat_map f ns)
    ∙ ap (λ os. outputs_of t u (f n) ++ os) (outputs_flat t u f ns)

flat_alike : {A : Type 0} (f g : ℕ → List A) (ns : List ℕ) → ((i : ℕ) → f i ≡ g i) → flat_map f ns ≡ flat_map g ns
flat_alike f g ns same = λ d. flat_map (λ i. same i d) ns

pub flat_none : {A : Type 0} (f : ℕ → List A) (ns : List ℕ) → ((i : ℕ) → f i ≡ []) → flat_map f ns ≡ []
flat_none f [] none = refl
flat_none f (n ∷ ns) none = rw (none n) (flat_none f ns none)

front_flat : (u : Watch) (f : ℕ → List Output) (ns : List ℕ) → ((i : ℕ) → front_outputs u (f i) ≡ [])
    → front_outputs u (flat_map f ns) ≡ []
front_flat u f [] none = refl
front_flat u f (n ∷ ns) none =
    filter-append (λ output. is_front (owner u output)) (f n) (flat_map f ns)
    ∙ ap (λ os. os ++ front_outputs u (flat_map f ns)) (none n) ∙ front_flat u f ns none

owned_flat : (u : Watch) (f : ℕ → List Output) (ns : List ℕ) → ((i : ℕ) → are_owned u (f i) ≡ true)
    → are_owned u (flat_map f ns) ≡ true
owned_flat u f [] all = refl
owned_flat u f (n ∷ ns) all =
    list_all-append (λ output. is_some (owner u output)) (f n) (flat_map f ns)
    ∙ ap (λ b. b && are_owned u (flat_map f ns)) (all n) ∙ owned_flat u f ns all

all_fit : (f : ℕ → Reaction) (ns : List ℕ) → ((i : ℕ) → (f i).fits ≡ true) → list_all (λ i. (f i).fits) ns ≡ true
all_fit f [] fits = refl
all_fit f (n ∷ ns) fits = rw (fits n) (all_fit f ns fits)

-- ---- a tick

module _ (w w' : State) (m : ℕ) (post : Post) (numbered : AreNumbered w.instances)
    (turns : HadTurns all_instances (record w { clock = m; messages = post }) w')
    (on : (i : ℕ) → turns.stopped i ≡ false) where
  stood : (i : ℕ) → is_among i all_instances ≡ true → Stood i m w w' (turns.told i)
  stood i among =
      let x = standing i w.instances numbered among in
      let y = standing i w'.instances turns.numbered among in
      record {
        x = x.0;
        y = y.0;
        is_at = x.1;
        is_then = y.1;
        ticks = turns.ticks i among (on i) x.0 y.0 x.1 y.1;
        node = turns.stays i x.0 y.0 x.1 y.1;
      }

  -- what is so of an instance that ticked, and of what stays, is so at each number
  each_place : (P : Option Instance → Option Instance → Type 0) (i : ℕ) → ((o : Option Instance) → P o o)
      → ((x y : Instance) → Ticks (around_at m w) x y [] (turns.told i) → IsSameNode x y → P (Some x) (Some y))
      → P (instance_at i w.instances) (instance_at i w'.instances)
  each_place P i same ticked =
      at_each_place P i w.instances w'.instances numbered turns.numbered (turns.others i) same (λ among x y at after.
      ticked x y (turns.ticks i among (on i) x y at after) (turns.stays i x y at after))

  reading : (c i : ℕ) → bytes_at c i w'.instances ≡ bytes_at c i w.instances
  unfolding bytes_at
  reading c i =
      each_place (λ o o'. bytes_where c o' ≡ bytes_where c o) i (λ o. refl)
      (λ x y ticks node. ap (bytes_of c) ticks.front)

  refused : (i : ℕ) → refused_at i w'.instances ≡ refused_at i w.instances
  unfolding refused_at
  refused i =
      each_place (λ o o'. refused_where o' ≡ refused_where o) i (λ o. refl) (λ x y ticks node. ticks.refused)

  roster : IsSameRoster (roster_of w') (roster_of w)
  unfolding up_at incarnation_at known_at
  roster = record {
    rings = ap (λ (c : Common). map (λ (ring : Members). ring.instances) c.rings.items) turns.beside.common;
    known = λ i. each_place (λ o o'. known_where o' ≡ known_where o) i (λ o. refl) (λ x y ticks node. node.known);
    up = λ i. each_place (λ o o'. up_where o' ≡ up_where o) i (λ o. refl) (λ x y ticks node. ticks.up);
    incarnation = λ i.
        each_place (λ o o'. incarnation_where o' ≡ incarnation_where o) i (λ o. refl)
        (λ x y ticks node. node.incarnation);
    first = ap (λ (c : Common). c.first) turns.beside.common;
  }

  -- ---- for who is known to have asked

  module _ (v : Watch) (asked : AreAsked v w) where
    waits : (i : ℕ) (s : Stood i m w w' (turns.told i)) (t : List ℕ)
        → WaitOver (λ c request. IsAskerOf v t c) (local_in t s.x).operations
    waits i s t =
        subst (λ (l : Local). WaitOver (λ c request. IsAskerOf v t c) l.operations)
        (local_here t i w.instances s.x s.is_at) (asked t i)

    still : AreAsked v w'
    unfolding local_at
    still t i = elim (cases_Bool (is_among i all_instances)) [
      | inl among ↦
          let s = stood i among in
          subst (λ o. WaitOver (λ c request. IsAskerOf v t c) (local_where t o).operations) (sym s.is_then)
          (by_up s refl)
      | inr apart ↦
          subst (λ o. WaitOver (λ c request. IsAskerOf v t c) (local_where t o).operations) (sym (turns.others i apart))
          (asked t i)
    ]
      where
        by_up : (s : Stood i m w w' (turns.told i)) → s ≡ s
            → WaitOver (λ c request. IsAskerOf v t c) (local_in t s.y).operations
        by_up s is = elim (cases_Bool s.x.up) [
          | inl up ↦
              still_asked (around_at m w) s.x s.y (turns.told i) (s.ticks.ticks up) v (waits i s) t
          | inr down ↦
              subst (λ (z : Instance). WaitOver (λ c request. IsAskerOf v t c) (local_in t z).operations)
              (sym (s.ticks.idle down)) (waits i s t)
        ]

    -- what each tells is nobody else's than a tenant's
    fronts : (u : Watch) → Later v u → (i : ℕ) → front_outputs u (turns.told i) ≡ []
    fronts u later i = elim (cases_Bool (is_among i all_instances)) [
      | inl among ↦ let s = stood i among in elim (cases_Bool s.x.up) [
        | inl up ↦
            let all = s.ticks.ticks up in
            ap (front_outputs u) all.outputs
            ∙ of_front u s.x all.all (all_owned (around_at m w) s.x s.y (turns.told i) all v (waits i s) u later)
        | inr down ↦ ap (front_outputs u) (s.ticks.quiet down)
      ]
      | inr apart ↦ ap (front_outputs u) (turns.none i apart)
    ]

    owns : (u : Watch) → Later v u → (i : ℕ) → are_owned u (turns.told i) ≡ true
    owns u later i = elim (cases_Bool (is_among i all_instances)) [
      | inl among ↦ let s = stood i among in elim (cases_Bool s.x.up) [
        | inl up ↦
            let all = s.ticks.ticks up in
            ap (are_owned u) all.outputs
            ∙ of_somebody u s.x all.all (all_owned (around_at m w) s.x s.y (turns.told i) all v (waits i s) u later)
        | inr down ↦ ap (are_owned u) (s.ticks.quiet down)
      ]
      | inr apart ↦ ap (are_owned u) (turns.none i apart)
    ]

    -- ---- for a tenant

    module _ (t : List ℕ) (p : PrivateCluster) (s : Stands t w p) where
      alone : (i : ℕ) → IsTurnAlone t v p m i w' (turns.told i)
      alone i = elim (cases_Bool (is_among i all_instances)) [
        | inl among ↦ let x = stood i among in elim (cases_Bool x.x.up) [
          | inl up ↦ up_alone t v p m i w w' (turns.told i) numbered s x (waits i x) up
          | inr down ↦ down_alone t v p m i w w' (turns.told i) numbered s x down
        ]
        | inr apart ↦
            let none = nobody i w.instances numbered apart in
            nobody_alone t v p m i w w' (turns.told i) numbered s none (turns.others i apart ∙ none)
            (turns.none i apart)
      ]

      named : NamesOnce (at_tick m p)
      named = record {
        named = s.named.named;
        past = Each-map (IsPast p) (IsPast (at_tick m p)) p.sent
            (λ n e. record { incarnation = e.incarnation; counted = e.counted }) s.named.past;
      }

      its_own : (i : ℕ) → AreOf t (turn_at m p i).said
      unfolding here_at
      its_own i = by_up (p.roster.up i)
        where
          by_up : (b : Bool) → AreOf t (if b then ticked (here_at (at_tick m p) m i) (p.at i) else stays (p.at i)).said
          by_up true =
              subst (λ n. AreOf n (ticked (here_at (at_tick m p) m i) (p.at i)).said) s.tenant
              (ticked_own (here_at (at_tick m p) m i) (p.at i))
          by_up false = All-nil (IsOf t)

      not_up : (i : ℕ) → is_among i all_instances ≡ false → p.roster.up i ≡ false
      unfolding up_at
      not_up i apart = sym (s.roster.up i) ∙ ap up_where (nobody i w.instances numbered apart)

      module _ (lost : (name : MessageName) → posted_at name post ≡ unlost m (posted_at name w.messages))
          (later : w.clock ≤ m) (early : m < greatest_moment) where
        posts : IsPostedAlike t w' (react_all (λ i. ticked) m (at_tick m p)).cluster
        unfolding react_all
        posts from k to count =
            turns.posted name
            ∙ ap (posted_over m (turns.told from) name)
            (lost name ∙ ap (unlost m) (s.posted from k to count)
            ∙ lost_alike p.clock m (find (is_named from k to count) p.sent) (subst (λ c. c ≤ m) s.clock later))
            ∙ posted_of_own m v (turns.told from) name before
            ∙ ap (λ os. posted_over m os name before)
            ((alone from).own v (record { asked = λ c n e. e; answered = λ c e. e })
            ∙ ap (λ n. map (output_of n from (p.roster.incarnation from)) said) s.tenant)
            ∙ posted_alike m m t from k to count (just_sent m m (omega arith) early) from (p.roster.incarnation from)
            said p.sent (own_messages t said (its_own from))
            (turn_is_new (at_tick m p) (turn_at m p) (turns_alone m p) named from)
            (turn_once (at_tick m p) (turn_at m p) (turns_alone m p) m from)
            ∙ ap (unlost_sent m)
            (find-append (is_named from k to count) p.sent (sent_at m said)
            ∙ ap (option_or (find (is_named from k to count) p.sent))
            (sym (found_all m p from k to count (is_among from all_instances) refl (not_up from)))
            ∙ sym (find-append (is_named from k to count) p.sent (said_by_all m (turn_at m p) all_instances)))
          where
            name : MessageName
            name = record { tenant = t; from = from; incarnation = k; to = to; count = count }

            said : List Said
            said = (turn_at m p from).said

            before : Option Posted
            before = unlost_sent m (find (is_named from k to count) p.sent)

        -- .. it has what its cluster has
        stands : Stands t w' (react_all (λ i. ticked) m (at_tick m p)).cluster
        unfolding react_all
        stands = record {
          tenant = s.tenant;
          replicas_by = s.replicas_by;
          service_key = ap (λ (c : Common). c.service_key) turns.beside.common ∙ s.service_key;
          clock = turns.beside.clock;
          limits = (λ d. limits_in (record w { common = turns.beside.common d }) t) ∙ s.limits;
          roster = roster_then (roster_of w') (roster_of w) p.roster roster s.roster;
          local = λ i. (alone i).local;
          posted = posts;
          named = all_react_kept (λ i. ticked) m (at_tick m p) (λ i here. ticked_counted here) named;
        }

      told : (u : Watch) → Later v u → outputs_of t u (flat_map turns.told all_instances)
          ≡ (react_all (λ i. ticked) m (at_tick m p)).outputs
      unfolding react_all
      told u later =
          outputs_flat t u turns.told all_instances
          ∙ flat_alike (λ i. outputs_of t u (turns.told i))
          (λ i. put_out_at (at_tick m p) i (turn_at m p i).said) all_instances (λ i. (alone i).own u later)

      fits : (react_all (λ i. ticked) m (at_tick m p)).fits ≡ true
      unfolding react_all
      fits = all_fit (turn_at m p) all_instances (λ i. (alone i).fits)

-- ---- the whole event

-- what a tick is to a private cluster
pub tick_course : (b : Bool) (p : PrivateCluster) (m : ℕ) → is_refused_tick m p.clock ≡ b
    → course p (Ticked m) ≡ (if b then unchanged p else react_all (λ i. ticked) m (at_tick m p))
unfolding course_by refusal_of handled_by
tick_course true p m e =
    ap (λ b. let o : Option Refused = if b then Some MomentRefused else None in
    if is_some o then unchanged p else react_all (λ i. ticked) m (at_tick m p)) e
tick_course false p m e =
    ap (λ b. let o : Option Refused = if b then Some MomentRefused else None in
    if is_some o then unchanged p else react_all (λ i. ticked) m (at_tick m p)) e

within : (m clock : ℕ) → is_refused_tick m clock ≡ false → (clock ≤ m) × (m ≤ last_moment)
within m clock allowed =
    let parts = or_parts (nat_lt last_moment m) (nat_lt m clock) allowed in
    (not_less m clock parts.1, not_less last_moment m parts.0)
  where
    not_less : (a b : ℕ) → nat_lt a b ≡ false → b ≤ a
    not_less a b is = grind (arith, nat_tests)

pub kept_tick : (w w' : State) (m : ℕ) (post : Post) → is_refused_tick m w.clock ≡ false → AreNumbered w.instances
    → ((name : MessageName) → posted_at name post ≡ unlost m (posted_at name w.messages))
    → (turns : HadTurns all_instances (record w { clock = m; messages = post }) w')
    → ((i : ℕ) → turns.stopped i ≡ false) → fault_count w' ≡ fault_count w → Kept w (Tick m) w'
unfolding watch adds front_told deciding_at
kept_tick w w' m post allowed numbered lost turns on counted = record {
  follows = λ v f. record {
    reading = λ c i. reading w w' m post numbered turns on c i ∙ f.reading c i;
    roster = roster_then (roster_of w') (roster_of w) v.roster (roster w w' m post numbered turns on) f.roster;
  };
  asked = λ v f new asked. still w w' m post numbered turns on v asked;
  outs = flat_map turns.told all_instances;
  appended = turns.appended;
  tenants = λ t v p given. inl (as_alone t v p given.asked given.stands);
  front = λ v f asked u later.
      front_flat u turns.told all_instances (fronts w w' m post numbered turns on v asked u later);
  owned = λ v f asked u later.
      owned_flat u turns.told all_instances (owns w w' m post numbered turns on v asked u later);
  roster = roster w w' m post numbered turns on;
  clock = turns.beside.clock ∙ sym (ap (λ b. if b then w.clock else m) allowed);
  limits = λ t. ap (λ (c : Common). limits_of t c.limits) turns.beside.common;
  service_key = ap (λ (c : Common). c.service_key) turns.beside.common;
  refused = refused w w' m post numbered turns on;
  faults = counted;
}
  where
    as_alone : (t : List ℕ) (v : Watch) (p : PrivateCluster) → AreAsked v w → Stands t w p
        → IsAsAlone t v p (Tick m) (flat_map turns.told all_instances) w'
    as_alone t v p asked s =
        let moments = within m w.clock allowed in
        let is : course p (Ticked m) ≡ react_all (λ i. ticked) m (at_tick m p) =
        tick_course false p m (ap (is_refused_tick m) (sym s.clock) ∙ allowed) in
        record {
          stands = subst (λ (q : Course). Stands t w' q.cluster) (sym is)
              (stands w w' m post numbered turns on v asked t p s lost moments.0 (omega (arith, moments.1)));
          told = λ u later.
              told w w' m post numbered turns on v asked t p s u later
              ∙ sym (append-nil (react_all (λ i. ticked) m (at_tick m p)).outputs)
              ∙ sym (ap (λ (q : Course). q.outputs ++ []) is);
          fits = ap (λ (q : Course). q.fits && true) is
              ∙ ap (λ b. b && true) (fits w w' m post numbered turns on v asked t p s);
          built = (tt, tt);
        }

-- a tick that is refused changes nothing
pub kept_refused_tick : (w : State) (m : ℕ) → is_refused_tick m w.clock ≡ true → Kept w (Tick m) w
unfolding watch adds front_told deciding_at
kept_refused_tick w m refused = record {
  follows = λ v f. f;
  asked = λ v f new asked. asked;
  outs = [];
  appended = sym (append-nil (put_out w));
  tenants = λ t v p given. inl (as_alone t v p given.stands);
  front = λ v f asked u later. refl;
  owned = λ v f asked u later. refl;
  roster = same_again (roster_of w);
  clock = sym (ap (λ b. if b then w.clock else m) refused);
  limits = λ t. refl;
  service_key = refl;
  refused = λ i. refl;
  faults = refl;
}
  where
    as_alone : (t : List ℕ) (v : Watch) (p : PrivateCluster) → Stands t w p → IsAsAlone t v p (Tick m) [] w
    as_alone t v p s =
        let is : course p (Ticked m) ≡ unchanged p =
        tick_course true p m (ap (is_refused_tick m) (sym s.clock) ∙ refused) in
        record {
          stands = subst (λ (q : Course). Stands t w q.cluster) (sym is) s;
          told = λ u later. sym (ap (λ (q : Course). q.outputs ++ []) is);
          fits = ap (λ (q : Course). q.fits && true) is;
          built = (tt, tt);
        }
