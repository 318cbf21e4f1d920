-- An instance that goes on to the next ring keeps the simulation: every tenant has of it what its private cluster makes
-- of it.
use Rattle.std.proofs.Common.{◌≡◌, ◌∙◌, inl, inr, ℕ, ◌+◌, ◌-◌, ◌<◌, ◌≤◌, ◌==◌, ◌&&◌, nat_eq, nat_lt, true, false}
use Rattle.std.proofs.Common.{Contains, List, [], length, map, None, Some, refl, sym, ap, subst, arith, if◌then◌else◌}
use Rattle.std.specs.Prelude.{nat_le}
use Rattle.std.proofs.lemmas.Bool.{and_parts, cases_Bool, true≢false}
use Rattle.std.proofs.lemmas.Bool.Decides.{nat_tests}
use Rattle.std.proofs.lemmas.List.{length-map}
use Rattle.am_cluster.proofs.Counted.{IsCounted, learned_counted}
use Rattle.am_cluster.proofs.Named.{one_kept}
use Rattle.am_cluster.proofs.Names.{Each-map, as_sent, new_named}
use Rattle.am_cluster.proofs.Posting.{said_is_new}
use Rattle.am_cluster.proofs.ReplyTurns.{learned_over}
use Rattle.am_cluster.proofs.UpExist.{passed}
use Rattle.am_cluster.proofs.Watched.{after_same}
use Rattle.am_cluster.specs.Courses.{changed, with_event}
use Rattle.am_cluster.specs.Events.{Learn}
use Rattle.am_cluster.specs.Here.{Here}
use Rattle.am_cluster.specs.Local.{Local}
use Rattle.am_cluster.specs.Messages.{Message}
use Rattle.am_cluster.specs.Naming.{IsPast, NamesOnce}
use Rattle.am_cluster.specs.Outputs.{are_owned, front_outputs, outputs_of}
use Rattle.am_cluster.specs.PrivateCluster.{Course, PrivateCluster, here_at, output_of, react_one, unchanged}
use Rattle.am_cluster.specs.Reactions.{Reaction, messages_in}
use Rattle.am_cluster.specs.Refused.{NothingToLearn}
use Rattle.am_cluster.specs.Replying.{IsOver, WaitOver}
use Rattle.am_cluster.specs.RingChanges.{ring_learned}
use Rattle.am_cluster.specs.Rings.{newest_epoch}
use Rattle.am_cluster.specs.Roster.{IsSameRoster, Learns, put_at, ring_event_refusal, roster_after, three_at}
use Rattle.am_cluster.specs.Sent.{sent_at}
use Rattle.am_cluster.specs.SentFacts.{AreNamedOnce, has_name_of}
use Rattle.am_cluster.specs.View.{Watch}
use Rattle.am_http.specs.Connections.{bytes_of}
use Rattle.am_item.specs.Retirement.{moment_after}
use Rattle.am_messages.specs.Posted.{message_life}
use Rattle.am_ring.specs.Instances.{Members, all_instances}
use Rattle.am_rows.specs.Rows.{rows_of}
use Rattle.am_text.specs.Moment.{greatest_moment}
use Rattle.am_instance.specs.Changing.{learned, learning}
use Rattle.am_instance.specs.Here.{Circumstances, here_on, three_on}
use Rattle.am_instance.specs.Instance.{IsSameNode, local_in}
use Rattle.am_instance.specs.Reacting.{reaction_on}
use Rattle.am_instance.specs.Shelves.{Shelf}
use Rattle.am_instance.specs.declared.instance.Instance.{Instance}
use Rattle.am_world.specs.Changing.{Acts, IsBehind, LearnsRing}
use Rattle.am_world.specs.Consistent.{IsConsistent, around_at, over}
use Rattle.am_world.specs.Places.{At, ChangesAt, bytes_at, incarnation_at, instance_at, known_at}
use Rattle.am_world.specs.Places.{local_at, up_at}
use Rattle.am_world.specs.Posting.{Posts}
use Rattle.am_world.specs.Refusal.{refusal}
use Rattle.am_world.specs.Shelves.{shelf_at}
use Rattle.am_world.specs.Simulation.{AreAsked, IsAskerOf, IsPostedAlike, IsSameBeside, KeepsRows, Stands}
use Rattle.am_world.specs.Simulation.{StandsOver, limits_in, roster_of}
use Rattle.am_world.specs.Steps.{Kept, Later}
use Rattle.am_world.specs.declared.common.Common.{Common}
use Rattle.am_world.specs.declared.state.State.{State}
use Rattle.am_world.proofs.Alone.{own_messages}
use Rattle.am_world.proofs.AloneKept.{clock_before}
use Rattle.am_world.proofs.AloneOwn.{AreOf}
use Rattle.am_world.proofs.AlonePlaces.{at_each, bytes_here, bytes_other, exists_then, incarnation_here}
use Rattle.am_world.proofs.AlonePlaces.{incarnations_are, known_here, local_here, local_other, map_alike}
use Rattle.am_world.proofs.AlonePlaces.{refused_here, refused_then, roster_then, up_here, up_there}
use Rattle.am_world.proofs.AloneTold.{later_itself}
use Rattle.am_world.proofs.HereAlone.{IsAround, IsPlaced, here_alike, three_alike}
use Rattle.am_world.proofs.InstancesLemmas.{number_of}
use Rattle.am_world.proofs.NotRefused.{IsChangedAlone, kept_changed}
use Rattle.am_world.proofs.Posted.{alike_told, just_sent}
use Rattle.am_world.proofs.RingOwn.{learned_own}
use Rattle.am_world.proofs.Rostered.{learned_roster, put_here, put_other, stays_so}
use Rattle.am_world.proofs.SaidAll.{SaysAll, says_as, says_no_front, says_owned, says_reacting}

-- ---- who has a ring to learn

-- it is up, and knows a ring that isn't the newest
pub learn_behind : (w : State) (i : ℕ) → refusal w (Learn i) ≡ None → IsConsistent w
    → (up_at i w.instances ≡ true) × At i (IsBehind w.common.rings.items) w.instances
unfolding ring_event_refusal
learn_behind w i none consistent =
    let newest : ℕ = newest_epoch (roster_of w).rings in
    let parts = and_parts (up_at i w.instances) (nat_lt (known_at i w.instances) newest)
    (passed (up_at i w.instances && nat_lt (known_at i w.instances) newest) None NothingToLearn none) in
    (parts.0, λ x at. behind newest refl parts x at)
  where
    below : (a b : ℕ) → nat_lt a b ≡ true → a < b
    below a b test = grind (arith, nat_tests)

    behind : (newest : ℕ) → newest ≡ length (roster_of w).rings - 1
        → (up_at i w.instances ≡ true) × (nat_lt (known_at i w.instances) newest ≡ true)
        → At i (IsBehind w.common.rings.items) w.instances
    behind newest is parts x at =
        let less : known_at i w.instances < newest = below (known_at i w.instances) newest parts.1 in
        let here : known_at i w.instances ≡ x.known = known_here i w.instances x at in
        let size = length-map w.common.rings.items (λ (ring : Members). ring.instances) in
        record {
          up = sym (up_here i w.instances x at) ∙ parts.0;
          next = omega (arith, less, here, is, size);
        }

-- ---- it learned one

module _ (w w' : State) (i : ℕ) (consistent : IsConsistent w) (up : up_at i w.instances ≡ true)
    (acts : Acts i learned (LearnsRing (around_at w.clock w)) w w') (change : ChangesAt i w.instances w'.instances)
    (beside : IsSameBeside w w') where
  abbrev now : Circumstances
  now = around_at w.clock w

  first : (x : Instance) × (instance_at i w.instances ≡ Some x) × (x.up ≡ true)
  first = up_there i w.instances up

  last : (y : Instance) × (instance_at i w'.instances ≡ Some y)
  last = exists_then i w.instances w'.instances first.0 consistent.numbered change.numbered first.1

  abbrev x : Instance
  x = first.0

  abbrev y : Instance
  y = last.0

  learns : LearnsRing now acts.told x y
  learns = acts.acts x y first.1 last.1

  node : IsSameNode (learned x) y
  node = acts.node x y first.1 last.1

  number : x.number ≡ i
  number = number_of i w.instances x first.1

  is_up : y.up ≡ true
  is_up = learns.up ∙ first.2

  -- ---- what it says

  abbrev each : List ℕ → Reaction
  each t = reaction_on now (learned x) t (learning now x t)

  says : SaysAll (learned x) acts.told each
  says = says_reacting now (learning now x) (learned x) y acts.told learns.reacts

  local_then : (t : List ℕ) → local_in t y ≡ (each t).local
  local_then t = (learns.reacts.does t).local

  fits_then : (t : List ℕ) → (each t).fits ≡ true
  fits_then t = (learns.reacts.does t).fits

  own_then : (t : List ℕ) → AreOf t (each t).said
  unfolding here_on
  own_then t = learned_own (here_on now (learned x) t) (three_on now x t) (local_in t (learned x))

  local_same : (t : List ℕ) → local_in t (learned x) ≡ local_in t x
  unfolding local_in
  local_same t = refl

  module _ (v : Watch) (asked : AreAsked v w) where
    wait_over : (t : List ℕ) → IsOver (λ c request. IsAskerOf v t c) (each t)
    wait_over t =
        learned_over (λ c request. IsAskerOf v t c) (here_on now (learned x) t) (three_on now x t)
        (local_in t (learned x))
        (subst (λ (l : Local). WaitOver (λ c request. IsAskerOf v t c) l.operations)
        (local_here t i w.instances x first.1 ∙ sym (local_same t)) (asked t i))

    asked_still : AreAsked v w'
    asked_still t =
        at_each (λ j. WaitOver (λ c request. IsAskerOf v t c) (local_at t j w'.instances).operations) i
        (subst (λ (l : Local). WaitOver (λ c request. IsAskerOf v t c) l.operations)
        (sym (local_here t i w'.instances y last.1 ∙ local_then t)) (wait_over t).0)
        (λ j apart. subst (λ (l : Local). WaitOver (λ c request. IsAskerOf v t c) l.operations)
        (sym (local_other t i j w.instances w'.instances change.others apart)) (asked t j))

    module _ (u : Watch) (later : Later v u) where
      silent_front : front_outputs u acts.told ≡ []
      silent_front =
          says_no_front (learned x) acts.told each says v u later (λ t. (wait_over t).1) own_then

      all_owned : are_owned u acts.told ≡ true
      all_owned = says_owned (learned x) acts.told each says v u later (λ t. (wait_over t).1) own_then

      told_as : (t : List ℕ) (k : ℕ) (as_there : Reaction) → x.incarnation ≡ k → each t ≡ as_there
          → outputs_of t u acts.told ≡ map (output_of t i k) as_there.said
      told_as t k as_there incarnation same =
          says_as (learned x) acts.told each says v u later (λ n. (wait_over n).1) own_then t i k as_there number
          incarnation same

  -- ---- the instances then

  roster_learned : IsSameRoster (roster_of w') (roster_after (Learns i) (roster_of w))
  unfolding roster_after
  roster_learned =
      learned_roster i w w' x y first.1 last.1 (ap (λ (c : Common). c.first) beside.common)
      (stays_so i w.instances w'.instances change.others) node learns.up
      (ap (λ (c : Common). (roster_of (record w { common = c })).rings) beside.common)

  up_still : (j : ℕ) → up_at j w'.instances ≡ up_at j w.instances
  unfolding roster_after
  up_still j = roster_learned.up j

  reads : (c j : ℕ) → bytes_at c j w'.instances ≡ bytes_at c j w.instances
  reads c =
      at_each (λ j. bytes_at c j w'.instances ≡ bytes_at c j w.instances) i
      (bytes_here c i w'.instances y last.1 ∙ ap (bytes_of c) learns.front
      ∙ sym (bytes_here c i w.instances x first.1))
      (λ j apart. bytes_other c i j w.instances w'.instances change.others apart)

  -- ---- for a tenant

  module _ (t : List ℕ) (p : PrivateCluster) (s : Stands t w p) where
    abbrev q : PrivateCluster
    q = with_event (Learns i) p

    abbrev before : List ℕ
    before = three_at p.replicas_by p.roster i

    abbrev f : Here → Local → Reaction
    f here local = ring_learned here before local

    abbrev r : Reaction
    r = f (here_at q p.clock i) (q.at i)

    around_before : IsAround t now p
    around_before = record {
      tenant = s.tenant;
      replicas_by = s.replicas_by;
      limits = s.limits;
      rings = s.roster.rings;
      first = s.roster.first;
      incarnations = incarnations_are w.instances consistent.numbered
          ∙ map_alike (λ j. incarnation_at j w.instances) p.roster.incarnation all_instances s.roster.incarnation;
    }

    around_then : IsAround t now q
    unfolding roster_after
    around_then = record {
      tenant = around_before.tenant;
      replicas_by = around_before.replicas_by;
      limits = around_before.limits;
      rings = around_before.rings;
      first = around_before.first;
      incarnations = around_before.incarnations;
    }

    incarnation : x.incarnation ≡ p.roster.incarnation i
    incarnation = sym (incarnation_here i w.instances x first.1) ∙ s.roster.incarnation i

    known : x.known ≡ p.roster.known i
    known = sym (known_here i w.instances x first.1) ∙ s.roster.known i

    placed_before : IsPlaced x p i
    placed_before = record { number = number; incarnation = incarnation; known = known }

    placed_then : IsPlaced (learned x) q i
    unfolding roster_after
    placed_then = record {
      number = number;
      incarnation = incarnation;
      known = ap (λ n. n + 1) known ∙ sym (put_here p.roster.known i (p.roster.known i + 1));
    }

    -- it reacts alike
    reacts_alike : each t ≡ r
    reacts_alike =
        let here : here_on now (learned x) t ≡ here_at q p.clock i =
        here_alike t now (learned x) q i around_then placed_then ∙ ap (λ m. here_at q m i) s.clock in
        let three : three_on now x t ≡ before = three_alike t now x p i around_before placed_before in
        let have : local_in t (learned x) ≡ p.at i =
        local_same t ∙ sym (local_here t i w.instances x first.1) ∙ s.local i in
        λ d. ring_learned (here d) (three d) (have d)

    up_then : q.roster.up i ≡ true
    unfolding roster_after
    up_then = sym (s.roster.up i) ∙ up

    course_one : changed (Learns i) p ≡ react_one f p.clock i q
    unfolding changed
    course_one = ap (λ b. if b then react_one f p.clock i q else unchanged q) up_then

    named_then : NamesOnce q
    unfolding roster_after
    named_then = record {
      named = s.named.named;
      past = Each-map (IsPast p) (IsPast q) p.sent
          (λ m e. record { incarnation = e.incarnation; counted = e.counted }) s.named.past;
    }

    counted : IsCounted (here_at q p.clock i) (q.at i) r
    counted = learned_counted (here_at q p.clock i) before (q.at i)

    own : AreOf t r.said
    own = subst (λ (k : Reaction). AreOf t k.said) reacts_alike (own_then t)

    unnamed : (m : Message) → Contains (messages_in r.said) m → has_name_of m p.sent ≡ false
    unnamed m among = (said_is_new q p.clock i r named_then up_then counted m among).0

    once : AreNamedOnce (sent_at p.clock r.said)
    unfolding here_at as_sent
    once =
        new_named i (q.roster.incarnation i) (q.at i).ledger.messages r.local.ledger.messages p.clock
        (messages_in r.said) counted

    told_alike : (v u : Watch) → AreAsked v w → Later v u
        → outputs_of t u acts.told ≡ map (output_of t i (p.roster.incarnation i)) r.said
    told_alike v u asked later = told_as v asked u later t (p.roster.incarnation i) r incarnation reacts_alike

    early : nat_le (moment_after p.clock message_life) p.clock ≡ false
    early =
        let before_last : p.clock < greatest_moment =
        subst (λ m. m < greatest_moment) s.clock (clock_before w consistent.clock) in
        just_sent p.clock p.clock (omega arith) before_last

    posted : (v : Watch) → AreAsked v w → IsPostedAlike t w' (react_one f p.clock i q).cluster
    unfolding react_one
    posted v asked =
        alike_told t p.clock w.messages w'.messages p.sent s.posted p.clock v i (p.roster.incarnation i) acts.told
        r.said early (subst (λ m. Posts m acts.told w.messages w'.messages) s.clock acts.posts)
        (told_alike v v asked (later_itself v)) (own_messages t r.said own) unnamed once

    stands : (v : Watch) → AreAsked v w → Stands t w' (react_one f p.clock i q).cluster
    unfolding react_one
    stands v asked = record {
      tenant = s.tenant;
      replicas_by = s.replicas_by;
      service_key = ap (λ (c : Common). c.service_key) beside.common ∙ s.service_key;
      clock = beside.clock ∙ s.clock;
      limits = (λ d. limits_in (record w { common = beside.common d }) t) ∙ s.limits;
      roster = roster_then (roster_of w') (roster_after (Learns i) (roster_of w)) q.roster roster_learned
          (after_same (Learns i) (roster_of w) p.roster s.roster);
      local = at_each (λ j. local_at t j w'.instances ≡ put_at p.at i r.local j) i
          (local_here t i w'.instances y last.1 ∙ local_then t ∙ ap (λ (k : Reaction). k.local) reacts_alike
          ∙ sym (put_here p.at i r.local))
          (λ j apart. local_other t i j w.instances w'.instances change.others apart ∙ s.local j
          ∙ sym (put_other p.at i j r.local apart));
      posted = posted v asked;
      named = one_kept f p.clock i q (λ here. learned_counted here before) up_then named_then;
    }

    -- ---- with the stores, of which only its own may have changed

    module _ (old new : List Shelf) (rest : (j : ℕ) → (j == i) ≡ false → shelf_at j new ≡ shelf_at j old)
        (keep : KeepsRows t (over w old) p) where
      keeps : KeepsRows t (over w' new) (react_one f p.clock i q).cluster
      unfolding react_one
      keeps j down clean = elim (cases_Bool (nat_eq j i)) [
        | inl h ↦
            let here : j ≡ i = grind (arith, nat_tests) in
            absurd (true≢false (sym is_up ∙ sym (up_here i w'.instances y last.1)
            ∙ ap (λ k. up_at k w'.instances) (sym here) ∙ down))
        | inr h ↦
            let was : up_at j w.instances ≡ false = sym (up_still j) ∙ down in
            ap (λ (shelf : Shelf). rows_of t shelf.pairs) (rest j h)
            ∙ keep j was (sym (ap (λ (shelf : Shelf). shelf.is_clean) (rest j h)) ∙ clean)
      ]

      alone : (v : Watch) → AreAsked v w → IsChangedAlone t v p (Learns i) acts.told (over w' new)
      unfolding react_one roster_after
      alone v asked = record {
        stands = subst (λ (k : Course). StandsOver t (over w' new) k.cluster) (sym course_one)
            (record { stands = stands v asked; keeps = keeps });
        told = λ u later.
            told_alike v u asked later
            ∙ (λ d. map (output_of (sym s.tenant d) i (p.roster.incarnation i)) r.said)
            ∙ sym (ap (λ (k : Course). k.outputs) course_one);
        fits = ap (λ (k : Course). k.fits) course_one
            ∙ ap (λ (k : Reaction). k.fits) (sym reacts_alike) ∙ fits_then t;
      }

  pub kept_learn : (old new : List Shelf) → ring_event_refusal (Learns i) (roster_of w) ≡ None
      → ((j : ℕ) → (j == i) ≡ false → shelf_at j new ≡ shelf_at j old)
      → Kept (over w old) (Learn i) (over w' new)
  kept_learn old new none rest =
      kept_changed (Learns i) (over w old) (over w' new) none (record {
        roster = roster_learned;
        reading = λ v follows d j. reads d j ∙ follows.reading d j;
        asked = λ clean v asked. asked_still v asked;
        outs = acts.told;
        appended = acts.appended;
        alone = λ clean t v p given.
            alone t p given.stands.stands old new rest given.stands.keeps v given.asked;
        front = λ v asked u later. silent_front v asked u later;
        owned = λ v asked u later. all_owned v asked u later;
        clock = beside.clock;
        limits = ap (λ (c : Common). c.limits) beside.common;
        service_key = ap (λ (c : Common). c.service_key) beside.common;
        refused = refused_then i w.instances w'.instances
            (refused_here i w'.instances y last.1 ∙ learns.reacts.refused
            ∙ sym (refused_here i w.instances x first.1)) change.others;
        faults = acts.faults;
      })
