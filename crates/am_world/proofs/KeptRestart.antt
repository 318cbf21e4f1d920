-- A restart of which no instance stopped keeps the simulation: every tenant has of it what its private cluster makes of
-- it.
use Rattle.std.proofs.Common.{◌≡◌, ◌∙◌, inl, inr, ℕ, ◌+◌, ◌<◌, nat_eq, Bool, true, false, List, [], flat_map, map, None}
use Rattle.std.proofs.Common.{Some, refl, sym, ap, subst, arith, if◌then◌else◌}
use Rattle.std.specs.Prelude.{nat_le}
use Rattle.std.proofs.lemmas.Bool.{cases_Bool, true≢false}
use Rattle.std.proofs.lemmas.Bool.Decides.{nat_tests}
use Rattle.std.proofs.lemmas.List.Elements.{All-nil}
use Rattle.am_cluster.proofs.Counted.{restart_counted}
use Rattle.am_cluster.proofs.Named.{Turn, all_react_kept, opened_kept, turns_of}
use Rattle.am_cluster.proofs.Watched.{after_same}
use Rattle.am_cluster.specs.Courses.{at_restart, changed, with_event}
use Rattle.am_cluster.specs.Events.{Output, Restart}
use Rattle.am_cluster.specs.Naming.{NamesOnce}
use Rattle.am_cluster.specs.Outputs.{outputs_of}
use Rattle.am_cluster.specs.PrivateCluster.{PrivateCluster, here_at, output_of, put_out_at, react_all, reaction_at}
use Rattle.am_cluster.specs.PrivateCluster.{with_opened}
use Rattle.am_cluster.specs.Reactions.{Reaction, stays}
use Rattle.am_cluster.specs.RingChanges.{just_opened, opened as opened_with, other_restarted}
use Rattle.am_cluster.specs.Rings.{newest_epoch}
use Rattle.am_cluster.specs.Roster.{IsSameRoster, Restarts, put_at, ring_event_refusal, roster_after}
use Rattle.am_cluster.specs.View.{Watch}
use Rattle.am_item.specs.Retirement.{moment_after}
use Rattle.am_messages.specs.Posted.{message_life, posted_at}
use Rattle.am_ring.proofs.Numbers.{among_all}
use Rattle.am_ring.specs.Instances.{all_instances, is_among}
use Rattle.am_rows.specs.Rows.{rows_of}
use Rattle.am_text.specs.Moment.{greatest_moment}
use Rattle.am_instance.specs.Changing.{renewed}
use Rattle.am_instance.specs.Here.{Circumstances, here_on, rings_on}
use Rattle.am_instance.specs.Instance.{local_in}
use Rattle.am_instance.specs.Shelves.{Shelf}
use Rattle.am_instance.specs.declared.instance.Instance.{Instance}
use Rattle.am_world.specs.Changes.{OpensClean}
use Rattle.am_world.specs.Changing.{around_opening}
use Rattle.am_world.specs.Consistent.{IsConsistent, over}
use Rattle.am_world.specs.Places.{incarnation_at, instance_at, known_at, local_at, local_where, up_at, up_where}
use Rattle.am_world.specs.Posting.{posted_over}
use Rattle.am_world.specs.Shelves.{shelf_at}
use Rattle.am_world.specs.Simulation.{AreAsked, IsPostedAlike, KeepsRows, Stands, StandsOver, fault_count}
use Rattle.am_world.specs.Simulation.{limits_in, roster_of}
use Rattle.am_world.specs.Steps.{Kept, Later}
use Rattle.am_world.specs.declared.common.Common.{Common}
use Rattle.am_world.specs.declared.state.State.{State}
use Rattle.am_world.proofs.AllReact.{all_posted, each_fits, flat_same, front_each, outputs_each, owned_each}
use Rattle.am_world.proofs.AloneKept.{clock_before}
use Rattle.am_world.proofs.AloneOwn.{AreOf, IsOf}
use Rattle.am_world.proofs.AlonePlaces.{at_each, incarnation_here, known_here, local_here, roster_then}
use Rattle.am_world.proofs.AlonePlaces.{up_here}
use Rattle.am_world.proofs.AloneTold.{later_itself}
use Rattle.am_world.proofs.ComesUp.{opened_owned}
use Rattle.am_world.proofs.HereAlone.{IsAround, IsPlaced, here_alike}
use Rattle.am_world.proofs.InstancesLemmas.{number_of}
use Rattle.am_world.proofs.NotRefused.{IsChangedAlone, kept_changed}
use Rattle.am_world.proofs.Posted.{just_sent}
use Rattle.am_world.proofs.RestartPlaces.{Follower, Idle, Restarted, comes, first, follower_own, follower_over}
use Rattle.am_world.proofs.RestartPlaces.{follower_says, following, fronts, last, next_incarnations, others_did, owns}
use Rattle.am_world.proofs.RestartPlaces.{reading, refused, roster, still, up_others, up_then}
use Rattle.am_world.proofs.RingOwn.{restart_own}
use Rattle.am_world.proofs.Rostered.{put_here, put_other}
use Rattle.am_world.proofs.SaidAll.{says_as}
use Rattle.am_world.proofs.TickPlaces.{nobody}
use Rattle.am_world.proofs.TickSaid.{of_tenant}

-- what the instance of a number did is what the one of the tenant's cluster does
record IsTurnAlone (t : List ℕ) (v : Watch) (q : PrivateCluster) (i : ℕ) (turn : Reaction) (told : List Output)
    (w' : State) : Type 0 where
  local : local_at t i w'.instances ≡ turn.local
  fits : turn.fits ≡ true
  own : (u : Watch) → Later v u → outputs_of t u told ≡ map (output_of t i (q.roster.incarnation i)) turn.said

module _ (w w' : State) (r : ℕ) (olds news : List Shelf) (consistent : IsConsistent w)
    (exists : is_among r all_instances ≡ true)
    (turns : Restarted r (shelf_at r olds) (shelf_at r news) w w') (on : (i : ℕ) → turns.stopped i ≡ false)
    (was_down : up_at r w.instances ≡ false) where
  abbrev old : Shelf
  old = shelf_at r olds

  abbrev new : Shelf
  new = shelf_at r news

  abbrev now : Circumstances
  now = around_opening r w

  -- ---- for a tenant

  module _ (t : List ℕ) (v : Watch) (p : PrivateCluster) (s : StandsOver t (over w olds) p) (asked : AreAsked v w)
      (clean : new.is_clean ≡ true) (was_clean : old.is_clean ≡ true) where
    abbrev before : PrivateCluster
    before = with_event (Restarts r) p

    abbrev ready : PrivateCluster
    ready = with_opened r before

    abbrev turn : ℕ → Reaction
    turn i = reaction_at (at_restart r) p.clock ready i

    same : IsSameRoster (roster_after (Restarts r) (roster_of w)) before.roster
    same = after_same (Restarts r) (roster_of w) p.roster s.stands.roster

    around_ready : IsAround t now ready
    unfolding roster_after
    around_ready =
        let at = first w w' r old new consistent.numbered exists turns on in
        record {
          tenant = s.stands.tenant;
          replicas_by = s.stands.replicas_by;
          limits = s.stands.limits;
          rings = same.rings;
          first = same.first;
          incarnations = next_incarnations r w.instances at.0 consistent.numbered at.1
              ∙ (λ d. map (λ j. same.incarnation j d) all_instances);
        }

    here_is : (z : Instance) (i : ℕ) → IsPlaced z ready i → here_on now z t ≡ here_at ready p.clock i
    here_is z i placed =
        here_alike t now z ready i around_ready placed ∙ ap (λ m. here_at ready m i) s.stands.clock

    -- ---- the one that came up

    placed_up : (z : Instance) → instance_at r w.instances ≡ Some z → IsPlaced (renewed now z) ready r
    unfolding roster_after
    placed_up z at = record {
      number = number_of r w.instances z at;
      incarnation = ap (λ n. n + 1) (sym (incarnation_here r w.instances z at))
          ∙ sym (put_here (λ k. incarnation_at k w.instances) r (incarnation_at r w.instances + 1))
          ∙ same.incarnation r;
      known = sym (put_here (λ k. known_at k w.instances) r (newest_epoch (rings_on now))) ∙ same.known r;
    }

    up_ready : ready.roster.up r ≡ true
    unfolding roster_after
    up_ready = put_here p.roster.up r true

    turn_up : turn r ≡ just_opened (here_at ready p.clock r) (ready.at r)
    turn_up =
        let itself : nat_eq r r ≡ true = grind (arith, nat_tests) in
        ap (λ b. if b then at_restart r r (here_at ready p.clock r) (ready.at r) else stays (ready.at r)) up_ready
        ∙ ap (λ b. if b then just_opened (here_at ready p.clock r) (ready.at r)
        else other_restarted (here_at ready p.clock r) r (ready.at r)) itself

    -- it has what the cluster's has as it is opened
    here_before : here_at before p.clock r ≡ here_at ready p.clock r
    unfolding here_at
    here_before = refl

    rows_before : rows_of t old.pairs ≡ p.rows r
    rows_before = s.keeps r was_down was_clean

    alone_up : IsTurnAlone t v ready r (turn r) (turns.told r) w'
    alone_up =
        let at = first w w' r old new consistent.numbered exists turns on in
        let after = last w w' r old new consistent.numbered exists turns on in
        let came = comes w w' r old new consistent.numbered exists turns on in
        let placed = placed_up at.0 at.1 in
        let here : here_on now (renewed now at.0) t ≡ here_at ready p.clock r = here_is (renewed now at.0) r placed in
        let held : came.held t ≡ ready.at r =
        came.opens clean t ∙ (λ d. opened_with ((here ∙ sym here_before) d) (rows_before d))
        ∙ sym (put_here p.at r (opened_with (here_at before p.clock r) (p.rows r))) in
        let is : just_opened (here_on now (renewed now at.0) t) (came.held t) ≡ turn r =
        (λ d. just_opened (here d) (held d)) ∙ sym turn_up in
        let done = came.does t in
        record {
          local = local_here t r w'.instances after.0 after.1 ∙ done.local ∙ ap (λ (k : Reaction). k.local) is;
          fits = sym (ap (λ (k : Reaction). k.fits) is) ∙ done.fits;
          own = λ u later.
              ap (outputs_of t u) came.outputs
              ∙ of_tenant u (renewed now at.0) t came.all
              (opened_owned now (renewed now at.0) after.0 came.held came.all came.does u)
              ∙ (λ d. map (output_of t (placed.number d) (placed.incarnation d))
              ((done.says ∙ ap (λ (k : Reaction). k.said) is) d));
        }

    -- ---- each other one

    placed_other : (j : ℕ) → nat_eq j r ≡ false → (z : Instance) → instance_at j w.instances ≡ Some z
        → IsPlaced z ready j
    unfolding roster_after
    placed_other j apart z at = record {
      number = number_of j w.instances z at;
      incarnation = sym (incarnation_here j w.instances z at)
          ∙ sym (put_other (λ k. incarnation_at k w.instances) r j (incarnation_at r w.instances + 1) apart)
          ∙ same.incarnation j;
      known = sym (known_here j w.instances z at)
          ∙ sym (put_other (λ k. known_at k w.instances) r j (newest_epoch (rings_on now)) apart) ∙ same.known j;
    }

    up_other : (j : ℕ) → nat_eq j r ≡ false → ready.roster.up j ≡ up_at j w.instances
    unfolding roster_after
    up_other j apart = put_other p.roster.up r j true apart ∙ sym (s.stands.roster.up j)

    at_other : (j : ℕ) → nat_eq j r ≡ false → ready.at j ≡ p.at j
    at_other j apart = put_other p.at r j (opened_with (here_at before p.clock r) (p.rows r)) apart

    turn_follows : (j : ℕ) → nat_eq j r ≡ false → up_at j w.instances ≡ true
        → turn j ≡ other_restarted (here_at ready p.clock j) r (ready.at j)
    turn_follows j apart up =
        ap (λ b. if b then at_restart r j (here_at ready p.clock j) (ready.at j) else stays (ready.at j))
        (up_other j apart ∙ up)
        ∙ ap (λ b. if b then just_opened (here_at ready p.clock j) (ready.at j)
        else other_restarted (here_at ready p.clock j) r (ready.at j)) apart

    turn_idle : (j : ℕ) → nat_eq j r ≡ false → up_at j w.instances ≡ false → turn j ≡ stays (ready.at j)
    turn_idle j apart down =
        ap (λ b. if b then at_restart r j (here_at ready p.clock j) (ready.at j) else stays (ready.at j))
        (up_other j apart ∙ down)

    alone_follows : (j : ℕ) → nat_eq j r ≡ false → Follower j r now (turns.told j) w w'
        → IsTurnAlone t v ready j (turn j) (turns.told j) w'
    alone_follows j apart f =
        let placed = placed_other j apart f.x f.is_at in
        let have : local_in t f.x ≡ ready.at j =
        sym (local_here t j w.instances f.x f.is_at) ∙ s.stands.local j ∙ sym (at_other j apart) in
        let here : here_on now f.x t ≡ here_at ready p.clock j = here_is f.x j placed in
        let is : following now r f.x t ≡ turn j =
        (λ d. other_restarted (here d) r (have d))
        ∙ sym (turn_follows j apart (up_here j w.instances f.x f.is_at ∙ f.is_up)) in
        let done = f.follows.does t in
        record {
          local = local_here t j w'.instances f.y f.is_then ∙ done.local ∙ ap (λ (k : Reaction). k.local) is;
          fits = sym (ap (λ (k : Reaction). k.fits) is) ∙ done.fits;
          own = λ u later.
              says_as f.x (turns.told j) (following now r f.x) (follower_says j r now (turns.told j) w w' f) v u later
              (λ n. (follower_over v j r now (turns.told j) w w' f asked n).1) (follower_own now r f.x) t j
              (ready.roster.incarnation j) (turn j) placed.number placed.incarnation is;
        }

    alone_idle : (j : ℕ) → nat_eq j r ≡ false → Idle j (turns.told j) w w'
        → IsTurnAlone t v ready j (turn j) (turns.told j) w'
    unfolding local_at
    alone_idle j apart idle =
        let is : turn j ≡ stays (ready.at j) = turn_idle j apart idle.was_down in
        record {
          local = ap (local_where t) idle.same ∙ s.stands.local j ∙ sym (at_other j apart)
              ∙ sym (ap (λ (k : Reaction). k.local) is);
          fits = ap (λ (k : Reaction). k.fits) is;
          own = λ u later.
              ap (outputs_of t u) idle.quiet
              ∙ sym (ap (λ (k : Reaction). map (output_of t j (ready.roster.incarnation j)) k.said) is);
        }

    alone : (i : ℕ) → IsTurnAlone t v ready i (turn i) (turns.told i) w'
    alone =
        at_each (λ i. IsTurnAlone t v ready i (turn i) (turns.told i) w') r alone_up
        (λ j apart. elim (others_did w w' r old new consistent.numbered exists turns on j apart) [
          | inl f ↦ alone_follows j apart f
          | inr idle ↦ alone_idle j apart idle
        ])

    -- ---- all of them

    ready_named : NamesOnce ready
    unfolding roster_after
    ready_named = opened_kept r (Restarts r) p (λ j. refl) (λ j. refl) s.stands.named

    turns_ready : (i : ℕ) → Turn ready turn i
    turns_ready = turns_of (at_restart r) p.clock ready (λ i here. restart_counted r i here)

    its_own : (i : ℕ) → AreOf t (turn i).said
    unfolding here_at
    its_own i = by_up (ready.roster.up i)
      where
        by_up : (b : Bool) → AreOf t
            (if b then at_restart r i (here_at ready p.clock i) (ready.at i) else stays (ready.at i)).said
        by_up true =
            subst (λ n. AreOf n (at_restart r i (here_at ready p.clock i) (ready.at i)).said) s.stands.tenant
            (restart_own r i (here_at ready p.clock i) (ready.at i))
        by_up false = All-nil (IsOf t)

    outside_apart : (i : ℕ) → is_among i all_instances ≡ false → nat_eq i r ≡ false
    outside_apart i outside = elim (cases_Bool (nat_eq i r)) [
      | inl h ↦
          let is : i ≡ r = grind (arith, nat_tests) in
          absurd (true≢false (sym exists ∙ ap (λ k. is_among k all_instances) (sym is) ∙ outside))
      | inr h ↦ h
    ]

    nobody_up : (i : ℕ) → is_among i all_instances ≡ false → ready.roster.up i ≡ false
    unfolding up_at
    nobody_up i outside =
        up_other i (outside_apart i outside) ∙ ap up_where (nobody i w.instances consistent.numbered outside)

    early : nat_le (moment_after p.clock message_life) p.clock ≡ false
    early =
        let before_last : p.clock < greatest_moment =
        subst (λ m. m < greatest_moment) s.stands.clock (clock_before w consistent.clock) in
        just_sent p.clock p.clock (omega arith) before_last

    posted : IsPostedAlike t w' (react_all (at_restart r) p.clock ready).cluster
    unfolding react_all
    posted =
        all_posted ready turn turns_ready p.clock t v w.messages w'.messages turns.told ready_named early nobody_up
        its_own (λ i. (alone i).own v (later_itself v))
        (λ name. turns.posted name
        ∙ ap (λ m. posted_over m (turns.told name.from) name (posted_at name w.messages)) s.stands.clock)
        s.stands.posted

    stands : Stands t w' (react_all (at_restart r) p.clock ready).cluster
    unfolding react_all
    stands = record {
      tenant = s.stands.tenant;
      replicas_by = s.stands.replicas_by;
      service_key = ap (λ (c : Common). c.service_key) turns.beside.common ∙ s.stands.service_key;
      clock = turns.beside.clock ∙ s.stands.clock;
      limits = (λ d. limits_in (record w { common = turns.beside.common d }) t) ∙ s.stands.limits;
      roster = roster_then (roster_of w') (roster_after (Restarts r) (roster_of w)) before.roster
          (roster w w' r old new consistent.numbered exists turns on) same;
      local = λ i. (alone i).local;
      posted = posted;
      named = all_react_kept (at_restart r) p.clock ready (λ i here. restart_counted r i here) ready_named;
    }

    module _ (rest : (j : ℕ) → nat_eq j r ≡ false → shelf_at j news ≡ shelf_at j olds) where
      keeps : KeepsRows t (over w' news) (react_all (at_restart r) p.clock ready).cluster
      unfolding react_all
      keeps =
          at_each (λ j. up_at j w'.instances ≡ false → (shelf_at j news).is_clean ≡ true
          → rows_of t (shelf_at j news).pairs ≡ put_at p.rows r [] j) r
          (λ down own_clean. absurd (true≢false
          (sym (up_then w w' r old new consistent.numbered exists turns on) ∙ down)))
          (λ j apart down own_clean.
          ap (λ (shelf : Shelf). rows_of t shelf.pairs) (rest j apart)
          ∙ s.keeps j (sym (up_others w w' r old new consistent.numbered exists turns on j apart) ∙ down)
          (sym (ap (λ (shelf : Shelf). shelf.is_clean) (rest j apart)) ∙ own_clean)
          ∙ sym (put_other p.rows r j [] apart))

      told : (u : Watch) → Later v u → outputs_of t u (flat_map turns.told all_instances)
          ≡ (react_all (at_restart r) p.clock ready).outputs
      unfolding react_all
      told u later =
          outputs_each t u turns.told all_instances
          ∙ flat_same (λ i. outputs_of t u (turns.told i)) (λ i. put_out_at ready i (turn i).said) all_instances
          (λ i. (alone i).own u later
          ∙ (λ d. map (output_of (sym s.stands.tenant d) i (ready.roster.incarnation i)) (turn i).said))

      fits : (react_all (at_restart r) p.clock ready).fits ≡ true
      unfolding react_all
      fits = each_fits turn all_instances (λ i. (alone i).fits)

      changed_alone : IsChangedAlone t v p (Restarts r) (flat_map turns.told all_instances) (over w' news)
      unfolding changed
      changed_alone = record {
        stands = record { stands = stands; keeps = keeps };
        told = told;
        fits = fits;
      }

  -- ---- the whole event

  module _ (none : ring_event_refusal (Restarts r) (roster_of w) ≡ None)
      (never : (shelf_at r news).is_clean ≡ true → (shelf_at r olds).is_clean ≡ true)
      (rest : (j : ℕ) → nat_eq j r ≡ false → shelf_at j news ≡ shelf_at j olds) where
    store_clean : OpensClean (roster_of w) (Restart r) news → new.is_clean ≡ true
    store_clean clean =
        let itself : nat_eq r r ≡ true = grind (arith, nat_tests) in
        clean r (among_all r exists) (rw (itself, none) refl)

    pub kept_restart : fault_count w' ≡ fault_count w → Kept (over w olds) (Restart r) (over w' news)
    kept_restart counted =
        kept_changed (Restarts r) (over w olds) (over w' news) none (record {
          roster = roster w w' r old new consistent.numbered exists turns on;
          reading = λ v follows c j.
              reading w w' r old new consistent.numbered exists turns on c j ∙ follows.reading c j;
          asked = λ clean v asked.
              still w w' r old new consistent.numbered exists turns on (store_clean clean) v asked;
          outs = flat_map turns.told all_instances;
          appended = turns.appended;
          alone = λ clean t v p given.
              changed_alone t v p given.stands given.asked (store_clean clean) (never (store_clean clean)) rest;
          front = λ v asked u later.
              front_each u turns.told all_instances
              (fronts w w' r old new consistent.numbered exists turns on v asked u later);
          owned = λ v asked u later.
              owned_each u turns.told all_instances
              (owns w w' r old new consistent.numbered exists turns on v asked u later);
          clock = turns.beside.clock;
          limits = ap (λ (c : Common). c.limits) turns.beside.common;
          service_key = ap (λ (c : Common). c.service_key) turns.beside.common;
          refused = refused w w' r old new consistent.numbered exists turns on;
          faults = counted;
        })
