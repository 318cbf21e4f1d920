-- A join keeps the simulation: the instance comes into the ring, opens its store in its next incarnation, and asks.
use Rattle.std.proofs.Common.{◌≡◌, ◌∙◌, ℕ, ◌+◌, ◌≤◌, ◌==◌, nat_eq, true, false, List, [], ◌∷◌, ◌++◌, find, map}
use Rattle.std.proofs.Common.{Option, None, Some, refl, sym, ap, subst, arith, if◌then◌else◌}
use Rattle.std.specs.Prelude.{nat_le}
use Rattle.std.proofs.lemmas.Bool.{true≢false}
use Rattle.std.proofs.lemmas.Bool.Decides.{nat_tests}
use Rattle.std.proofs.lemmas.List.Elements.{All-weaker}
use Rattle.am_cluster.proofs.Counted.{just_opened_counted}
use Rattle.am_cluster.proofs.Named.{one_kept, opened_kept}
use Rattle.am_cluster.proofs.Names.{as_sent, new_named}
use Rattle.am_cluster.proofs.Posting.{said_is_new}
use Rattle.am_cluster.proofs.Replied.{rows_over}
use Rattle.am_cluster.proofs.ReplyTurns.{just_opened_over}
use Rattle.am_cluster.proofs.Watched.{after_same}
use Rattle.am_cluster.specs.Courses.{changed, with_event}
use Rattle.am_cluster.specs.Events.{Join, Output}
use Rattle.am_cluster.specs.Local.{Local}
use Rattle.am_cluster.specs.Moments.{last_moment}
use Rattle.am_cluster.specs.Naming.{NamesOnce}
use Rattle.am_cluster.specs.Outputs.{are_owned, front_outputs, outputs_of}
use Rattle.am_cluster.specs.PrivateCluster.{Course, PrivateCluster, here_at, output_of, react_one, unchanged}
use Rattle.am_cluster.specs.PrivateCluster.{with_opened}
use Rattle.am_cluster.specs.Reactions.{Reaction, messages_in}
use Rattle.am_cluster.specs.Replying.{WaitOver}
use Rattle.am_cluster.specs.RingChanges.{just_opened, opened as opened_with}
use Rattle.am_cluster.specs.Roster.{IsSameRoster, Joins, put_at}
use Rattle.am_cluster.specs.Roster.{ring_event_refusal, roster_after, with_opened_in}
use Rattle.am_cluster.specs.Sent.{is_named, sent_at}
use Rattle.am_cluster.specs.View.{Watch}
use Rattle.am_http.specs.Connections.{bytes_of}
use Rattle.am_item.specs.Retirement.{moment_after}
use Rattle.am_limit.specs.Books.{limits_of}
use Rattle.am_messages.specs.Posted.{message_life}
use Rattle.am_messages.specs.declared.messages.Posted.{Posted}
use Rattle.am_messages.specs.declared.name.MessageName.{MessageName}
use Rattle.am_ring.specs.Changes.{with_instance}
use Rattle.am_ring.specs.Instances.{all_instances}
use Rattle.am_rows.specs.Rows.{rows_of}
use Rattle.am_instance.specs.Changing.{OpensAnew, renewed}
use Rattle.am_instance.specs.Here.{Circumstances, here_on, rings_on}
use Rattle.am_instance.specs.Instance.{IsSameNode, local_in}
use Rattle.am_instance.specs.Shelves.{Shelf}
use Rattle.am_instance.specs.Ticks.{said_of}
use Rattle.am_instance.specs.declared.instance.Instance.{Instance}
use Rattle.am_world.specs.Changes.{OpensClean}
use Rattle.am_world.specs.Changing.{incarnations_with}
use Rattle.am_world.specs.Consistent.{newest_in, over}
use Rattle.am_world.specs.Places.{AreNumbered, ChangesAt, bytes_at, incarnation_at, instance_at, local_at, up_at}
use Rattle.am_world.specs.Places.{up_where}
use Rattle.am_world.specs.Posting.{Posts, posted_over, unlost_sent}
use Rattle.am_world.specs.Shelves.{shelf_at}
use Rattle.am_world.specs.Simulation.{AreAsked, IsAskerOf, IsPostedAlike, KeepsRows, Stands, StandsOver, fault_count}
use Rattle.am_world.specs.Simulation.{put_out, roster_of}
use Rattle.am_world.specs.Steps.{Kept}
use Rattle.am_world.specs.declared.state.State.{State}
use Rattle.am_world.proofs.Alone.{own_messages}
use Rattle.am_world.proofs.AloneKept.{clock_before}
use Rattle.am_world.proofs.AloneOwn.{AreOf, IsOf}
use Rattle.am_world.proofs.AlonePlaces.{at_each, bytes_here, bytes_other, incarnation_here}
use Rattle.am_world.proofs.AlonePlaces.{incarnations_are}
use Rattle.am_world.proofs.AlonePlaces.{known_here, local_here, local_other, map_alike, refused_here}
use Rattle.am_world.proofs.AlonePlaces.{refused_then, up_here}
use Rattle.am_world.proofs.ComesUp.{IsAskOf, asks_own, incarnations_then, opened_alike, opened_only, opened_owned}
use Rattle.am_world.proofs.InstancesLemmas.{number_of}
use Rattle.am_world.proofs.AlonePlaces.{roster_then as same_then}
use Rattle.am_world.proofs.NotRefused.{Becomes, IsChangedAlone, kept_changed}
use Rattle.am_world.proofs.Placed.{there}
use Rattle.am_world.proofs.Posted.{just_sent, posted_alike, posted_of_own}
use Rattle.am_world.proofs.Rostered.{opened_roster, put_here, put_other, stays_so, up_instance}
use Rattle.am_world.proofs.TickSaid.{of_front, of_somebody, of_tenant}

-- ---- one came up

-- the instance of a number, which was down, opened its store, of which this was and is seen, and asked; it goes by this
pub record CameUp (i : ℕ) (around : Circumstances) (old new : Shelf) (w w' : State) : Type 0 where
  pub numbered : AreNumbered w.instances
  pub early : w.clock ≤ last_moment
  pub x : Instance
  pub y : Instance
  pub is_at : instance_at i w.instances ≡ Some x
  pub is_then : instance_at i w'.instances ≡ Some y
  pub was_down : x.up ≡ false
  pub told : List Output
  pub opens : OpensAnew around new.is_clean old.pairs (renewed around x) y [] told
  pub node : IsSameNode (renewed around x) y
  pub change : ChangesAt i w.instances w'.instances
  pub posts : Posts w.clock told w.messages w'.messages
  pub appended : put_out w' ≡ put_out w ++ told
  pub faults : fault_count w' ≡ fault_count w
  pub clock : w'.clock ≡ w.clock
  pub limits : w'.common.limits ≡ w.common.limits
  pub service_key : w'.common.service_key ≡ w.common.service_key
  pub first : w'.common.first ≡ w.common.first
  pub at_moment : around.moment ≡ w.clock
  pub by_limits : around.limits ≡ w.common.limits
  pub by_rings : (roster_of w').rings ≡ rings_on around
  pub by_first : around.first ≡ w.common.first
  pub by_incarnations : around.incarnations ≡ incarnations_with i w.instances

module _ (i : ℕ) (around : Circumstances) (old new : List Shelf) (w w' : State)
    (came : CameUp i around (shelf_at i old) (shelf_at i new) w w') where
  abbrev z : Instance
  z = renewed around came.x

  bytes_stay : (d j : ℕ) → bytes_at d j w'.instances ≡ bytes_at d j w.instances
  bytes_stay d =
      at_each (λ j. bytes_at d j w'.instances ≡ bytes_at d j w.instances) i
      (bytes_here d i w'.instances came.y came.is_then ∙ ap (bytes_of d) came.opens.front
      ∙ sym (bytes_here d i w.instances came.x came.is_at))
      (λ j apart. bytes_other d i j w.instances w'.instances came.change.others apart)

  pub silent_front : (u : Watch) → front_outputs u came.told ≡ []
  silent_front u =
      ap (front_outputs u) came.opens.outputs
      ∙ of_front u z came.opens.all (opened_owned around z came.y came.opens.held came.opens.all came.opens.does u)

  pub told_owned : (u : Watch) → are_owned u came.told ≡ true
  told_owned u =
      ap (are_owned u) came.opens.outputs
      ∙ of_somebody u z came.opens.all (opened_owned around z came.y came.opens.held came.opens.all came.opens.does u)

  waits : (new_clean : (shelf_at i new).is_clean ≡ true) (v : Watch) (t : List ℕ)
      → WaitOver (λ c request. IsAskerOf v t c) (local_in t came.y).operations
  waits new_clean v t =
      subst (λ (l : Local). WaitOver (λ c request. IsAskerOf v t c) l.operations)
      (sym (came.opens.does t).local)
      (just_opened_over (λ c request. IsAskerOf v t c) (here_on around z t) (came.opens.held t)
      (subst (λ (l : Local). WaitOver (λ c request. IsAskerOf v t c) l.operations)
      (sym (came.opens.opens new_clean t))
      (rows_over (λ c request. IsAskerOf v t c) (here_on around z t)
      (rows_of t (shelf_at i old).pairs)))).0

  pub asked_up : (shelf_at i new).is_clean ≡ true → (v : Watch) → AreAsked v w → AreAsked v w'
  asked_up new_clean v asked t =
      at_each (λ j. WaitOver (λ c request. IsAskerOf v t c) (local_at t j w'.instances).operations) i
      (subst (λ (l : Local). WaitOver (λ c request. IsAskerOf v t c) l.operations)
      (sym (local_here t i w'.instances came.y came.is_then)) (waits new_clean v t))
      (λ j apart. subst (λ (l : Local). WaitOver (λ c request. IsAskerOf v t c) l.operations)
      (sym (local_other t i j w.instances w'.instances came.change.others apart)) (asked t j))

  -- ---- by a join

  module _ (none : ring_event_refusal (Joins i) (roster_of w) ≡ None)
      (rings : rings_on around ≡ (roster_of w).rings ++ with_instance i (newest_in w.common) ∷ [])
      (never : (shelf_at i new).is_clean ≡ true → (shelf_at i old).is_clean ≡ true)
      (others : (j : ℕ) → (j == i) ≡ false → shelf_at j new ≡ shelf_at j old) where
    roster : IsSameRoster (roster_of w') (roster_after (Joins i) (roster_of w))
    unfolding roster_after
    roster =
        subst (λ rs. IsSameRoster (roster_of w') (with_opened_in rs i (roster_of w))) rings
        (opened_roster i w w' came.x came.y came.is_at came.is_then came.first
        (stays_so i w.instances w'.instances came.change.others) around came.node came.opens.starts.up came.by_rings)

    store_clean : OpensClean (roster_of w) (Join i) new → (shelf_at i new).is_clean ≡ true
    store_clean clean =
        let itself : nat_eq i i ≡ true = grind (arith, nat_tests) in
        clean i (up_instance w i came.x came.numbered came.is_at) (rw (itself, none) refl)

    -- ---- of a tenant

    module _ (new_clean : (shelf_at i new).is_clean ≡ true) (t : List ℕ) (p : PrivateCluster)
        (s : StandsOver t (over w old) p) where
      -- the cluster before the instance is opened, and then
      abbrev before : PrivateCluster
      before = with_event (Joins i) p

      abbrev ready : PrivateCluster
      ready = with_opened i before

      same : IsSameRoster (roster_of w') before.roster
      same =
          same_then (roster_of w') (roster_after (Joins i) (roster_of w)) before.roster roster
          (after_same (Joins i) (roster_of w) p.roster s.stands.roster)

      number : z.number ≡ i
      number = number_of i w.instances came.x came.is_at

      k : z.incarnation ≡ before.roster.incarnation i
      k = sym came.node.incarnation ∙ sym (incarnation_here i w'.instances came.y came.is_then) ∙ same.incarnation i

      here_is : here_on around z t ≡ here_at before p.clock i
      here_is =
          opened_alike t around z before p.clock i s.stands.tenant s.stands.replicas_by
          (came.at_moment ∙ s.stands.clock)
          (ap (limits_of t) came.by_limits ∙ s.stands.limits)
          number k
          (sym came.node.known ∙ sym (known_here i w'.instances came.y came.is_then) ∙ same.known i)
          (sym came.by_rings ∙ same.rings) (came.by_first ∙ sym came.first ∙ same.first)
          (came.by_incarnations
          ∙ incarnations_then i w.instances w'.instances came.x came.y came.numbered came.change.numbered came.is_at
          came.is_then came.node.incarnation came.change.others
          ∙ incarnations_are w'.instances came.change.numbered
          ∙ map_alike (λ j. incarnation_at j w'.instances) before.roster.incarnation all_instances same.incarnation)

      here_ready : here_at before p.clock i ≡ here_at ready p.clock i
      unfolding here_at
      here_ready = refl

      rows_before : rows_of t (shelf_at i old).pairs ≡ p.rows i
      rows_before =
          s.keeps i (up_here i w.instances came.x came.is_at ∙ came.was_down) (never new_clean)

      held_is : came.opens.held t ≡ ready.at i
      held_is =
          came.opens.opens new_clean t
          ∙ (λ d. opened_with (here_is d) (rows_before d))
          ∙ sym (put_here p.at i (opened_with (here_at before p.clock i) (p.rows i)))

      abbrev turn : Reaction
      turn = just_opened (here_at ready p.clock i) (ready.at i)

      turn_is : just_opened (here_on around z t) (came.opens.held t) ≡ turn
      turn_is = λ d. just_opened ((here_is ∙ here_ready) d) (held_is d)

      said_is : said_of t came.opens.all ≡ turn.said
      said_is = (came.opens.does t).says ∙ ap (λ (r : Reaction). r.said) turn_is

      local_is : local_in t came.y ≡ turn.local
      local_is = (came.opens.does t).local ∙ ap (λ (r : Reaction). r.local) turn_is

      ready_up : ready.roster.up i ≡ true
      unfolding roster_after
      ready_up = put_here p.roster.up i true

      ready_named : NamesOnce ready
      unfolding roster_after
      ready_named = opened_kept i (Joins i) p (λ j. refl) (λ j. refl) s.stands.named

      course_is : changed (Joins i) p ≡ react_one just_opened p.clock i ready
      unfolding changed
      course_is = ap (λ b. if b then react_one just_opened p.clock i ready else unchanged ready) ready_up

      own_told : (u : Watch) → outputs_of t u came.told ≡ (react_one just_opened p.clock i ready).outputs
      unfolding react_one
      own_told u =
          ap (outputs_of t u) came.opens.outputs
          ∙ of_tenant u z t came.opens.all
          (opened_owned around z came.y came.opens.held came.opens.all came.opens.does u)
          ∙ (λ d. map (output_of (sym s.stands.tenant d) (number d) (k d)) (said_is d))

      own_fits : (react_one just_opened p.clock i ready).fits ≡ true
      unfolding react_one
      own_fits = sym (ap (λ (r : Reaction). r.fits) turn_is) ∙ (came.opens.does t).fits

      posted : IsPostedAlike t w' (react_one just_opened p.clock i ready).cluster
      unfolding react_one here_at as_sent
      posted from e to count =
          let name : MessageName =
          record { tenant = t; from = from; incarnation = e; to = to; count = count } in
          let nobody : Watch = record { table = []; roster = p.roster } in
          let there : Option Posted = unlost_sent p.clock (find (is_named from e to count) p.sent) in
          let counted = just_opened_counted (here_at ready p.clock i) (ready.at i) in
          came.posts name
          ∙ ap (posted_over w.clock came.told name) (s.stands.posted from e to count)
          ∙ posted_of_own w.clock nobody came.told name there
          ∙ ap (λ os. posted_over w.clock os name there) (own_told nobody)
          ∙ ap (λ n. posted_over w.clock (map (output_of n i (before.roster.incarnation i)) turn.said) name there)
          s.stands.tenant
          ∙ posted_alike w.clock p.clock t from e to count
          (subst (λ clock. nat_le (moment_after w.clock message_life) clock ≡ false) s.stands.clock
          (just_sent w.clock w.clock (omega arith) (clock_before w came.early)))
          i (before.roster.incarnation i) turn.said p.sent
          (own_messages t turn.said
          (subst (λ n. AreOf n turn.said) s.stands.tenant
          (All-weaker (IsAskOf p.tenant) (IsOf p.tenant) (asks_own p.tenant) turn.said
          (opened_only (here_at ready p.clock i) (ready.at i)))))
          (λ m among. (said_is_new ready w.clock i turn ready_named ready_up counted m among).0)
          (new_named i (before.roster.incarnation i) (ready.at i).ledger.messages turn.local.ledger.messages w.clock
          (messages_in turn.said) counted)
          ∙ ap (λ m. unlost_sent p.clock (find (is_named from e to count) (p.sent ++ sent_at m turn.said)))
          s.stands.clock

      stands_up : Stands t w' (react_one just_opened p.clock i ready).cluster
      unfolding react_one
      stands_up = record {
        tenant = s.stands.tenant;
        replicas_by = s.stands.replicas_by;
        service_key = came.service_key ∙ s.stands.service_key;
        clock = came.clock ∙ s.stands.clock;
        limits = ap (limits_of t) came.limits ∙ s.stands.limits;
        roster = same;
        local = at_each (λ j. local_at t j w'.instances ≡ put_at ready.at i turn.local j) i
            (local_here t i w'.instances came.y came.is_then ∙ local_is ∙ sym (put_here ready.at i turn.local))
            (λ j apart. local_other t i j w.instances w'.instances came.change.others apart ∙ s.stands.local j
            ∙ sym (put_other p.at i j (opened_with (here_at before p.clock i) (p.rows i)) apart)
            ∙ sym (put_other ready.at i j turn.local apart));
        posted = posted;
        named = one_kept just_opened p.clock i ready just_opened_counted ready_up ready_named;
      }

      keeps_up : KeepsRows t (over w' new) (react_one just_opened p.clock i ready).cluster
      unfolding react_one up_at
      keeps_up =
          at_each (λ j. up_at j w'.instances ≡ false → (shelf_at j new).is_clean ≡ true
          → rows_of t (shelf_at j new).pairs ≡ put_at p.rows i [] j) i
          (λ off clean.
          absurd (true≢false (sym (up_here i w'.instances came.y came.is_then ∙ came.opens.starts.up) ∙ off)))
          (λ j apart off clean.
          ap (λ (shelf : Shelf). rows_of t shelf.pairs) (others j apart)
          ∙ s.keeps j (sym (ap up_where (came.change.others j apart)) ∙ off)
          (sym (ap (λ (shelf : Shelf). shelf.is_clean) (others j apart)) ∙ clean)
          ∙ sym (put_other p.rows i j [] apart))

      alone_up : (v : Watch) → IsChangedAlone t v p (Joins i) came.told (over w' new)
      alone_up v =
          let cluster = sym (ap (λ (q : Course). q.cluster) course_is) in
          record {
            stands = record {
              stands = subst (Stands t w') cluster stands_up;
              keeps = subst (KeepsRows t (over w' new)) cluster keeps_up;
            };
            told = λ u later. own_told u ∙ sym (ap (λ (q : Course). q.outputs) course_is);
            fits = ap (λ (q : Course). q.fits) course_is ∙ own_fits;
          }

    -- ---- the event

    becomes_up : Becomes (Joins i) (over w old) (over w' new)
    becomes_up = record {
      roster = roster;
      reading = λ v follows d j. bytes_stay d j ∙ follows.reading d j;
      asked = λ clean. asked_up (store_clean clean);
      outs = came.told;
      appended = came.appended;
      alone = λ clean t v p given. alone_up (store_clean clean) t p given.stands v;
      front = λ v asked u later. silent_front u;
      owned = λ v asked u later. told_owned u;
      clock = came.clock;
      limits = came.limits;
      service_key = came.service_key;
      refused = refused_then i w.instances w'.instances
          (refused_here i w'.instances came.y came.is_then ∙ came.opens.starts.refused
          ∙ sym (refused_here i w.instances came.x came.is_at))
          came.change.others;
      faults = came.faults;
    }

    pub kept_join : Kept (over w old) (Join i) (over w' new)
    kept_join = kept_changed (Joins i) (over w old) (over w' new) none becomes_up
