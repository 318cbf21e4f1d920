-- What an instance does for its notices is what its node does of its own, and what is said of that.
use Rattle.std.proofs.Common.{◌≡◌, ℕ, ◌<◌, Bool, ◌&&◌, true, false, List, [], ◌∷◌, ◌++◌, length, map, Option, Some, None, ap, append-nil, refl, sym, ◌∙◌}
use Rattle.std.specs.List.{filter_map}
use Rattle.am_agenda.specs.Plan.{Plan, flush_due, group_in}
use Rattle.am_cluster.specs.Delivery.{recorded, told}
use Rattle.am_cluster.specs.Flushing.{flushed}
use Rattle.am_cluster.specs.Here.{Here, others, replica_here}
use Rattle.am_cluster.specs.Local.{Local}
use Rattle.am_cluster.specs.Messages.{Put}
use Rattle.am_cluster.specs.Plans.{grouped_of, plan_of, position_of, replica_local, said_by, with_replica}
use Rattle.am_cluster.specs.Reactions.{Reaction, each, only_if, ◌>>◌}
use Rattle.am_current.specs.Current.{configuration_in}
use Rattle.am_item.specs.declared.entry.EntryKey.{EntryKey}
use Rattle.am_labels.specs.declared.Label.{Label}
use Rattle.am_limit.specs.Allowances.{asked}
use Rattle.am_limit.specs.Limits.{has_room, with_limit}
use Rattle.am_members.specs.declared.group.Group.{Group}
use Rattle.am_node.specs.Delivery.{at_desk, entry_of as entry_in_node, notified, recorded as recorded_in_node, retried as retried_in_node, started_if, tells, told as told_in_node}
use Rattle.am_node.specs.Flushing.{begun as begun_in_node, flushed as flushed_in_node, members_but}
use Rattle.am_node.specs.Local.{Local as NodeLocal, Reaction as NodeReaction, said_in}
use Rattle.am_node.specs.Plans.{IsPlanned}
use Rattle.am_node.specs.Ticking.{flushed_if, handled}
use Rattle.am_node.specs.declared.report.Report.{Report}
use Rattle.am_notifier.specs.Flushing.{sent_among}
use Rattle.am_outlet.specs.Attempts.{after_tick, is_due, next_of}
use Rattle.am_outlet.specs.declared.attempt.Sending.{Sending}
use Rattle.am_outlet.specs.declared.attempt.Notice.{Notice}
use Rattle.am_item.specs.Counts.{count_of}
use Rattle.am_item.specs.declared.fault.Fault.{Fault}
use Rattle.am_item.specs.declared.fault.Fault.TheVariants.{OutOfMemory, CountsExhausted, PatternNotBuilt, StoreRefused}
use Rattle.am_node.specs.Held.{Does as NodeDoes, StopsFor, local_of as local_in_node}
use Rattle.am_node.specs.declared.parts.Parts.{Parts}
use Rattle.am_quorum.specs.Dockets.{Docket, docket_of}
use Rattle.am_telling.specs.Tellings.{tellings}
use Rattle.am_telling.specs.declared.telling.Telling.{Telling}
use Rattle.am_telling.specs.declared.telling.Telling.TheVariants.{Notify, Keep}
use Rattle.am_timer.specs.Timer.{Key}
use Rattle.am_timer.specs.declared.key.FlushKey.{FlushKey}
use Rattle.am_timer.specs.declared.key.TimerKey.TheVariants.{Operation as OperationKey, Group as GroupKey, Retry as RetryKey, Push as PushKey}
use Rattle.am_transfer.specs.Settling.{Settling}
use Rattle.am_transfer.specs.Tenants.{settling_of}
use Rattle.am_site.specs.Locals.{from_rooms, local_of}
use Rattle.am_site.specs.Notices.{notified_for, reported}
use Rattle.am_site.specs.Reacting.{Does, Reacts, StopsReacting}
use Rattle.am_site.specs.declared.said.Said.{Said as Spoken}
use Rattle.am_site.specs.declared.site.Site.{Site}
use Rattle.am_site.proofs.Carrying.{with_node}
use Rattle.am_site.proofs.Planned.{by_alerts, none_planned, not_due, same_plan}
use Rattle.am_site.proofs.Delivered.{by_node, node_does, node_reaction}
use Rattle.am_site.proofs.Positions.{handled_stays}
use Rattle.am_site.proofs.Reacting.{and_true, in_turn_reacts, quiet, reacts_from, stops_from, stops_second}
use Rattle.am_site.proofs.Talking.{IsLifted, all_spoken, each_lifted, lifted, posted, posts, reported_spoken, spoken, talk}

module _ (here : Here) (d : Docket) (g : Settling) where
  -- ---- what is told

  abbrev counted : NodeLocal → NodeLocal
  counted local = record local { noticed = asked here.limits.notices here.moment local.noticed }

  abbrev started : (b : Bool) → Notice → NodeLocal → ℕ → Reaction
  started b notice node n =
      let r : NodeReaction = started_if b notice (counted (replica_local here (from_rooms node d n g))) in
      record { local = with_replica r.local (from_rooms node d n g); said = filter_map said_by r.said; fits = r.fits }

  started_lifted : (b : Bool) (notice : Notice) (node : NodeLocal) (n : ℕ) → started b notice node n ≡ lifted here d g (started_if b notice (counted node)) n
  unfolding plan_of grouped_of
  started_lifted true notice node n =
      let r = started_if true notice (counted node) in
      ap (λ fits. let whole : Reaction = record { local = from_rooms r.local d n g; said = filter_map said_by r.said; fits = fits } in whole) (sym (and_true r.fits))
  started_lifted false notice node n = refl

  notified_lifted : (notice : Notice) → IsLifted here d g (told here (Notify notice)) (told_in_node (replica_here here) (Notify notice))
  unfolding notified
  notified_lifted notice node n = started_lifted (has_room (with_limit node.noticed here.limits.notices) here.moment) notice node n

  recorded_lifted : (key : EntryKey) (firing resolved : List (List Label)) (span : ℕ)
      → IsLifted here d g (recorded here key firing resolved span) (recorded_in_node (replica_here here) key firing resolved span)
  unfolding recorded recorded_in_node plan_of grouped_of
  recorded_lifted key firing resolved span node n =
      let r = recorded_in_node (replica_here here) key firing resolved span node in
      let entry = entry_in_node (replica_here here) key firing resolved span node in
      let post = posts here (Put 0 (entry ∷ [])) (others here) n in
      ap (λ (p : Reaction). let whole : Reaction = record { local = p.local; said = p.said; fits = r.fits && p.fits } in whole)
      (posted here d g (Put 0 (entry ∷ [])) (others here) r.local n)
      ∙ ap (λ said. let whole : Reaction = record { local = from_rooms r.local d post.sent g; said = said; fits = r.fits && post.fits } in whole) (sym (append-nil post.said))
      ∙ ap (λ b. let whole : Reaction = record { local = from_rooms r.local d post.sent g; said = post.said ++ []; fits = r.fits && b } in whole) (sym (and_true post.fits))

  told_lifted : (telling : Telling) → IsLifted here d g (told here telling) (told_in_node (replica_here here) telling)
  told_lifted (Notify notice) = notified_lifted notice
  told_lifted (Keep key span) = recorded_lifted key [] [] span

  -- ---- what is planned here is what the node has planned

  module _ (node : NodeLocal) (n : ℕ) (planned : IsPlanned node) where
    abbrev l : Local
    l = from_rooms node d n g

    abbrev lifted_node : (muted : List (List Label)) → Key → Reaction
    lifted_node muted key = lifted here d g (handled (replica_here here) muted key node) n

    -- .. where groups wait by its position
    module _ (positioned : node.position ≡ position_of here l) where
      same_replica : replica_local here l ≡ node
      same_replica =
          ap (λ plan. let local : NodeLocal = record { held = node.held; plan = plan; noticed = node.noticed; position = position_of here l; ledger = node.ledger } in local)
          (same_plan here node d n g planned positioned)
          ∙ ap (λ position. let local : NodeLocal = record { held = node.held; plan = node.plan; noticed = node.noticed; position = position; ledger = node.ledger } in local) (sym positioned)

      flushed_lifted : (muted : List (List Label)) (group : Group) → flushed here muted group l ≡ lifted here d g (flushed_in_node (replica_here here) muted group node) n
      unfolding flushed flushed_in_node
      flushed_lifted muted group =
          ap (λ (r : NodeLocal). each (told here) (tellings (configuration_in node.held) group (sent_among node.held) (members_but muted group r) here.moment)
          (with_replica (begun_in_node (replica_here here) group r) l)) same_replica
          ∙ each_lifted here d g (told here) (told_in_node (replica_here here)) told_lifted
          (tellings (configuration_in node.held) group (sent_among node.held) (members_but muted group node) here.moment)
          (begun_in_node (replica_here here) group node) n

      flush_lifted : (muted : List (List Label)) (group : Group) (b : Bool)
          → only_if b (flushed here muted group) l ≡ lifted here d g (flushed_if b (replica_here here) muted group node) n
      flush_lifted muted group true = flushed_lifted muted group
      flush_lifted muted group false = refl

      group_lifted : (muted : List (List Label)) (key : FlushKey) → notified_for here muted (GroupKey key) l ≡ lifted_node muted (GroupKey key)
      unfolding handled
      group_lifted muted key =
          ap (λ (plan : Plan). only_if (is_due here.moment (flush_due plan.paces plan.grouped key)) (flushed here muted (group_in key)) l) (same_plan here node d n g planned positioned)
          ∙ flush_lifted muted (group_in key) (is_due here.moment (flush_due node.plan.paces node.plan.grouped key))

    -- .. where no alert is held, so that no flush is due
    no_flush : (muted : List (List Label)) (key : FlushKey) → node.plan.grouped.alerts ≡ [] → notified_for here muted (GroupKey key) l ≡ lifted_node muted (GroupKey key)
    unfolding handled
    no_flush muted key none =
        ap (λ due. only_if (is_due here.moment due) (flushed here muted (group_in key)) l) (not_due (plan_of here l) key (none_planned here node d n g planned none))
        ∙ sym (ap (λ due. lifted here d g (flushed_if (is_due here.moment due) (replica_here here) muted (group_in key) node) n) (not_due node.plan key none))

    abbrev next : (number : ℕ) → NodeLocal
    next number = at_desk (after_tick number here.moment node.plan.desk) node

    retried_lifted : (number : ℕ) (sending : Option Sending)
        → (let r : Reaction = record { local = from_rooms (next number) d n g; said = filter_map said_by (tells sending); fits = true } in r)
        ≡ lifted here d g (record { local = next number; said = tells sending; fits = true }) n
    retried_lifted number None = refl
    retried_lifted number (Some sending) = refl

    abbrev pub node_first : NodeReaction → Local → Reaction
    node_first r _ = by_node r d n g

    module _ (waits : 0 < length l.sinces → node.position ≡ position_of here l) where
      pub notified_as : (muted : List (List Label)) (key : Key) → notified_for here muted key l ≡ lifted_node muted key
      unfolding handled retried_in_node plan_of grouped_of
      notified_as muted (OperationKey number) = refl
      notified_as muted (GroupKey key) =
          by_alerts here node d n g planned waits (notified_for here muted (GroupKey key) l ≡ lifted_node muted (GroupKey key)) (no_flush muted key)
          (λ positioned. group_lifted positioned muted key)
      notified_as muted (RetryKey number) = retried_lifted number (next_of number here.moment node.plan.desk)
      notified_as muted (PushKey to) = refl

      -- what comes of the node's part, and of what is reported of it
      pub notices_as : (muted : List (List Label)) (key : Key) (reports : List Report) → map said_in reports ≡ (handled (replica_here here) muted key node).said
          → (node_first (handled (replica_here here) muted key node) >> each (reported here) reports) l ≡ notified_for here muted key l
      notices_as muted key reports is =
          let r = handled (replica_here here) muted key node in
          ap (λ (said : Reaction). let whole : Reaction = record { local = said.local; said = said.said; fits = r.fits && said.fits } in whole) (reported_spoken here reports (from_rooms r.local d n g)
          ∙ ap (λ said. each (spoken here) said (from_rooms r.local d n g)) is
          ∙ all_spoken here d g r.said r.local n)
          ∙ sym (notified_as muted key)

-- ---- of all tenants

module _ (tenant : List ℕ) (here : Here) (muted : List (List Label)) (key : Key) (old : Site) (planned : IsPlanned (local_in_node tenant old.node))
    (waits : 0 < length (local_of tenant old).sinces → (local_in_node tenant old.node).position ≡ position_of here (local_of tenant old)) where
  abbrev own_part : NodeReaction
  own_part = handled (replica_here here) muted key (local_in_node tenant old.node)

  -- why it stops in the node
  pub notice_fault : (fault : Fault) → StopsFor own_part fault → StopsReacting tenant (notified_for here muted key) old fault
  unfolding local_of
  notice_fault OutOfMemory stops = tt
  notice_fault CountsExhausted stops =
      let n = count_of tenant old.sent in
      ap (λ (r : Reaction). r.fits)
      (notified_as here (docket_of tenant old.operations) (settling_of tenant old.settling.progress) (local_in_node tenant old.node) n planned waits muted key)
      ∙ ap (λ b. b && (talk here own_part.said n).fits) stops
  notice_fault PatternNotBuilt stops = stops
  notice_fault StoreRefused stops = stops

  module _ (node : Parts) (x : List Spoken) (does : NodeDoes tenant (handled (replica_here here) muted key) old.node node) (fits : own_part.fits ≡ true)
      (reports : List Report) (is : map said_in reports ≡ own_part.said) where
    abbrev first : Local → Reaction
    first = node_reaction tenant old own_part

    first_done : Does tenant first old (with_node old node)
    first_done = node_does tenant old (handled (replica_here here) muted key) node does fits (handled_stays (replica_here here) muted key)

    both_as : (first >> each (reported here) reports) (local_of tenant old) ≡ notified_for here muted key (local_of tenant old)
    unfolding local_of
    both_as = notices_as here (docket_of tenant old.operations) (settling_of tenant old.settling.progress) (local_in_node tenant old.node) (count_of tenant old.sent)
        planned waits muted key reports is

    pub notice_done : (new : Site) (y : List Spoken) → Reacts tenant (each (reported here) reports) (with_node old node) new x y
        → Reacts tenant (notified_for here muted key) old new x y
    notice_done new y said =
        reacts_from tenant (first >> each (reported here) reports) (notified_for here muted key) old both_as new x y
        (in_turn_reacts tenant first (each (reported here) reports) old (with_node old node) x x new y (quiet tenant first old (with_node old node) x first_done) said)

    pub notice_stops : (fault : Fault) → StopsReacting tenant (each (reported here) reports) (with_node old node) fault
        → StopsReacting tenant (notified_for here muted key) old fault
    notice_stops fault stops =
        stops_from tenant (first >> each (reported here) reports) (notified_for here muted key) old both_as fault
        (stops_second tenant first (each (reported here) reports) old (with_node old node) x x fault (quiet tenant first old (with_node old node) x first_done) stops)
