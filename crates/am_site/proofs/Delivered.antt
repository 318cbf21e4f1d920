-- What becomes of the outcome of a try: what the node does of its own, and the record that is put to the others.
use Rattle.std.proofs.Common.{◌≡◌, ℕ, true, false, List, [], Option, Some, None, ap, refl}
use Rattle.am_cluster.specs.Delivery.{concluded, outcome, recorded}
use Rattle.am_cluster.specs.Here.{Here, replica_here}
use Rattle.am_cluster.specs.Local.{Local}
use Rattle.am_cluster.specs.Plans.{grouped_of, plan_of}
use Rattle.am_cluster.specs.Reactions.{Reaction, ◌>>◌}
use Rattle.am_context.proofs.Changes.{one_changes, other, own}
use Rattle.am_item.specs.Counts.{count_of}
use Rattle.am_item.specs.declared.entry.EntryKey.{EntryKey}
use Rattle.am_item.specs.declared.fault.Fault.{Fault}
use Rattle.am_item.specs.declared.fault.Fault.TheVariants.{OutOfMemory, CountsExhausted, PatternNotBuilt, StoreRefused}
use Rattle.am_item.specs.declared.item.Item.{Item}
use Rattle.am_labels.specs.declared.Label.{Label}
use Rattle.am_node.specs.Delivery.{at_desk, outcome as outcome_in_node, recorded as recorded_in_node, records, settled}
use Rattle.am_node.specs.Held.{Does as NodeDoes, StopsFor, local_of as local_in_node}
use Rattle.am_node.specs.Local.{Local as NodeLocal, Reaction as NodeReaction}
use Rattle.am_node.specs.declared.parts.Parts.{Parts}
use Rattle.am_outlet.specs.Attempts.{after_outcome, outcome_of}
use Rattle.am_outlet.specs.declared.outcome.Outcome.{Outcome}
use Rattle.am_outlet.specs.declared.outcome.Outcome.TheVariants.{NotOpen, Delivered, Again, GivenUp}
use Rattle.am_quorum.specs.Dockets.{Docket, docket_of}
use Rattle.am_transfer.specs.Settling.{Settling}
use Rattle.am_transfer.specs.Tenants.{settling_of}
use Rattle.am_site.specs.Locals.{from_rooms, local_of}
use Rattle.am_site.specs.Reacting.{Does, Reacts, StopsReacting}
use Rattle.am_site.specs.declared.said.Said.{Said as Spoken}
use Rattle.am_site.specs.declared.site.Site.{Site}
use Rattle.am_site.specs.Notices.{put_to_others}
use Rattle.am_site.proofs.Carrying.{keeps_node, position_made, with_node}
use Rattle.am_site.proofs.Positions.{outcome_stays}
use Rattle.am_site.proofs.Reacting.{in_turn_reacts, quiet, reacts_from, stops_from, stops_second}

-- what the node does of its own, of what the instance has
abbrev pub by_node : NodeReaction → Docket → ℕ → Settling → Reaction
by_node r d n g = record { local = from_rooms r.local d n g; said = []; fits = r.fits }

module _ (tenant : List ℕ) (old : Site) where
  abbrev pub node_reaction : NodeReaction → Local → Reaction
  node_reaction r l = by_node r (docket_of tenant old.operations) (count_of tenant old.sent) (settling_of tenant old.settling.progress)

  pub node_does : (react : NodeLocal → NodeReaction) (node : Parts) → NodeDoes tenant react old.node node
      → (react (local_in_node tenant old.node)).fits ≡ true
      → ((l : NodeLocal) → (react l).local.position ≡ l.position)
      → Does tenant (node_reaction (react (local_in_node tenant old.node))) old (with_node old node)
  unfolding local_of
  node_does react node does fits stays =
      let d = docket_of tenant old.operations in
      let n = count_of tenant old.sent in
      let g = settling_of tenant old.settling.progress in
      let r = react (local_in_node tenant old.node) in
      record {
        local = one_changes tenant (λ l. (node_reaction r l).local) (λ t. local_of t old) (λ t. local_of t (with_node old node))
            (ap (λ here. from_rooms here d n g) (own tenant _ _ _ (does tenant)))
            (λ t apart. ap (λ here. from_rooms here (docket_of t old.operations) (count_of t old.sent) (settling_of t old.settling.progress)) (other t tenant _ _ _ apart (does t)));
        said = refl;
        fits = fits;
        keeps = keeps_node old node (position_made tenant (λ l. (react l).local) old.node node stays does);
      }

-- the entry that is recorded is the one that is put to the others
module _ (here : Here) (d : Docket) (n : ℕ) (g : Settling) where
  -- .. by whether there is one
  abbrev pub then_puts : NodeReaction → Option Item → Reaction
  then_puts r None = by_node r d n g
  then_puts r (Some entry) = ((λ (l : Local). by_node r d n g) >> put_to_others here entry) (from_rooms r.local d n g)

  no_entry : (entry : Option Item) → records entry ≡ [] → entry ≡ None
  no_entry None is = refl
  no_entry (Some item) is = absurd cc

  one_entry : (entry : Option Item) (item : Item) → records entry ≡ records (Some item) → entry ≡ Some item
  one_entry None item is = absurd cc
  one_entry (Some other) item is = let same : other ≡ item = cc in ap Some same

  recorded_as : (key : EntryKey) (firing resolved : List (List Label)) (span : ℕ) (node : NodeLocal) (entry : Option Item)
      → records entry ≡ (recorded_in_node (replica_here here) key firing resolved span node).said
      → then_puts (recorded_in_node (replica_here here) key firing resolved span node) entry ≡ recorded here key firing resolved span (from_rooms node d n g)
  unfolding recorded recorded_in_node plan_of grouped_of
  recorded_as key firing resolved span node entry is =
      ap (then_puts (recorded_in_node (replica_here here) key firing resolved span node)) (one_entry entry _ is)

  concluded_as : (o : Outcome) (node : NodeLocal) (entry : Option Item) → records entry ≡ (settled (replica_here here) o node).said
      → then_puts (settled (replica_here here) o node) entry ≡ concluded here o (from_rooms node d n g)
  concluded_as NotOpen node entry is = ap (then_puts (settled (replica_here here) NotOpen node)) (no_entry entry is)
  concluded_as (Delivered notice) node entry is = recorded_as notice.key notice.firing notice.resolved notice.span node entry is
  concluded_as (Again due) node entry is = ap (then_puts (settled (replica_here here) (Again due) node)) (no_entry entry is)
  concluded_as GivenUp node entry is = ap (then_puts (settled (replica_here here) GivenUp node)) (no_entry entry is)

  pub outcome_as : (number tries : ℕ) (status : Option ℕ) (node : NodeLocal) (entry : Option Item)
      → records entry ≡ (outcome_in_node (replica_here here) number tries status node).said
      → then_puts (outcome_in_node (replica_here here) number tries status node) entry ≡ outcome here number tries status (from_rooms node d n g)
  unfolding outcome outcome_in_node
  outcome_as number tries status node entry is =
      let desk = node.plan.desk in
      concluded_as (outcome_of number tries here.moment status desk.open_ones) (at_desk (after_outcome number tries here.moment status desk) node) entry is

  -- where the node's own part passes the greatest count, so does all
  pub outcome_past : (number tries : ℕ) (status : Option ℕ) (node : NodeLocal) → (outcome_in_node (replica_here here) number tries status node).fits ≡ false
      → (outcome here number tries status (from_rooms node d n g)).fits ≡ false
  unfolding outcome outcome_in_node recorded recorded_in_node plan_of grouped_of
  outcome_past number tries status node past =
      let desk = node.plan.desk in
      by (outcome_of number tries here.moment status desk.open_ones) (at_desk (after_outcome number tries here.moment status desk) node) past
    where
      by : (o : Outcome) (node : NodeLocal) → (settled (replica_here here) o node).fits ≡ false → (concluded here o (from_rooms node d n g)).fits ≡ false
      by NotOpen node past = past
      by (Delivered notice) node past = rw past refl
      by (Again due) node past = past
      by GivenUp node past = past

-- ---- of all tenants

module _ (tenant : List ℕ) (here : Here) (number tries : ℕ) (status : Option ℕ) (old : Site) (node : Parts) (x : List Spoken)
    (does : NodeDoes tenant (outcome_in_node (replica_here here) number tries status) old.node node)
    (fits : (outcome_in_node (replica_here here) number tries status (local_in_node tenant old.node)).fits ≡ true) where
  abbrev own_part : NodeReaction
  own_part = outcome_in_node (replica_here here) number tries status (local_in_node tenant old.node)

  abbrev first : Local → Reaction
  first = node_reaction tenant old own_part

  first_done : Does tenant first old (with_node old node)
  first_done = node_does tenant old (outcome_in_node (replica_here here) number tries status) node does fits
      (outcome_stays (replica_here here) number tries status)

  -- nothing is recorded
  pub outcome_done : records None ≡ own_part.said → Reacts tenant (outcome here number tries status) old (with_node old node) x x
  unfolding local_of
  outcome_done none =
      reacts_from tenant first (outcome here number tries status) old
      (outcome_as here (docket_of tenant old.operations) (count_of tenant old.sent) (settling_of tenant old.settling.progress) number tries status (local_in_node tenant old.node) None none)
      (with_node old node) x x (quiet tenant first old (with_node old node) x first_done)

  -- an item is, and is put to the others
  module _ (entry : Item) (some : records (Some entry) ≡ own_part.said) where
    both_as : (first >> put_to_others here entry) (local_of tenant old) ≡ outcome here number tries status (local_of tenant old)
    unfolding local_of
    both_as = outcome_as here (docket_of tenant old.operations) (count_of tenant old.sent) (settling_of tenant old.settling.progress) number tries status (local_in_node tenant old.node) (Some entry) some

    pub outcome_put : (new : Site) (y : List Spoken) → Reacts tenant (put_to_others here entry) (with_node old node) new x y
        → Reacts tenant (outcome here number tries status) old new x y
    outcome_put new y put =
        reacts_from tenant (first >> put_to_others here entry) (outcome here number tries status) old both_as new x y
        (in_turn_reacts tenant first (put_to_others here entry) old (with_node old node) x x new y (quiet tenant first old (with_node old node) x first_done) put)

    pub outcome_stops : (fault : Fault) → StopsReacting tenant (put_to_others here entry) (with_node old node) fault
        → StopsReacting tenant (outcome here number tries status) old fault
    outcome_stops fault stops =
        stops_from tenant (first >> put_to_others here entry) (outcome here number tries status) old both_as fault
        (stops_second tenant first (put_to_others here entry) old (with_node old node) x x fault (quiet tenant first old (with_node old node) x first_done) stops)

-- why it stops in the node
pub outcome_fault : (tenant : List ℕ) (here : Here) (number tries : ℕ) (status : Option ℕ) (old : Site) (fault : Fault)
    → StopsFor (outcome_in_node (replica_here here) number tries status (local_in_node tenant old.node)) fault
    → StopsReacting tenant (outcome here number tries status) old fault
unfolding local_of
outcome_fault tenant here number tries status old OutOfMemory stops = tt
outcome_fault tenant here number tries status old CountsExhausted stops =
    outcome_past here (docket_of tenant old.operations) (count_of tenant old.sent) (settling_of tenant old.settling.progress) number tries status (local_in_node tenant old.node) stops
outcome_fault tenant here number tries status old PatternNotBuilt stops = stops
outcome_fault tenant here number tries status old StoreRefused stops = stops
