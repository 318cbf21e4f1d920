-- An instance that stops being a replica drops what it has of the tenant.
use Rattle.std.proofs.Common.{◌≡◌, ℕ, ◌&&◌, Bool, true, false, List, [], Option, Some, None, Result, Ok, Err, IfErr, is_some, append-nil, inl, inr, ap, refl, sym, ◌∙◌, map, if◌then◌else◌}
use Rattle.std.proofs.lemmas.Bool.{false≢true}
use Rattle.am_cluster.specs.Local.{Local}
use Rattle.am_cluster.specs.Reactions.{stays}
use Rattle.am_cluster.specs.RingChanges.{dropped}
use Rattle.am_context.proofs.Changes.{one_changes, other, own}
use Rattle.am_item.specs.Counts.{count_of}
use Rattle.am_item.specs.declared.fault.Fault.{Fault}
use Rattle.am_item.specs.declared.fault.Fault.TheVariants.{OutOfMemory, CountsExhausted, PatternNotBuilt, StoreRefused}
use Rattle.am_item.specs.declared.item.Item.{Item}
use Rattle.am_node.specs.Held.{Makes as NodeMakes, local_of as local_in_node}
use Rattle.am_node.specs.Local.{Local as NodeLocal, dropped as dropped_in_node}
use Rattle.am_node.specs.Storing.{AreRowsOf, AreStored, LeavesStore}
use Rattle.am_node.specs.declared.parts.Parts.{Parts}
use Rattle.am_quorum.specs.Dockets.{Docket, docket_of}
use Rattle.am_replica.specs.Storing.{StopsStoring, fault_in}
use Rattle.am_rows.specs.Refusing.{MayRefuse, Medium}
use Rattle.am_rows.specs.Rows.{Keeps as KeepsRows, Makes as MakesRows, no_rows, rows_of, stored_in}
use Rattle.am_tenant.specs.Names.{same}
use Rattle.am_transfer.specs.Progress.{Progress, nothing_yet}
use Rattle.am_transfer.specs.Settling.{Settling, untouched}
use Rattle.am_transfer.specs.Tenants.{Becomes, settling_of}
use Rattle.am_transfer.specs.Timers.{AreTimed, Room}
use Rattle.am_site.specs.Here.{here_of}
use Rattle.am_site.specs.Learning.{StopsGoingOn, StopsLearning, left_of, stops_being_replica}
use Rattle.am_site.specs.Locals.{from_rooms, local_of}
use Rattle.am_site.specs.Reacting.{MovesInSilence, said_in}
use Rattle.am_site.specs.declared.here.Here.{Here as Given}
use Rattle.am_site.specs.declared.site.Site.{Site}
use Rattle.am_site.proofs.Carrying.{with_node}
use Rattle.am_site.proofs.Settled.{with_room}

abbrev Pairs : Type 0
Pairs = List (List ℕ × Item)

-- ---- what it has

-- where no operation is open
dropped_rooms : (node : NodeLocal) (d : Docket) (n : ℕ) (g : Settling) → d.operations ≡ []
    → from_rooms (dropped_in_node node) d n untouched ≡ dropped (from_rooms node d n g)
unfolding dropped
dropped_rooms node d n g none =
    ap (λ operations. let l : Local = record (from_rooms (dropped_in_node node) d n untouched) { operations = operations } in l) none

module _ (tenant : List ℕ) (old : Site) (node : Parts) (room : Room) (drops : NodeMakes tenant dropped_in_node old.node node)
    (gone : Becomes tenant (λ _. nothing_yet) old.settling.progress room.progress) (timed : AreTimed old.settling → AreTimed room) where
  abbrev new : Site
  new = with_room (with_node old node) room

  pub drops_silently : (local_of tenant old).operations ≡ [] → MovesInSilence tenant (λ l. stays (dropped l)) old new
  unfolding local_of
  drops_silently none x = record {
    local = one_changes tenant dropped (λ t. local_of t old) (λ t. local_of t new)
        (ap (λ here. from_rooms here (docket_of tenant old.operations) (count_of tenant old.sent) (settling_of tenant room.progress)) (own tenant _ _ _ (drops tenant))
        ∙ ap (λ (p : Progress). from_rooms (dropped_in_node (local_in_node tenant old.node)) (docket_of tenant old.operations) (count_of tenant old.sent) p.settling)
        (own tenant _ _ _ (gone tenant))
        ∙ dropped_rooms (local_in_node tenant old.node) (docket_of tenant old.operations) (count_of tenant old.sent) (settling_of tenant old.settling.progress) none)
        (λ t apart. ap (λ here. from_rooms here (docket_of t old.operations) (count_of t old.sent) (settling_of t room.progress)) (other t tenant _ _ _ apart (drops t))
        ∙ ap (λ (p : Progress). from_rooms (local_in_node t old.node) (docket_of t old.operations) (count_of t old.sent) p.settling) (other t tenant _ _ _ apart (gone t)));
    said = sym (append-nil (map said_in x));
    fits = refl;
    keeps = record {
      incarnation = refl;
      positions = λ t apart. ap (λ (l : NodeLocal). l.position) (other t tenant _ _ _ apart (drops t));
      asked = λ t apart. ap (λ (p : Progress). p.asked) (other t tenant _ _ _ apart (gone t));
      timed = timed;
    };
  }

-- ---- what is stored

module _ (given : Given) (before : List ℕ) (old : Parts) (pairs : Pairs) (stored : AreStored old pairs) where
  abbrev t : List ℕ
  t = given.tenant.now

  module _ (rows : Pairs) (drops : MakesRows t no_rows pairs rows) where
    pub still_stores : (mid new : Parts) → mid ≡ old → NodeMakes t dropped_in_node mid new → AreStored new rows
    unfolding stored_in
    still_stores mid new same_node makes s = by (same s t) (drops s) (makes s)
      where
        by : (b : Bool) → rows_of s rows ≡ (if b then [] else rows_of s pairs) → local_in_node s new ≡ (if b then dropped_in_node (local_in_node s mid) else local_in_node s mid)
            → rows_of s rows ≡ stored_in (local_in_node s new).held
        by true rows node = rows ∙ sym (ap (λ (l : NodeLocal). stored_in l.held) node)
        by false rows node = rows ∙ stored s ∙ sym (ap (λ (l : NodeLocal). stored_in l.held) (node ∙ ap (local_in_node s) same_node))

    none_left : stops_being_replica (here_of given) before ≡ true → AreRowsOf (λ s. left_of given before s (local_in_node s old)) rows
    unfolding stored_in
    none_left stops s = by (same s t) (drops s) ∙ ap (λ b. stored_in (if same s t && b then dropped_in_node (local_in_node s old) else local_in_node s old).held) (sym stops)
      where
        by : (b : Bool) → rows_of s rows ≡ (if b then [] else rows_of s pairs)
            → rows_of s rows ≡ stored_in (if b && true then dropped_in_node (local_in_node s old) else local_in_node s old).held
        by true rows = rows
        by false rows = rows ∙ stored s

    pub leaves_none : stops_being_replica (here_of given) before ≡ true → (was now : Medium)
        → LeavesStore (λ s. local_in_node s old) (λ s. left_of given before s (local_in_node s old)) ⊥ None was now rows
    leaves_none stops was now = record { rows = λ is_open. inr (none_left stops); cause = λ refused. absurd (false≢true (ap is_some refused)) }

  -- the rows are as they were
  pub leaves_all : (fault : Option Fault) (was now : Medium) (rows : Pairs) → (now.is_shut ≡ false → KeepsRows pairs rows)
      → (fault ≡ Some StoreRefused → MayRefuse was now)
      → LeavesStore (λ s. local_in_node s old) (λ s. left_of given before s (local_in_node s old)) ⊥ fault was now rows
  leaves_all fault was now rows keeps cause = record { rows = λ is_open. inl (λ s. keeps is_open s ∙ stored s); cause = λ refused. inl (cause refused) }

  -- .. as nothing is asked of the store
  pub leaves_untouched : (fault : Option Fault) (medium : Medium) → (fault ≡ Some StoreRefused → ⊥)
      → LeavesStore (λ s. local_in_node s old) (λ s. left_of given before s (local_in_node s old)) ⊥ fault medium medium pairs
  leaves_untouched fault medium never = leaves_all fault medium medium pairs (λ is_open s. refl) (λ refused. absurd (never refused))

-- nothing stopped it
pub not_stopped : (let fault : Option Fault = None in fault) ≡ Some StoreRefused → ⊥
not_stopped refused = false≢true (ap is_some refused)

-- what stops a replica as it goes on is no refusal
pub not_refused : {X : Type 0} (refused : List (List ℕ)) (given : Given) (before : List ℕ) (site : Site) (r : Result X Fault)
    → IfErr r (StopsGoingOn refused given before site) → fault_in r ≡ Some StoreRefused → ⊥
not_refused refused given before site (Ok x) stops is = false≢true (ap is_some is)
not_refused refused given before site (Err OutOfMemory) stops is = absurd cc
not_refused refused given before site (Err CountsExhausted) stops is = absurd cc
not_refused refused given before site (Err PatternNotBuilt) stops is = absurd cc
not_refused refused given before site (Err StoreRefused) stops is = stops

-- why it stops where the rows are to be dropped
pub stops_dropping : (refused : List (List ℕ)) (given : Given) (before : List ℕ) (site : Site) (fault : Fault) → stops_being_replica (here_of given) before ≡ true
    → StopsStoring true fault → StopsLearning refused given before site fault
stops_dropping refused given before site OutOfMemory is stops = tt
stops_dropping refused given before site CountsExhausted is stops = absurd stops
stops_dropping refused given before site PatternNotBuilt is stops = absurd stops
stops_dropping refused given before site StoreRefused is stops = is

-- what is held the same is stored the same
pub held_stored : (was mid now : Parts) (pairs : Pairs) → mid ≡ was → ((s : List ℕ) → (local_in_node s now).held ≡ (local_in_node s mid).held)
    → AreStored was pairs → AreStored now pairs
held_stored was mid now pairs same_node held stored s =
    stored s ∙ ap (λ (n : Parts). stored_in (local_in_node s n).held) (sym same_node) ∙ ap stored_in (sym (held s))
