-- A leave keeps the simulation: the instance is out of the ring, and takes its rows with it, unless it was down.
use Rattle.std.proofs.Common.{◌≡◌, ◌∙◌, inl, inr, ℕ, ◌<◌, ◌≤◌, ◌==◌, ◌&&◌, nat_eq, is_none, Bool, true, false}
use Rattle.std.proofs.Common.{List, [], ◌∷◌, ◌++◌, length, Option, None, Some, IsSome, refl, sym, ap, subst, arith}
use Rattle.std.proofs.Common.{IsTrue, map, slice_get, slice_set, ◌+◌, if◌then◌else◌}
use Rattle.std.proofs.lemmas.Bool.{and_parts, cases_Bool, false≢true, ne_eqb, true≢false}
use Rattle.std.proofs.lemmas.Bool.Decides.{nat_tests}
use Rattle.am_cluster.proofs.Newest.{is_member}
use Rattle.am_cluster.specs.Courses.{changed}
use Rattle.am_cluster.specs.Events.{Leave}
use Rattle.am_cluster.specs.Moments.{last_moment}
use Rattle.am_cluster.specs.PrivateCluster.{PrivateCluster}
use Rattle.am_cluster.specs.Roster.{Leaves, Roster, refused_by_ring, ring_event_refusal, roster_after}
use Rattle.am_item.specs.declared.fault.Fault.{Fault}
use Rattle.am_item.specs.declared.item.Item.{Item}
use Rattle.am_messages.specs.Posted.{posted_at}
use Rattle.am_ring.proofs.Admitted.{may_leave}
use Rattle.am_ring.specs.Changes.{leave_refusal, without}
use Rattle.am_ring.specs.Instances.{Members, in_order, is_instance}
use Rattle.am_ring.specs.declared.refusal.RingRefusal.{RingRefusal}
use Rattle.am_rows.specs.Rows.{rows_of}
use Rattle.am_instance.specs.Changing.{rows_held}
use Rattle.am_instance.specs.Instance.{IsDown, IsSameNode}
use Rattle.am_instance.specs.Leaving.{LeavesEachShelf, no_rows_of}
use Rattle.am_instance.specs.Shelves.{Shelf}
use Rattle.am_instance.specs.Ticks.{Either}
use Rattle.am_instance.specs.declared.instance.Instance.{Instance}
use Rattle.am_world.specs.Changes.{roster_then}
use Rattle.am_world.specs.Consistent.{IsConsistent, IsConsistentBut, IsMember, IsRingInOrder, around_at, newest_in}
use Rattle.am_world.specs.Consistent.{over}
use Rattle.am_world.specs.Leaving.{LeavesShelves, LeavesOpenedOrDropped, rows_at, rows_where, stop_at, opens_or_drops}
use Rattle.am_world.specs.Places.{At, ChangesAt, Turns, cause_at, instance_at, up_at, up_where}
use Rattle.am_world.specs.Posting.{AreFiled, AreReached}
use Rattle.am_world.specs.Refusal.{refusal}
use Rattle.am_world.specs.Shelves.{shelf_at}
use Rattle.am_world.specs.Simulation.{StandsOver, roster_of}
use Rattle.am_world.specs.Steps.{Kept}
use Rattle.am_world.specs.Stopping.{IsSameStart}
use Rattle.am_world.specs.declared.common.Common.{Common}
use Rattle.am_world.specs.declared.state.State.{State}
use Rattle.am_world.proofs.AlonePlaces.{incarnation_here, known_here}
use Rattle.am_world.proofs.FaultedRing.{AsksOne, Begins}
use Rattle.am_world.proofs.KeptCrash.{GoesDown, becomes_down, roster_down}
use Rattle.am_world.proofs.NotRefused.{kept_changed, roster_turned, taken}
use Rattle.am_world.proofs.Placed.{also_there}
use Rattle.am_world.proofs.Reached.{reached_at}
use Rattle.am_world.proofs.Rostered.{but_pushed, members_left, ring_left, rings_pushed}
use Rattle.am_world.proofs.Shelved.{shelf_is, shelf_put, stop_down}
use Rattle.am_world.proofs.Turned.{whole_at}

-- ---- the ring takes it, or refuses it

pub leave_taken : (w : State) (i : ℕ) → leave_refusal i (newest_in w.common) ≡ None
    → ring_event_refusal (Leaves i) (roster_of w) ≡ None
unfolding ring_event_refusal
leave_taken w i none = rw none refl

pub leave_refused : (w : State) (i : ℕ) (refusal : RingRefusal) → leave_refusal i (newest_in w.common) ≡ Some refusal
    → ring_event_refusal (Leaves i) (roster_of w) ≡ Some (refused_by_ring refusal)
unfolding ring_event_refusal
leave_refused w i refusal is = rw is refl

module _ (w : State) (i : ℕ) (none : ring_event_refusal (Leaves i) (roster_of w) ≡ None) where
  -- ---- it went well

  module _ (w' : State) (down : GoesDown i w w')
      (rings : (roster_of w').rings ≡ (roster_of w).rings ++ without i (newest_in w.common) ∷ [])
      (old new : List Shelf)
      (goes : up_at i w.instances ≡ true
      → LeavesEachShelf (rows_at w i) no_rows_of None (shelf_at i old) (shelf_at i new))
      (idle : up_at i w.instances ≡ false → shelf_at i new ≡ shelf_at i old)
      (others : (j : ℕ) → (j == i) ≡ false → shelf_at j new ≡ shelf_at j old) where
    abbrev left : PrivateCluster → List Item
    left p = if p.roster.up i then [] else p.rows i

    left_by : (t : List ℕ) (p : PrivateCluster) → StandsOver t (over w old) p → (shelf_at i new).is_clean ≡ true
        → (b : Bool) → up_at i w.instances ≡ b
        → rows_of t (shelf_at i new).pairs ≡ (if b then [] else p.rows i)
    left_by t p s clean true up = (goes up clean).rows t
    left_by t p s clean false off =
        ap (λ (shelf : Shelf). rows_of t shelf.pairs) (idle off)
        ∙ s.keeps i off (sym (ap (λ (shelf : Shelf). shelf.is_clean) (idle off)) ∙ clean)

    kept : (t : List ℕ) (p : PrivateCluster) → StandsOver t (over w old) p → (shelf_at i new).is_clean ≡ true
        → rows_of t (shelf_at i new).pairs ≡ left p
    kept t p s clean =
        left_by t p s clean (up_at i w.instances) refl ∙ ap (λ b. if b then [] else p.rows i) (s.stands.roster.up i)

    pub kept_leave : Kept (over w old) (Leave i) (over w' new)
    unfolding changed roster_after
    kept_leave =
        kept_changed (Leaves i) (over w old) (over w' new) none
        (becomes_down i w w' down (Leaves i) left old new (λ table. refl) (λ p. refl)
        (roster_down i w w' down ((roster_of w).rings ++ without i (newest_in w.common) ∷ []) rings) kept others)

  -- ---- the store refused it

  turned : roster_then (Leave i) (roster_of w) ≡ roster_after (Leaves i) (roster_of w)
  turned = roster_turned w (Leaves i) none

  same_start : (j : ℕ) → IsSameStart j (roster_after (Leaves i) (roster_of w)) (roster_of w)
  unfolding roster_after
  same_start j = (refl, refl)

  starts_then : (j : ℕ) → IsSameStart j (roster_then (Leave i) (roster_of w)) (roster_of w)
  starts_then j = subst (λ (r : Roster). IsSameStart j r (roster_of w)) (sym turned) (same_start j)

  pub asks_leave : IsSome (instance_at i w.instances) → AsksOne w (Leave i) i (λ x. x)
  asks_leave exists = record {
    taken = taken w (Leaves i) none;
    alone = λ j. refl;
    clock = refl;
    left = λ posted. refl;
    exists = exists;
    own = λ x at. (
      sym (incarnation_here i w.instances x at) ∙ sym (starts_then i).0,
      sym (known_here i w.instances x at) ∙ sym (starts_then i).1,
    );
    others = λ j apart. starts_then j;
    refused = λ x. refl;
  }

  -- the rings that are then
  pub rings_left : (rings : List (List ℕ)) → rings ≡ (roster_of w).rings ++ without i (newest_in w.common) ∷ []
      → rings ≡ (roster_then (Leave i) (roster_of w)).rings
  unfolding roster_after
  rings_left rings is = is ∙ sym (ap (λ (r : Roster). r.rings) turned)

-- ---- what is left in its store

-- where it is down then, for this fault or for none
pub left_turned : (w w' : State) (i : ℕ) (x : Instance) (fault : Option Fault) (old new : Shelf)
    → instance_at i w.instances ≡ Some x → up_at i w'.instances ≡ false → cause_at i w'.instances ≡ fault
    → LeavesEachShelf (rows_held x) no_rows_of fault old new → LeavesOpenedOrDropped w (Leave i) w' i old new
left_turned w w' i x fault old new at off is left =
    subst (λ b. Either b (new ≡ old) (LeavesEachShelf (rows_at w i) no_rows_of (stop_at i w'.instances) old new))
    (sym off)
    (subst (λ ending. LeavesEachShelf (rows_at w i) no_rows_of ending old new)
    (sym (stop_down i w'.instances off ∙ is))
    (subst (λ o. LeavesEachShelf (rows_where o) no_rows_of fault old new) (sym at) left))

-- .. as the world has it
pub left_of_store : {R : Type 0} (f : R → Shelf) (stores : List R) (p n : ℕ) → p + 1 ≡ n → (w : State) (x : Instance)
    (store new : R) → p < length stores → slice_get stores p ≡ Some store → instance_at n w.instances ≡ Some x
    → LeavesEachShelf (rows_held x) no_rows_of None (f store) (f new)
    → LeavesEachShelf (rows_at w n) no_rows_of None (shelf_at n (map f stores))
    (shelf_at n (map f (slice_set stores p new)))
left_of_store f stores p n next w x store new less found at left =
    subst (λ old. LeavesEachShelf (rows_at w n) no_rows_of None old (shelf_at n (map f (slice_set stores p new))))
    (sym (shelf_is f stores p n next store found))
    (subst (λ shelf. LeavesEachShelf (rows_at w n) no_rows_of None (f store) shelf)
    (sym (shelf_put f stores p n next new less))
    (subst (λ o. LeavesEachShelf (rows_where o) no_rows_of None (f store) (f new)) (sym at) left))

turned_own : (w : State) (i : ℕ) → refusal w (Leave i) ≡ None → up_at i w.instances ≡ true
    → opens_or_drops w (Leave i) i ≡ true
turned_own w i none up = let itself : nat_eq i i ≡ true = grind (arith, nat_tests) in rw (itself, none, up) refl

pub turned_up : (w : State) (i : ℕ) → opens_or_drops w (Leave i) i ≡ true → up_at i w.instances ≡ true
turned_up w i some = (and_parts (i == i && is_none (refusal w (Leave i))) (up_at i w.instances) some).1

-- a store that isn't turned over is that of one that was down
pub not_turned : (w : State) (i : ℕ) → refusal w (Leave i) ≡ None → opens_or_drops w (Leave i) i ≡ false
    → up_at i w.instances ≡ false
not_turned w i none out = elim (cases_Bool (up_at i w.instances)) [
  | inl up ↦ absurd (true≢false (sym (turned_own w i none up) ∙ out))
  | inr off ↦ off
]

pub turns_other : (w : State) (i j : ℕ) → (j == i) ≡ false → opens_or_drops w (Leave i) j ≡ false
turns_other w i j apart = rw apart refl

-- where nothing changed
pub left_untouched : (Rejects : List ℕ → List Item → Type 0) (w w' : State) (i : ℕ) (shelves : List Shelf)
    → w'.instances ≡ w.instances → LeavesShelves Rejects w (Leave i) w' shelves shelves
left_untouched Rejects w w' i shelves same = record {
  each = λ j never. absurd (false≢true never);
  turned = λ j some.
      let up = (and_parts (j == i && is_none (refusal w (Leave i))) (up_at j w.instances) some).1 in
      untouched j (ap (up_at j) same ∙ up);
  others = λ j idle out. refl;
}
  where
    untouched : (j : ℕ) → up_at j w'.instances ≡ true
        → LeavesOpenedOrDropped w (Leave i) w' j (shelf_at j shelves) (shelf_at j shelves)
    untouched j up =
        subst (λ b. Either b (shelf_at j shelves ≡ shelf_at j shelves)
        (LeavesEachShelf (rows_at w j) no_rows_of (stop_at j w'.instances) (shelf_at j shelves) (shelf_at j shelves)))
        (sym up) refl

-- who is down isn't up
pub off_at : (i : ℕ) (xs : List Instance) → At i IsDown xs → up_at i xs ≡ false
unfolding up_at
off_at i xs down = by_found (instance_at i xs) refl
  where
    by_found : (o : Option Instance) → instance_at i xs ≡ o → up_where o ≡ false
    by_found None none = refl
    by_found (Some x) found = (down x found).up

-- ---- a world of which one instance is left to be stopped

pub but_changed : (i : ℕ) (w w' : State) → IsConsistentBut i w → ChangesAt i w.instances w'.instances
    → Turns i IsSameNode w.instances w'.instances → w'.clock ≡ w.clock → w'.common ≡ w.common
    → w'.messages ≡ w.messages → IsConsistentBut i w'
but_changed i w w' was change stays clock common messages = record {
  clock = subst (λ n. n ≤ last_moment) (sym clock) was.clock;
  numbered = change.numbered;
  whole = λ j apart x found.
      whole_at (around_at w.clock w) (around_at w'.clock w') x (ap (λ (c : Common). c.rings.items) common)
      (ap (λ (c : Common). c.first) common) (was.whole j apart x (sym (change.others j apart) ∙ found));
  quiet = λ j apart x found. was.quiet j apart x (sym (change.others j apart) ∙ found);
  known = λ x' found.
      let x = also_there i w'.instances w.instances change.numbered was.numbered x' found in
      subst (λ (c : Common). x'.known < length c.rings.items) (sym common)
      (subst (λ k. k < length w.common.rings.items) (sym (stays x.0 x' x.1 found).known) (was.known x.0 x.1));
  ring = subst (λ (c : Common). IsRingInOrder (newest_in c)) (sym common) was.ring;
  members = λ j apart x found.
      subst (λ (c : Common). IsMember (newest_in c) x) (sym common)
      (was.members j apart x (sym (change.others j apart) ∙ found));
  filed = subst AreFiled (sym messages) was.filed;
  past = λ name posted apart is x found.
      was.past name posted apart (sym (ap (posted_at name) messages) ∙ is) x
      (sym (change.others name.from (ne_eqb name.from i apart)) ∙ found);
  fresh = subst (λ post. AreReached post w'.instances) (sym messages)
      (reached_at i w.messages w.instances w'.instances was.numbered change
      (λ x x' from to. let same = (stays x x' from to).incarnation in omega (arith, same)) was.fresh);
}

-- ---- the ring without it is the newest one

pub record Leaving (i : ℕ) (w begun : State) : Type 0 where
  pub taken : ring_event_refusal (Leaves i) (roster_of w) ≡ None
  pub rings : (roster_of begun).rings ≡ (roster_of w).rings ++ without i (newest_in w.common) ∷ []
  pub but : IsConsistentBut i begun

pub leaving : (i : ℕ) (w begun : State) (ring : Members) → IsConsistent w → Begins w begun
    → begun.common.rings.items ≡ w.common.rings.items ++ ring ∷ []
    → ring.instances ≡ without i (newest_in w.common) → leave_refusal i (newest_in w.common) ≡ None
    → Leaving i w begun
leaving i w begun ring was begins rings is none =
    let none_then = leave_taken w i none in
    record {
      taken = none_then;
      rings = rings_pushed w begun begins ring rings ∙ ap (λ r. (roster_of w).rings ++ r ∷ []) is;
      but = but_pushed w begun begins ring rings was i
          (subst (λ r. in_order r ≡ r) (sym is) (ring_left w i was none_then))
          (λ j apart. subst (λ r. At j (IsMember r) w.instances) (sym is) (members_left w i was j apart));
    }

-- an instance that may leave is one
pub leaver_is : (i : ℕ) (w : State) → IsConsistent w → leave_refusal i (newest_in w.common) ≡ None
    → IsTrue (is_instance i)
leaver_is i w was none =
    is_member (newest_in w.common) i (sym was.ring) (may_leave i (newest_in w.common) none).among
