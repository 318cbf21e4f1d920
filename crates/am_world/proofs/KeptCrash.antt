-- An instance that goes down, by a crash or since it leaves the ring: of what each tenant's private cluster has there
-- nothing is left but rows. A crash keeps the simulation.
use Rattle.std.proofs.Common.{◌≡◌, ◌∙◌, inl, inr, ℕ, ◌==◌, nat_eq, Bool, true, false, List, [], Option}
use Rattle.std.proofs.Common.{None, Some, IsSome, refl, sym, ap, subst, arith, option_map, if◌then◌else◌}
use Rattle.std.proofs.lemmas.Bool.{cases_Bool}
use Rattle.std.proofs.lemmas.Bool.Decides.{nat_tests}
use Rattle.std.proofs.lemmas.List.{append-nil}
use Rattle.std.proofs.lemmas.List.Elements.{All-nil}
use Rattle.am_cluster.proofs.Named.{changed_kept}
use Rattle.am_cluster.proofs.Watched.{after_same, look-shut_at}
use Rattle.am_cluster.specs.Courses.{changed, with_event}
use Rattle.am_cluster.specs.Events.{Crash}
use Rattle.am_cluster.specs.Local.{Local, blank}
use Rattle.am_cluster.specs.Naming.{NamesOnce}
use Rattle.am_cluster.specs.Operations.{Operation}
use Rattle.am_cluster.specs.PrivateCluster.{Course, PrivateCluster, stopped, unchanged}
use Rattle.am_cluster.specs.Refused.{InstanceNotUp}
use Rattle.am_cluster.specs.Replying.{WaitOver}
use Rattle.am_cluster.specs.Roster.{Crashes, IsSameRoster, RingEvent, put_at, ring_event_refusal, roster_after}
use Rattle.am_cluster.specs.View.{AskedAs, FrontAnswered, Reading, Seen, Shut, Table, Watch, look, shut_at, shut_by}
use Rattle.am_cluster.specs.View.{shut_in}
use Rattle.am_item.specs.declared.item.Item.{Item}
use Rattle.am_limit.specs.Books.{limits_of}
use Rattle.am_messages.specs.Posted.{posted_at}
use Rattle.am_rows.specs.Rows.{rows_of, stored_in}
use Rattle.am_instance.specs.Changing.{IsOut}
use Rattle.am_instance.specs.Instance.{IsDown, IsSameNode}
use Rattle.am_instance.specs.Shelves.{Shelf}
use Rattle.am_instance.specs.declared.instance.Instance.{Instance}
use Rattle.am_world.specs.Consistent.{over}
use Rattle.am_world.specs.Places.{AreNumbered, At, ChangesAt, Turns, bytes_at, bytes_where, cause_at, cause_where}
use Rattle.am_world.specs.Places.{instance_at, local_at, up_at, up_where}
use Rattle.am_world.specs.Shelves.{AreBacked, shelf_at}
use Rattle.am_world.specs.Simulation.{AreAsked, Follows, IsAskerOf, KeepsRows, Stands, StandsOver, bytes_read}
use Rattle.am_world.specs.Simulation.{fault_count, put_out, roster_of}
use Rattle.am_world.specs.Stopping.{Step}
use Rattle.am_world.specs.declared.state.State.{State}
use Rattle.am_world.proofs.AlonePlaces.{at_each, bytes_here, exists_then, local_here, local_other, refused_here}
use Rattle.am_world.proofs.AlonePlaces.{refused_then, roster_then, up_here, up_there}
use Rattle.am_world.proofs.KeptQuietWhole.{none_either}
use Rattle.am_world.proofs.NotRefused.{Becomes, IsChangedAlone, kept_changed}
use Rattle.am_world.proofs.Placed.{also_there, there}
use Rattle.am_world.proofs.Rostered.{down_roster, put_here, put_other, stays_so}

-- ---- one goes down

-- the instance of a number lost all, for no fault; the rings may be others then
pub record GoesDown (i : ℕ) (w w' : State) : Type 0 where
  pub numbered : AreNumbered w.instances
  pub exists : IsSome (instance_at i w.instances)
  pub leaves : Turns i IsOut w.instances w'.instances
  pub stays : Turns i IsSameNode w.instances w'.instances
  pub change : ChangesAt i w.instances w'.instances
  pub clock : w'.clock ≡ w.clock
  pub messages : w'.messages ≡ w.messages
  pub outputs : put_out w' ≡ put_out w
  pub faults : fault_count w' ≡ fault_count w
  pub limits : w'.common.limits ≡ w.common.limits
  pub service_key : w'.common.service_key ≡ w.common.service_key
  pub first : w'.common.first ≡ w.common.first

pub goes_down : (i : ℕ) (xs ys : List Instance) → AreNumbered xs → ChangesAt i xs ys → Turns i IsOut xs ys
    → At i IsDown ys
goes_down i xs ys numbered change leaves x' there =
    let x = also_there i ys xs change.numbered numbered x' there in
    (leaves x.0 x' x.1 there).down

-- a connection that it read is shut
shut_read : (i j : ℕ) (s : Option Seen)
    → bytes_read j (option_map (shut_by i) s) ≡ (if j == i then None else bytes_read j s)
shut_read i j None = none_either (j == i)
shut_read i j (Some (Reading k bytes)) = elim (cases_Bool (nat_eq i k)) [
  | inl h ↦ elim (cases_Bool (nat_eq j i)) [
    | inl l ↦ rw (h, l) refl
    | inr l ↦ let apart : nat_eq j k ≡ false = grind (arith, nat_tests) in rw (h, l, apart) refl
  ]
  | inr h ↦ elim (cases_Bool (nat_eq j i)) [
    | inl l ↦ let apart : nat_eq j k ≡ false = grind (arith, nat_tests) in rw (h, l, apart) refl
    | inr l ↦ rw (h, l) refl
  ]
]
shut_read i j (Some (AskedAs tenant)) = none_either (j == i)
shut_read i j (Some FrontAnswered) = none_either (j == i)
shut_read i j (Some Shut) = none_either (j == i)

module _ (i : ℕ) (w w' : State) (down : GoesDown i w w') where
  was : (x : Instance) × (instance_at i w.instances ≡ Some x)
  was = there i w.instances down.exists

  is : (x : Instance) × (instance_at i w'.instances ≡ Some x)
  is = exists_then i w.instances w'.instances was.0 down.numbered down.change.numbered was.1

  left : IsOut was.0 is.0
  left = down.leaves was.0 is.0 was.1 is.1

  pub off_then : up_at i w'.instances ≡ false
  off_then = up_here i w'.instances is.0 is.1 ∙ left.down.up

  pub causeless : cause_at i w'.instances ≡ None
  unfolding cause_at
  causeless = ap cause_where is.1 ∙ left.cause

  bytes_then : (d j : ℕ) → bytes_at d j w'.instances ≡ (if j == i then None else bytes_at d j w.instances)
  unfolding bytes_at
  bytes_then d =
      at_each (λ j. bytes_at d j w'.instances ≡ (if j == i then None else bytes_at d j w.instances)) i
      (bytes_here d i w'.instances is.0 is.1 ∙ left.down.unread d
      ∙ (let itself : nat_eq i i ≡ true = grind (arith, nat_tests) in rw itself refl))
      (λ j apart. ap (bytes_where d) (down.change.others j apart) ∙ rw apart refl)

  local_then : (t : List ℕ) (j : ℕ)
      → local_at t j w'.instances ≡ put_at (λ k. local_at t k w.instances) i blank j
  local_then t =
      at_each (λ j. local_at t j w'.instances ≡ put_at (λ k. local_at t k w.instances) i blank j) i
      (local_here t i w'.instances is.0 is.1 ∙ left.down.lost t
      ∙ sym (put_here (λ k. local_at t k w.instances) i blank))
      (λ j apart. local_other t i j w.instances w'.instances down.change.others apart
      ∙ sym (put_other (λ k. local_at t k w.instances) i j blank apart))

  pub reading_then : (v : Watch) → Follows v w → (d j : ℕ)
      → bytes_at d j w'.instances ≡ bytes_read j (look d (shut_at i v.table))
  reading_then v follows d j =
      bytes_then d j ∙ ap (λ o. if j == i then None else o) (follows.reading d j)
      ∙ sym (shut_read i j (look d v.table)) ∙ ap (bytes_read j) (sym (look-shut_at d i v.table))

  pub roster_down : (rings : List (List ℕ)) → (roster_of w').rings ≡ rings
      → IsSameRoster (roster_of w')
      (record (roster_of w) { rings = rings; up = put_at (λ k. up_at k w.instances) i false })
  roster_down rings same =
      down_roster i w w' was.0 is.0 was.1 is.1 down.first (stays_so i w.instances w'.instances down.change.others) rings
      (down.stays was.0 is.0 was.1 is.1) left.down.up same

  asked_down : (v : Watch) → AreAsked v w → AreAsked v w'
  asked_down v asked t j =
      subst (λ (l : Local). WaitOver (λ c request. IsAskerOf v t c) l.operations) (sym (local_then t j))
      (by_place (nat_eq j i))
    where
      by_place : (b : Bool) → WaitOver (λ c request. IsAskerOf v t c)
          (if b then blank else local_at t j w.instances).operations
      by_place true = All-nil (λ (o : Operation). IsAskerOf v t o.connection)
      by_place false = asked t j

  -- ---- .. by a change that leaves these rows of each tenant

  module _ (change : RingEvent) (rows : PrivateCluster → List Item) (old new : List Shelf)
      (shuts : (table : Table) → shut_in change table ≡ shut_at i table)
      (stops : (p : PrivateCluster) → changed change p ≡ unchanged (stopped i (rows p) (with_event change p)))
      (roster : IsSameRoster (roster_of w') (roster_after change (roster_of w)))
      (kept : (t : List ℕ) (p : PrivateCluster) → StandsOver t (over w old) p → (shelf_at i new).is_clean ≡ true
      → rows_of t (shelf_at i new).pairs ≡ rows p)
      (others : (j : ℕ) → (j == i) ≡ false → shelf_at j new ≡ shelf_at j old) where
    stands_down : (t : List ℕ) (p : PrivateCluster) → Stands t w p → Stands t w' (changed change p).cluster
    stands_down t p s =
        subst (Stands t w') (sym (ap (λ (q : Course). q.cluster) (stops p))) (record {
          tenant = s.tenant;
          replicas_by = s.replicas_by;
          service_key = down.service_key ∙ s.service_key;
          clock = down.clock ∙ s.clock;
          limits = ap (limits_of t) down.limits ∙ s.limits;
          roster = roster_then (roster_of w') (roster_after change (roster_of w)) (roster_after change p.roster) roster
              (after_same change (roster_of w) p.roster s.roster);
          local = λ j. local_then t j ∙ by_place (nat_eq j i) j;
          posted = λ from incarnation to count.
              ap (posted_at (record { tenant = t; from = from; incarnation = incarnation; to = to; count = count }))
              down.messages
              ∙ s.posted from incarnation to count;
          named = subst (λ (q : Course). NamesOnce q.cluster) (stops p) (changed_kept change p s.named);
        })
      where
        by_place : (b : Bool) (j : ℕ)
            → (if b then blank else local_at t j w.instances) ≡ (if b then blank else p.at j)
        by_place true j = refl
        by_place false j = s.local j

    keeps_down : (t : List ℕ) (p : PrivateCluster) → StandsOver t (over w old) p
        → KeepsRows t (over w' new) (changed change p).cluster
    unfolding up_at
    keeps_down t p s =
        subst (KeepsRows t (over w' new)) (sym (ap (λ (q : Course). q.cluster) (stops p)))
        (at_each (λ j. up_at j w'.instances ≡ false → (shelf_at j new).is_clean ≡ true
        → rows_of t (shelf_at j new).pairs ≡ put_at p.rows i (rows p) j) i
        (λ off clean. kept t p s clean ∙ sym (put_here p.rows i (rows p)))
        (λ j apart off clean.
        ap (λ (shelf : Shelf). rows_of t shelf.pairs) (others j apart)
        ∙ s.keeps j (sym (ap up_where (down.change.others j apart)) ∙ off)
        (sym (ap (λ (shelf : Shelf). shelf.is_clean) (others j apart)) ∙ clean)
        ∙ sym (put_other p.rows i j (rows p) apart)))

    alone_down : (t : List ℕ) (v : Watch) (p : PrivateCluster) → StandsOver t (over w old) p
        → IsChangedAlone t v p change [] (over w' new)
    alone_down t v p s = record {
      stands = record { stands = stands_down t p s.stands; keeps = keeps_down t p s };
      told = λ u later. sym (ap (λ (q : Course). q.outputs) (stops p));
      fits = ap (λ (q : Course). q.fits) (stops p);
    }

    pub becomes_down : Becomes change (over w old) (over w' new)
    becomes_down = record {
      roster = roster;
      reading = λ v follows d j.
          reading_then v follows d j ∙ ap (λ table. bytes_read j (look d table)) (sym (shuts v.table));
      asked = λ clean. asked_down;
      outs = [];
      appended = down.outputs ∙ sym (append-nil (put_out w));
      alone = λ clean t v p given. alone_down t v p given.stands;
      front = λ v asked u later. refl;
      owned = λ v asked u later. refl;
      clock = down.clock;
      limits = down.limits;
      service_key = down.service_key;
      refused = refused_then i w.instances w'.instances
          (refused_here i w'.instances is.0 is.1 ∙ left.refused ∙ sym (refused_here i w.instances was.0 was.1))
          down.change.others;
      faults = down.faults;
    }

-- ---- a crash

pub crash_taken : (w : State) (i : ℕ) → up_at i w.instances ≡ true
    → ring_event_refusal (Crashes i) (roster_of w) ≡ None
unfolding ring_event_refusal
crash_taken w i up = rw up refl

pub crash_refused : (w : State) (i : ℕ) → up_at i w.instances ≡ false
    → ring_event_refusal (Crashes i) (roster_of w) ≡ Some InstanceNotUp
unfolding ring_event_refusal
crash_refused w i down = rw down refl

pub kept_crash : (w w' : State) (i : ℕ) → up_at i w.instances ≡ true → GoesDown i w w'
    → (roster_of w').rings ≡ (roster_of w).rings → (shelves : List Shelf) → AreBacked w.instances shelves
    → Step (over w shelves) (Crash i) (over w' shelves)
unfolding changed roster_after
kept_crash w w' i up down rings shelves backed = record {
  ends = inl (kept_changed (Crashes i) (over w shelves) (over w' shelves) (crash_taken w i up)
      (becomes_down i w w' down (Crashes i) (λ p. stored_in (p.at i).held) shelves shelves (λ table. refl) (λ p. refl)
      (roster_down i w w' down (roster_of w).rings rings) kept (λ j apart. refl)));
  clean = λ j clean. clean;
}
  where
    kept : (t : List ℕ) (p : PrivateCluster) → StandsOver t (over w shelves) p
        → (shelf_at i shelves).is_clean ≡ true → rows_of t (shelf_at i shelves).pairs ≡ stored_in (p.at i).held
    kept t p s clean =
        let x = up_there i w.instances up in
        (backed.each i x.0 x.1).stores x.2 clean t
        ∙ ap (λ (l : Local). stored_in l.held) (sym (local_here t i w.instances x.0 x.1) ∙ s.stands.local i)
