-- Only instances are up, and the newest ring is in order, whatever happens.
use Rattle.std.proofs.Common.{◌≡◌, ℕ, Bool, true, false, ◌&&◌, ◌||◌, not, Contains, List, [], ◌∷◌, Option, Some, None, eqb, is_some, if◌then◌else◌, refl, sym, subst}
use Rattle.std.specs.Prelude.{IsTrue, ◌==◌}
use Rattle.std.specs.List.{list_all}
use Rattle.std.proofs.lemmas.Bool.{and_parts, eqb-true, false≢true}
use Rattle.std.proofs.lemmas.Map.Views.{Contains-from_any}
use Rattle.am_item.specs.declared.item.Item.{Item}
use Rattle.am_ring.specs.Changes.{join_refusal}
use Rattle.am_ring.specs.Instances.{all_instances, in_order, is_among, is_instance}
use Rattle.am_ring.specs.Replicas.{replicas}
use Rattle.am_ring.proofs.Admitted.{may_join}
use Rattle.am_ring.proofs.Numbers.{all_among}
use Rattle.am_cluster.specs.Arriving.{arrive}
use Rattle.am_cluster.specs.Courses.{changed, course_by, delivered, handled_by, posted_in, refusal_of, with_event}
use Rattle.am_cluster.specs.Delivery.{outcome}
use Rattle.am_cluster.specs.Happening.{Happening, Asked, Changed, Delivered, Forced, Limited, Lost, Ticked, Tried}
use Rattle.am_cluster.specs.Here.{Here}
use Rattle.am_cluster.specs.Local.{Local}
use Rattle.am_cluster.specs.Messages.{Message}
use Rattle.am_cluster.specs.Moments.{effective}
use Rattle.am_cluster.specs.Operating.{Decide, start}
use Rattle.am_setup.specs.Setup.{Origin}
use Rattle.am_cluster.specs.PrivateCluster.{Course, PrivateCluster, opened, react, react_all, react_one, unchanged, unopened, with_all_opened, with_opened}
use Rattle.am_cluster.specs.Reactions.{Reaction}
use Rattle.am_cluster.specs.Refused.{Refused, InstanceNotUp}
use Rattle.am_cluster.specs.RingChanges.{just_opened, ring_learned}
use Rattle.am_cluster.specs.Roster.{AreInstancesUp, Crashes, Joins, Learns, Leaves, Restarts, RingEvent, Roster, opened_roster, put_at, ring_event_refusal, ring_now, roster_after, three_at, unless_last}
use Rattle.am_cluster.proofs.Newest.{in_order_after, in_order_first, is_member, ring_agreed}

-- ---- instances

pub is_one_of : (i : ℕ) → IsTrue (is_instance i) → Contains all_instances i
is_one_of i is = Contains-from_any {K = ℕ} {eq = eqb} eqb-true i all_instances (all_among i is)

among_instances : (ring : List ℕ) (i : ℕ) → list_all is_instance ring ≡ true → is_among i ring ≡ true
    → IsTrue (is_instance i)
among_instances [] i e w = absurd (false≢true w)
among_instances (j ∷ js) i e w =
    by_place (i == j) refl w
    (λ v. among_instances js i (and_parts (is_instance j) (list_all is_instance js) e).1 v)
  where
    by_place : (b : Bool) → (i == j) ≡ b → (b || is_among i js) ≡ true
        → (is_among i js ≡ true → IsTrue (is_instance i)) → IsTrue (is_instance i)
    by_place true same v later =
        subst (λ k. IsTrue (is_instance k)) (sym (eqb-true i j same))
        (and_parts (is_instance j) (list_all is_instance js) e).0
    by_place false other v later = later v

-- ---- a ring event

put_up : (up : ℕ → Bool) (i : ℕ) (b : Bool) → (b ≡ true → Contains all_instances i)
    → ((j : ℕ) → up j ≡ true → Contains all_instances j) → (j : ℕ) → put_at up i b j ≡ true → Contains all_instances j
put_up up i b is old j e = by_place (j == i) refl e
  where
    by_place : (t : Bool) → (j == i) ≡ t → (if t then b else up j) ≡ true → Contains all_instances j
    by_place true here d = subst (Contains all_instances) (sym (eqb-true j i here)) (is d)
    by_place false elsewhere d = old j d

-- what was not refused passed the test
pub passed : (b : Bool) (o : Option Refused) (refusal : Refused) → (if b then o else Some refusal) ≡ None → b ≡ true
passed true o refusal e = refl
passed false o refusal e = absurd cc

pub up_exist_event : (roster : Roster) (event : RingEvent) → ring_now roster ≡ in_order (ring_now roster)
    → ring_event_refusal event roster ≡ None → AreInstancesUp roster → AreInstancesUp (roster_after event roster)
unfolding ring_event_refusal roster_after
up_exist_event roster (Joins i) ordered none up =
    let may = may_join i (ring_now roster)
    (ring_agreed (join_refusal i (ring_now roster)) (unless_last i roster) none) in
    put_up roster.up i true (λ e. is_one_of i may.is) up
up_exist_event roster (Leaves i) ordered none up = put_up roster.up i false (λ e. absurd (false≢true e)) up
up_exist_event roster (Crashes i) ordered none up = put_up roster.up i false (λ e. absurd (false≢true e)) up
up_exist_event roster (Restarts i) ordered none up =
    let test = passed (is_among i (ring_now roster) && not (roster.up i)) (unless_last i roster) InstanceNotUp none in
    let among = (and_parts (is_among i (ring_now roster)) (not (roster.up i)) test).0 in
    put_up roster.up i true (λ e. is_one_of i (is_member (ring_now roster) i ordered among)) up
up_exist_event roster (Learns i) ordered none up = up

-- ---- one thing happens

-- The roster changes by events of the ring that aren't refused, and by nothing else.
module _ (Q : Roster → Type 0) where
  if_roster : (b : Bool) (c d : Course) → Q c.cluster.roster → Q d.cluster.roster
      → Q (if b then c else d).cluster.roster
  if_roster true c d e f = e
  if_roster false c d e f = f

  react_roster : (f : Here → Local → Reaction) (m i : ℕ) (p : PrivateCluster) → Q p.roster
      → Q (react f m i p).cluster.roster
  unfolding react_one
  react_roster f m i p q = if_roster (p.roster.up i) (react_one f m i p) (unchanged p) q q

  pub changed_roster : (event : RingEvent) (p : PrivateCluster) → Q (roster_after event p.roster)
      → Q (changed event p).cluster.roster
  unfolding changed react_all
  changed_roster (Joins i) p q = react_roster just_opened p.clock i (with_opened i (with_event (Joins i) p)) q
  changed_roster (Leaves i) p q = q
  changed_roster (Crashes i) p q = q
  changed_roster (Restarts i) p q = q
  changed_roster (Learns i) p q =
      react_roster (λ here local. ring_learned here (three_at p.replicas_by p.roster i) local) p.clock i
      (with_event (Learns i) p) q

  delivered_roster : (decide : Decide) (m : ℕ) (o : Option Message) (p : PrivateCluster) → Q p.roster
      → Q (delivered decide m o p).cluster.roster
  delivered_roster decide m None p q = q
  delivered_roster decide m (Some message) p q =
      react_roster (λ here local. arrive decide here message local) m message.to p q

  -- where an event of the ring is what happens, and isn't refused
  abbrev Changes : PrivateCluster → Happening → Type 0
  Changes p h =
      (event : RingEvent) → h ≡ Changed event → ring_event_refusal event p.roster ≡ None
      → Q (roster_after event p.roster)

  handled_roster : (decide : Decide) (p : PrivateCluster) (h : Happening) → refusal_of p h ≡ None → Q p.roster
      → Changes p h → Q (handled_by decide p h).cluster.roster
  unfolding handled_by refusal_of react_all
  handled_roster decide p (Asked connection i moment request) none q new =
      react_roster (λ here local. start here connection request local) (effective moment p.clock) i p q
  handled_roster decide p (Limited limits) none q new = q
  handled_roster decide p (Ticked moment) none q new = q
  handled_roster decide p (Tried i k number tries moment status) none q new =
      react_roster (λ here local. outcome here number tries status local) (effective moment p.clock) i p q
  handled_roster decide p (Delivered from k to count moment) none q new =
      delivered_roster decide (effective moment p.clock) (posted_in p from k to count) p q
  handled_roster decide p (Lost from k to count) none q new = q
  handled_roster decide p (Changed event) none q new = changed_roster event p (new event refl none)
  handled_roster decide p Forced none q new = q

  pub course_roster : (decide : Decide) (p : PrivateCluster) (h : Happening) → Q p.roster → Changes p h
      → Q (course_by decide p h).cluster.roster
  unfolding course_by
  course_roster decide p h q new = by_refusal (refusal_of p h) refl
    where
      by_refusal : (o : Option Refused) → refusal_of p h ≡ o
          → Q (if is_some o then unchanged p else handled_by decide p h).cluster.roster
      by_refusal None none = handled_roster decide p h none q new
      by_refusal (Some refusal) e = q

pub ring_ordered_after : (decide : Decide) (p : PrivateCluster) (h : Happening)
    → ring_now p.roster ≡ in_order (ring_now p.roster)
    → ring_now (course_by decide p h).cluster.roster ≡ in_order (ring_now (course_by decide p h).cluster.roster)
ring_ordered_after decide p h ordered =
    course_roster (λ roster. ring_now roster ≡ in_order (ring_now roster)) decide p h ordered
    (λ event is none. in_order_after p.roster event ordered none)

pub up_exist_after : (decide : Decide) (p : PrivateCluster) (h : Happening)
    → ring_now p.roster ≡ in_order (ring_now p.roster) → AreInstancesUp p.roster
    → AreInstancesUp (course_by decide p h).cluster.roster
up_exist_after decide p h ordered up =
    course_roster AreInstancesUp decide p h up (λ event is none. up_exist_event p.roster event ordered none up)

-- ---- its start

-- where the ring has instances alone
pub up_exist_first : (origin : Origin) → list_all is_instance origin.ring ≡ true
    → AreInstancesUp (opened_roster origin)
up_exist_first origin instances i up = is_one_of i (among_instances origin.ring i instances up)

pub opened_all_roster : (is : List ℕ) (p : PrivateCluster) → (with_all_opened is p).roster ≡ p.roster
opened_all_roster [] p = refl
opened_all_roster (i ∷ is) p = opened_all_roster is (with_opened i p)

module _ (origin : Origin) (tenant : List ℕ) (rows : ℕ → List Item) where
  pub opened_so : (opened origin tenant rows).roster ≡ opened_roster origin
  opened_so = opened_all_roster origin.ring (unopened (replicas tenant) origin tenant rows)

  pub ring_ordered_opened : ring_now (opened origin tenant rows).roster
      ≡ in_order (ring_now (opened origin tenant rows).roster)
  ring_ordered_opened =
      subst (λ roster. ring_now roster ≡ in_order (ring_now roster)) (sym opened_so) (in_order_first origin)

  pub up_exist_opened : list_all is_instance origin.ring ≡ true
      → AreInstancesUp (opened origin tenant rows).roster
  up_exist_opened instances = subst AreInstancesUp (sym opened_so) (up_exist_first origin instances)
