-- What is known from the events of the ring; each private cluster has the same.
use Rattle.std.proofs.Common.{◌≡◌, ℕ, ◌+◌, ◌<◌, Bool, true, false, Contains, List, [], ◌∷◌, ◌++◌}
use Rattle.std.proofs.Common.{Option, Some, None, is_some, if◌then◌else◌, refl, sym, ap, subst, ◌∙◌, arith}
use Rattle.std.specs.Prelude.{IsTrue, ◌==◌, ◌&&◌, not, option_map}
use Rattle.std.proofs.lemmas.Bool.{and_parts, false≢true}
use Rattle.am_http.specs.Verdict.{verdict}
use Rattle.am_http.specs.declared.request.Fed.{Fed}
use Rattle.am_http.specs.declared.request.Fed.TheVariants as fed
use Rattle.am_item.specs.declared.item.Item.{Item}
use Rattle.am_ring.specs.Changes.{join_refusal, leave_refusal, with_instance, without}
use Rattle.am_ring.specs.Instances.{all_instances, in_order, is_among, is_instance}
use Rattle.am_ring.proofs.Admitted.{may_join, may_leave}
use Rattle.am_ring.proofs.Numbers.{is_instance_from, number_at}
use Rattle.am_tenant.specs.Names.{same}
use Rattle.am_cluster.specs.Courses.{after, after_all, changed, course_by, handled_by, refusal_of}
use Rattle.am_cluster.specs.Events.{Event, Open, Bytes, Close, Limits, Tick, Outcome, Deliver, Lose}
use Rattle.am_cluster.specs.Events.{Join, Leave, Crash, Restart, Learn, Force}
use Rattle.am_cluster.specs.Happening.{Happening, Asked, Changed, Delivered, Forced, Limited, Lost, Ticked, Tried}
use Rattle.am_cluster.specs.Moments.{is_too_late}
use Rattle.am_cluster.specs.Operating.{decision_on}
use Rattle.am_setup.specs.Setup.{Origin}
use Rattle.am_cluster.specs.PrivateCluster.{PrivateCluster, opened, unchanged}
use Rattle.am_cluster.specs.Refused.{Refused, InstanceNotUp, NothingToLearn}
use Rattle.am_cluster.specs.Rings.{Rings, newest_epoch, newest_ring}
use Rattle.am_cluster.specs.Roster.{AreInstancesUp, IsSameRoster, Roster, opened_roster, put_at, with_opened_in}
use Rattle.am_cluster.specs.Roster.{Crashes, Joins, Learns, Leaves, Restarts, RingEvent, instance_in, roster_after}
use Rattle.am_cluster.specs.Roster.{ring_event_refusal, ring_now, unless_last}
use Rattle.am_cluster.specs.View.{AskedAs, FrontAnswered, Reading, Seen, Shut, Table, Watch, adds, asked_by, asked_on}
use Rattle.am_cluster.specs.View.{first_watch, look, noted, shut_at, shut_by, shut_in, view, watch, watch_all}
use Rattle.am_cluster.specs.View.{watch_change, with_table}
use Rattle.am_cluster.proofs.Newest.{in_order_after, is_member, ring_agreed}
use Rattle.am_cluster.proofs.UpExist.{changed_roster, course_roster, opened_so, passed, up_exist_event}

-- ---- other numbers

number_of : (i : ℕ) → Contains all_instances i → IsTrue (is_instance i)
number_of i c =
    let below : c.0 < 8 = c.1 in
    let next : c.0 + 1 ≡ i = sym (number_at c.0 i c.1) ∙ c.2 in
    is_instance_from i (record { low = omega arith; high = omega arith })

-- what isn't refused names an instance
unrefused_named : (roster : Roster) (event : RingEvent) → ring_now roster ≡ in_order (ring_now roster)
    → AreInstancesUp roster → ring_event_refusal event roster ≡ None → is_instance (instance_in event) ≡ true
unfolding ring_event_refusal
unrefused_named roster (Joins i) ordered up none =
    (may_join i (ring_now roster) (ring_agreed (join_refusal i (ring_now roster)) (unless_last i roster) none)).is
unrefused_named roster (Leaves i) ordered up none =
    is_member (ring_now roster) i ordered
    (may_leave i (ring_now roster) (ring_agreed (leave_refusal i (ring_now roster)) None none)).among
unrefused_named roster (Crashes i) ordered up none =
    number_of i (up i (passed (roster.up i) None InstanceNotUp none))
unrefused_named roster (Restarts i) ordered up none =
    let test = passed (is_among i (ring_now roster) && not (roster.up i)) (unless_last i roster) InstanceNotUp none in
    is_member (ring_now roster) i ordered (and_parts (is_among i (ring_now roster)) (not (roster.up i)) test).0
unrefused_named roster (Learns i) ordered up none =
    number_of i (up i (and_parts (roster.up i) _ (passed _ None NothingToLearn none)).0)

pub others_refused : (roster : Roster) (event : RingEvent) → ring_now roster ≡ in_order (ring_now roster)
    → AreInstancesUp roster → is_instance (instance_in event) ≡ false → is_some (ring_event_refusal event roster) ≡ true
others_refused roster event ordered up other =
    by_refusal (ring_event_refusal event roster) (unrefused_named roster event ordered up)
  where
    by_refusal : (o : Option Refused) → (o ≡ None → is_instance (instance_in event) ≡ true) → is_some o ≡ true
    by_refusal (Some refusal) named = refl
    by_refusal None named = absurd (false≢true (sym other ∙ named refl))

-- ---- what holds of the roster that is known

module _ (Q : Roster → Type 0) where
  if_watched : (b : Bool) (v u : Watch) → Q v.roster → Q u.roster → Q (if b then v else u).roster
  if_watched true v u q r = q
  if_watched false v u q r = r

  -- where events of the ring keep it, unless they are refused
  abbrev Keeps : Roster → Type 0
  Keeps roster = (event : RingEvent) → ring_event_refusal event roster ≡ None → Q (roster_after event roster)

  changed_watched : (v : Watch) (event : RingEvent) → Q v.roster → Keeps v.roster → Q (watch_change event v).roster
  unfolding watch_change
  changed_watched v event q keeps = by_refusal (ring_event_refusal event v.roster) refl
    where
      by_refusal : (o : Option Refused) → ring_event_refusal event v.roster ≡ o
          → Q (if is_some o then v else record { table = shut_in event v.table; roster = roster_after event v.roster }).roster
      by_refusal None none = keeps event none
      by_refusal (Some refusal) e = q

  watched : (v : Watch) (e : Event) → Q v.roster → Keeps v.roster → Q (watch v e).roster
  unfolding watch
  watched v (Open c i) q keeps = if_watched (v.roster.up i) (with_table ((c, Reading i []) ∷ v.table) v) v q q
  watched v (Bytes c moment piece) q keeps =
      if_watched (is_too_late moment) v (with_table (noted c piece (look c v.table) v.table) v) q q
  watched v (Close c) q keeps = q
  watched v (Limits tenant limits) q keeps = q
  watched v (Tick moment) q keeps = q
  watched v (Outcome attempt tries moment status) q keeps = q
  watched v (Deliver message moment) q keeps = q
  watched v (Lose message) q keeps = q
  watched v (Join i) q keeps = changed_watched v (Joins i) q keeps
  watched v (Leave i) q keeps = changed_watched v (Leaves i) q keeps
  watched v (Crash i) q keeps = changed_watched v (Crashes i) q keeps
  watched v (Restart i) q keeps = changed_watched v (Restarts i) q keeps
  watched v (Learn i) q keeps = changed_watched v (Learns i) q keeps
  watched v (Force tenant) q keeps = q

pub up_exist_watched : (v : Watch) (e : Event) → ring_now v.roster ≡ in_order (ring_now v.roster)
    → AreInstancesUp v.roster → AreInstancesUp (watch v e).roster
up_exist_watched v e ordered up =
    watched AreInstancesUp v e up (λ event none. up_exist_event v.roster event ordered none up)

pub ring_ordered_watched : (v : Watch) (e : Event) → ring_now v.roster ≡ in_order (ring_now v.roster)
    → ring_now (watch v e).roster ≡ in_order (ring_now (watch v e).roster)
ring_ordered_watched v e ordered =
    watched (λ roster. ring_now roster ≡ in_order (ring_now roster)) v e ordered
    (λ event none. in_order_after v.roster event ordered none)

-- ---- the connections that an instance shuts

pub look-shut_at : (c i : ℕ) (table : Table) → look c (shut_at i table) ≡ option_map (shut_by i) (look c table)
look-shut_at c i [] = refl
look-shut_at c i ((d, seen) ∷ table) = by_name (c == d) (look-shut_at c i table)
  where
    by_name : (b : Bool) → look c (shut_at i table) ≡ option_map (shut_by i) (look c table)
        → (if b then Some (shut_by i seen) else look c (shut_at i table))
        ≡ option_map (shut_by i) (if b then Some seen else look c table)
    by_name true later = refl
    by_name false later = later

-- ---- the same roster

itself : (roster : Roster) → IsSameRoster roster roster
itself roster = record { rings = refl; known = λ i. refl; up = λ i. refl; incarnation = λ i. refl; first = refl }

pub refused_same : (event : RingEvent) (one other : Roster) → IsSameRoster one other
    → ring_event_refusal event one ≡ ring_event_refusal event other
unfolding ring_event_refusal
refused_same (Joins i) one other s = rw (s.rings, s.incarnation i) refl
refused_same (Leaves i) one other s = rw s.rings refl
refused_same (Crashes i) one other s = rw (s.up i) refl
refused_same (Restarts i) one other s = rw (s.rings, s.up i, s.incarnation i) refl
refused_same (Learns i) one other s = rw (s.up i, s.known i, s.rings) refl

put_same : {A : Type 0} (f g : ℕ → A) (i : ℕ) (x y : A) → ((j : ℕ) → f j ≡ g j) → x ≡ y
    → (j : ℕ) → put_at f i x j ≡ put_at g i y j
put_same f g i x y same here j = by_place (j == i)
  where
    by_place : (b : Bool) → (if b then x else f j) ≡ (if b then y else g j)
    by_place true = here
    by_place false = same j

opened_same : (i : ℕ) (one other : Roster) (rings rings' : Rings) → rings ≡ rings' → IsSameRoster one other
    → IsSameRoster (with_opened_in rings i one) (with_opened_in rings' i other)
opened_same i one other rings rings' e s = record {
  rings = e;
  known = put_same one.known other.known i (newest_epoch rings) (newest_epoch rings') s.known (ap newest_epoch e);
  up = put_same one.up other.up i true true s.up refl;
  incarnation = put_same one.incarnation other.incarnation i (one.incarnation i + 1) (other.incarnation i + 1)
      s.incarnation (ap (λ n. n + 1) (s.incarnation i));
  first = s.first;
}

pub after_same : (event : RingEvent) (one other : Roster) → IsSameRoster one other
    → IsSameRoster (roster_after event one) (roster_after event other)
unfolding roster_after
after_same (Joins i) one other s =
    opened_same i one other _ _ (ap (λ (rings : Rings). rings ++ with_instance i (newest_ring rings) ∷ []) s.rings) s
after_same (Leaves i) one other s = record {
  rings = ap (λ (rings : Rings). rings ++ without i (newest_ring rings) ∷ []) s.rings;
  known = s.known;
  up = put_same one.up other.up i false false s.up refl;
  incarnation = s.incarnation;
  first = s.first;
}
after_same (Crashes i) one other s = record {
  rings = s.rings;
  known = s.known;
  up = put_same one.up other.up i false false s.up refl;
  incarnation = s.incarnation;
  first = s.first;
}
after_same (Restarts i) one other s = opened_same i one other one.rings other.rings s.rings s
after_same (Learns i) one other s = record {
  rings = s.rings;
  known = put_same one.known other.known i (one.known i + 1) (other.known i + 1) s.known
      (ap (λ n. n + 1) (s.known i));
  up = s.up;
  incarnation = s.incarnation;
  first = s.first;
}

-- ---- what leaves the roster of a private cluster as it is

abbrev Rests : PrivateCluster → List Happening → Type 0
Rests p hs = (after_all p hs).roster ≡ p.roster

abbrev IsNoChange : Happening → Type 0
IsNoChange h = (event : RingEvent) → h ≡ Changed event → ⊥

one_rests : (p : PrivateCluster) (h : Happening) → IsNoChange h → Rests p (h ∷ [])
one_rests p h none =
    course_roster (λ roster. roster ≡ p.roster) (decision_on p.service_key) p h refl
    (λ event is unrefused. absurd (none event is))

if_rests : (p : PrivateCluster) (h : Happening) → IsNoChange h → (b : Bool) → Rests p (if b then h ∷ [] else [])
if_rests p h none true = one_rests p h none
if_rests p h none false = refl

by_rests : (p : PrivateCluster) (t : List ℕ) (c i moment : ℕ) (told : Fed) → Rests p (asked_by t c i moment told)
by_rests p t c i moment fed.Waits = refl
by_rests p t c i moment (fed.Refused reason) = refl
by_rests p t c i moment fed.Ready = refl
by_rests p t c i moment (fed.Request request) =
    if_rests p (Asked c i moment request) (λ event is. cc) (same t request.tenant)

on_rests : (p : PrivateCluster) (t : List ℕ) (c moment : ℕ) (piece : List ℕ) (o : Option Seen)
    → Rests p (asked_on t c moment piece o)
on_rests p t c moment piece (Some (Reading i before)) = by_rests p t c i moment (verdict (before ++ piece))
on_rests p t c moment piece (Some (AskedAs tenant)) = refl
on_rests p t c moment piece (Some FrontAnswered) = refl
on_rests p t c moment piece (Some Shut) = refl
on_rests p t c moment piece None = refl

-- ---- one event

module _ (t : List ℕ) (v : Watch) (p : PrivateCluster) (s : IsSameRoster p.roster v.roster) where
  rested : (hs : List Happening) → Rests p hs → IsSameRoster (after_all p hs).roster v.roster
  rested hs rests = subst (λ roster. IsSameRoster roster v.roster) (sym rests) s

  named : (tenant : List ℕ) (h : Happening) → IsNoChange h
      → IsSameRoster (after_all p (if same t tenant then h ∷ [] else [])).roster v.roster
  named tenant h none = rested (if same t tenant then h ∷ [] else []) (if_rests p h none (same t tenant))

  changed_known : (event : RingEvent) → IsSameRoster (after p (Changed event)).roster (watch_change event v).roster
  unfolding watch_change course_by handled_by refusal_of
  changed_known event =
      by_refusal (ring_event_refusal event p.roster) (ring_event_refusal event v.roster)
      (refused_same event p.roster v.roster s)
    where
      by_refusal : (o o' : Option Refused) → o ≡ o'
          → IsSameRoster (if is_some o then unchanged p else changed event p).cluster.roster
          (if is_some o' then v else record { table = shut_in event v.table; roster = roster_after event v.roster }).roster
      by_refusal None None e =
          changed_roster (λ roster. IsSameRoster roster (roster_after event v.roster)) event p
          (after_same event p.roster v.roster s)
      by_refusal (Some refusal) (Some refusal') e = s
      by_refusal None (Some refusal) e = absurd cc
      by_refusal (Some refusal) None e = absurd cc

  opened_known : (table : Table) (b : Bool) → IsSameRoster p.roster (if b then with_table table v else v).roster
  opened_known table true = s
  opened_known table false = s

  read_known : (c moment : ℕ) (piece : List ℕ) (table : Table) (o : Option Seen) (b : Bool)
      → IsSameRoster (after_all p (if b then [] else asked_on t c moment piece o)).roster
      (if b then v else with_table table v).roster
  read_known c moment piece table o true = s
  read_known c moment piece table o false =
      rested (asked_on t c moment piece o) (on_rests p t c moment piece o)

  known_by : (e : Event) → IsSameRoster (after_all p (adds t v e)).roster (watch v e).roster
  unfolding watch adds
  known_by (Open c i) = opened_known ((c, Reading i []) ∷ v.table) (v.roster.up i)
  known_by (Bytes c moment piece) =
      read_known c moment piece (noted c piece (look c v.table) v.table) (look c v.table) (is_too_late moment)
  known_by (Close c) = s
  known_by (Limits tenant limits) =
      named tenant (Limited limits) (λ event is. cc)
  known_by (Tick moment) = rested (Ticked moment ∷ []) (one_rests p (Ticked moment) (λ event is. cc))
  known_by (Outcome a tries moment status) =
      named a.tenant (Tried a.instance a.incarnation a.number tries moment status) (λ event is. cc)
  known_by (Deliver m moment) =
      named m.tenant (Delivered m.from m.incarnation m.to m.count moment) (λ event is. cc)
  known_by (Lose m) = named m.tenant (Lost m.from m.incarnation m.to m.count) (λ event is. cc)
  known_by (Join i) = changed_known (Joins i)
  known_by (Leave i) = changed_known (Leaves i)
  known_by (Crash i) = changed_known (Crashes i)
  known_by (Restart i) = changed_known (Restarts i)
  known_by (Learn i) = changed_known (Learns i)
  known_by (Force tenant) = named tenant Forced (λ event is. cc)

pub known_after : (t : List ℕ) (v : Watch) (e : Event) (p : PrivateCluster) → IsSameRoster p.roster v.roster
    → IsSameRoster (after_all p (adds t v e)).roster (watch v e).roster
known_after t v e p s = known_by t v p s e

-- ---- all events

after_all-append : (p : PrivateCluster) (xs ys : List Happening)
    → after_all p (xs ++ ys) ≡ after_all (after_all p xs) ys
after_all-append p [] ys = refl
after_all-append p (x ∷ xs) ys = after_all-append (after p x) xs ys

known_all : (t : List ℕ) (v : Watch) (es : List Event) (p : PrivateCluster) → IsSameRoster p.roster v.roster
    → IsSameRoster (after_all p (view t v es)).roster (watch_all v es).roster
known_all t v [] p s = s
known_all t v (e ∷ es) p s =
    subst (λ (q : PrivateCluster). IsSameRoster q.roster (watch_all (watch v e) es).roster)
    (sym (after_all-append p (adds t v e) (view t (watch v e) es)))
    (known_all t (watch v e) es (after_all p (adds t v e)) (known_after t v e p s))

pub known_from_events : (origin : Origin) (t : List ℕ) (rows : ℕ → List Item) (es : List Event)
    → IsSameRoster (after_all (opened origin t rows) (view t (first_watch origin) es)).roster
    (watch_all (first_watch origin) es).roster
known_from_events origin t rows es =
    known_all t (first_watch origin) es (opened origin t rows)
    (subst (λ roster. IsSameRoster roster (opened_roster origin)) (sym (opened_so origin t rows))
    (itself (opened_roster origin)))
