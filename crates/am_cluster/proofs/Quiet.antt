-- A tenant of whom an instance knows nothing stays so at ticks and at changes of the ring.
use Rattle.std.proofs.Common.{◌≡◌, ℕ, Bool, true, false, ◌&&◌, not, List, [], ◌∷◌, ◌++◌, is_some, if◌then◌else◌, refl, ap, ◌∙◌, append-nil}
use Rattle.std.specs.Prelude.{IsTrue, ◌==◌}
use Rattle.std.specs.List.{flat_map}
use Rattle.std.proofs.lemmas.Bool.{false≢true}
use Rattle.am_node.specs.Notices.{planned_alerts, timers_in}
use Rattle.am_item.specs.declared.item.Item.{Item}
use Rattle.am_ring.specs.Instances.{is_among}
use Rattle.am_ring.specs.Replicas.{replicas}
use Rattle.am_rows.specs.Rows.{stored_in}
use Rattle.am_ring.specs.Instances.{all_instances}
use Rattle.am_cluster.specs.Accepting.{accepted}
use Rattle.am_cluster.specs.Courses.{after, after_all, at_restart, changed, course_by, handled_by, refusal_of, told_all, with_event}
use Rattle.am_cluster.specs.Events.{Output}
use Rattle.am_cluster.specs.Happening.{Happening, Asked, Changed, Delivered, Forced, Limited, Lost, Ticked, Tried}
use Rattle.am_cluster.specs.Here.{Here, is_replica_here}
use Rattle.am_cluster.specs.Local.{Local, blank, is_settled}
use Rattle.am_cluster.specs.Operating.{Decide, decision_on, replicas_changed}
use Rattle.am_setup.specs.Setup.{Origin}
use Rattle.am_cluster.specs.Plans.{grouped_of, plan_of}
use Rattle.am_cluster.specs.PrivateCluster.{Course, PrivateCluster, here_at, opened, put_out_at, react, react_all, react_one, reaction_at, stopped, unchanged, unopened, with_all_opened, with_opened}
use Rattle.am_cluster.specs.Reactions.{Reaction, in_turn, only_if, stays, ◌>>◌}
use Rattle.am_cluster.specs.Retiring.{retired}
use Rattle.am_cluster.specs.RingChanges.{are_same, dropped, end_push, go_on, go_on_or_drop, just_opened, opened as opened_with, other_restarted, push_if_settled, ring_learned}
use Rattle.am_cluster.specs.Roster.{Crashes, Joins, Learns, Leaves, Restarts, RingEvent, put_at, three_at}
use Rattle.am_cluster.specs.Sent.{sent_at}
use Rattle.am_cluster.specs.Ticking.{ticked, timers_of}
use Rattle.am_cluster.specs.Transfers.{begin_push}
use Rattle.am_cluster.specs.Unnamed.{IsUnnamed, name_nobody, names_nobody}

-- ---- one reaction

only_if_stays : (t : Bool) (f : Local → Reaction) (l : Local) → f l ≡ stays l → only_if t f l ≡ stays l
only_if_stays true f l e = e
only_if_stays false f l e = refl

if_same : {A : Type 0} (t : Bool) (x y z : A) → x ≡ z → y ≡ z → (if t then x else y) ≡ z
if_same true x y z e d = e
if_same false x y z e d = d

-- what stays, and then what comes
then_stays : (f g : Local → Reaction) (l : Local) → f l ≡ stays l → g l ≡ stays l → (f >> g) l ≡ stays l
then_stays f g l e d = ap (λ r. in_turn r g) e ∙ d

never_three : (b c : Bool) → (b && (c && false)) ≡ false
never_three true true = refl
never_three true false = refl
never_three false c = refl

pub ticked_blank : (here : Here) → ticked here blank ≡ stays blank
unfolding ticked retired timers_of timers_in plan_of grouped_of planned_alerts
ticked_blank here = refl

pub learned_blank : (here : Here) (before : List ℕ) → ring_learned here before blank ≡ stays blank
unfolding ring_learned replicas_changed dropped
learned_blank here before =
    then_stays (only_if (not (are_same before here.three)) replicas_changed) (go_on_or_drop here before) blank
    (only_if_stays (not (are_same before here.three)) replicas_changed blank refl)
    (if_same (is_replica_here here) (go_on here before blank)
    (stays (if is_among here.instance before then dropped blank else blank)) (stays blank) refl
    (ap stays (if_same (is_among here.instance before) (dropped blank) blank blank refl refl)))

pub restarted_blank : (here : Here) (r : ℕ) → other_restarted here r blank ≡ stays blank
unfolding other_restarted replicas_changed
restarted_blank here r =
    only_if_stays (is_among r here.three) (replicas_changed >> (end_push r >> push_if_settled here r)) blank
    (ap (λ t. only_if t (begin_push here r) blank) (never_three (is_replica_here here) (is_settled here blank)))

pub just_opened_blank : (here : Here) → just_opened here blank ≡ stays blank
unfolding just_opened
just_opened_blank here = refl

pub opened_blank : (here : Here) → opened_with here [] ≡ blank
unfolding opened_with accepted
opened_blank here = if_same (is_replica_here here) (accepted here.moment [] blank) blank blank refl refl

restart_blank : (r i : ℕ) (here : Here) → at_restart r i here blank ≡ stays blank
restart_blank r i here =
    if_same (i == r) (just_opened here blank) (other_restarted here r blank) (stays blank) (just_opened_blank here)
    (restarted_blank here r)

-- ---- the cluster

-- nothing was put out, and the tenant is still unnamed
pub record IsQuiet (c : Course) : Type 0 where
  pub cluster : IsUnnamed c.cluster
  pub outputs : c.outputs ≡ []

put_blank : (f : ℕ → Local) (i : ℕ) (x : Local) → ((j : ℕ) → f j ≡ blank) → x ≡ blank → (j : ℕ) → put_at f i x j ≡ blank
put_blank f i x d e j = if_same (j == i) x (f j) blank e (d j)

put_none : (f : ℕ → List Item) (i : ℕ) (x : List Item) → ((j : ℕ) → f j ≡ []) → x ≡ [] → (j : ℕ) → put_at f i x j ≡ []
put_none f i x d e j = if_same (j == i) x (f j) [] e (d j)

quiet_at : (f : ℕ → Here → Local → Reaction) (m : ℕ) (p : PrivateCluster) → ((i : ℕ) (here : Here) → f i here blank ≡ stays blank)
    → IsUnnamed p → (i : ℕ) → reaction_at f m p i ≡ stays blank
quiet_at f m p e u i =
    if_same (p.roster.up i) (f i (here_at p m i) (p.at i)) (stays (p.at i)) (stays blank)
    (ap (f i (here_at p m i)) (u.at i) ∙ e i (here_at p m i))
    (ap stays (u.at i))

all_quiet : (f : ℕ → Here → Local → Reaction) (m : ℕ) (p : PrivateCluster) → ((i : ℕ) (here : Here) → f i here blank ≡ stays blank)
    → IsUnnamed p → IsQuiet (react_all f m p)
unfolding react_all
all_quiet f m p e u =
    let same : (λ i. reaction_at f m p i) ≡ (λ i. stays blank) = λ d i. quiet_at f m p e u i d in
    record {
      cluster = record {
        at = λ i. ap (λ (r : Reaction). r.local) (quiet_at f m p e u i);
        rows = u.rows;
        sent = ap (λ (g : ℕ → Reaction). p.sent ++ flat_map (λ i. sent_at m (g i).said) all_instances) same ∙ append-nil p.sent ∙ u.sent;
      };
      outputs = ap (λ (g : ℕ → Reaction). flat_map (λ i. put_out_at p i (g i).said) all_instances) same;
    }

if_quiet : (t : Bool) (c d : Course) → IsQuiet c → IsQuiet d → IsQuiet (if t then c else d)
if_quiet true c d e f = e
if_quiet false c d e f = f

up_quiet : (f : Here → Local → Reaction) (m i : ℕ) (p : PrivateCluster) → ((here : Here) → f here blank ≡ stays blank)
    → IsUnnamed p → IsQuiet (react_one f m i p)
unfolding react_one
up_quiet f m i p e u =
    let same : f (here_at p m i) (p.at i) ≡ stays blank = ap (f (here_at p m i)) (u.at i) ∙ e (here_at p m i) in
    record {
      cluster = record {
        at = put_blank p.at i (f (here_at p m i) (p.at i)).local u.at (ap (λ (r : Reaction). r.local) same);
        rows = u.rows;
        sent = ap (λ (r : Reaction). p.sent ++ sent_at m r.said) same ∙ append-nil p.sent ∙ u.sent;
      };
      outputs = ap (λ (r : Reaction). put_out_at p i r.said) same;
    }

one_quiet : (f : Here → Local → Reaction) (m i : ℕ) (p : PrivateCluster) → ((here : Here) → f here blank ≡ stays blank)
    → IsUnnamed p → IsQuiet (react f m i p)
one_quiet f m i p e u =
    if_quiet (p.roster.up i) (react_one f m i p) (unchanged p) (up_quiet f m i p e u) (record { cluster = u; outputs = refl })

opened_quiet : (i : ℕ) (p : PrivateCluster) → IsUnnamed p → IsUnnamed (with_opened i p)
opened_quiet i p u = record {
  at = put_blank p.at i (opened_with (here_at p p.clock i) (p.rows i)) u.at
      (ap (opened_with (here_at p p.clock i)) (u.rows i) ∙ opened_blank (here_at p p.clock i));
  rows = put_none p.rows i [] u.rows refl;
  sent = u.sent;
}

with_event_quiet : (event : RingEvent) (p : PrivateCluster) → IsUnnamed p → IsUnnamed (with_event event p)
with_event_quiet event p u = record { at = u.at; rows = u.rows; sent = u.sent }

stopped_quiet : (i : ℕ) (left : List Item) (p : PrivateCluster) → left ≡ [] → IsUnnamed p → IsUnnamed (stopped i left p)
stopped_quiet i left p e u = record {
  at = put_blank p.at i blank u.at refl;
  rows = put_none p.rows i left u.rows e;
  sent = u.sent;
}

changed_quiet : (event : RingEvent) (p : PrivateCluster) → IsUnnamed p → IsQuiet (changed event p)
unfolding changed stored_in
changed_quiet (Joins i) p u =
    one_quiet just_opened p.clock i (with_opened i (with_event (Joins i) p)) just_opened_blank
    (opened_quiet i (with_event (Joins i) p) (with_event_quiet (Joins i) p u))
changed_quiet (Leaves i) p u = record {
  cluster = stopped_quiet i (if p.roster.up i then [] else p.rows i) (with_event (Leaves i) p)
      (if_same (p.roster.up i) [] (p.rows i) [] refl (u.rows i)) (with_event_quiet (Leaves i) p u);
  outputs = refl;
}
changed_quiet (Crashes i) p u = record {
  cluster = stopped_quiet i (stored_in (p.at i).held) (with_event (Crashes i) p)
      (ap (λ (l : Local). stored_in l.held) (u.at i)) (with_event_quiet (Crashes i) p u);
  outputs = refl;
}
changed_quiet (Restarts i) p u =
    all_quiet (at_restart i) p.clock (with_opened i (with_event (Restarts i) p)) (restart_blank i)
    (opened_quiet i (with_event (Restarts i) p) (with_event_quiet (Restarts i) p u))
changed_quiet (Learns i) p u =
    one_quiet (λ here local. ring_learned here (three_at p.replicas_by p.roster i) local) p.clock i (with_event (Learns i) p)
    (λ here. learned_blank here (three_at p.replicas_by p.roster i)) (with_event_quiet (Learns i) p u)

handled_quiet : (decide : Decide) (p : PrivateCluster) (h : Happening) → IsTrue (names_nobody h) → IsUnnamed p → IsQuiet (handled_by decide p h)
unfolding handled_by
handled_quiet decide p (Ticked moment) e u =
    all_quiet (λ i. ticked) moment (record p { clock = moment }) (λ i. ticked_blank)
    (record { at = u.at; rows = u.rows; sent = u.sent })
handled_quiet decide p (Changed event) e u = changed_quiet event p u
handled_quiet decide p (Asked connection i moment request) e u = absurd (false≢true e)
handled_quiet decide p (Limited limits) e u = absurd (false≢true e)
handled_quiet decide p (Tried i k number tries moment status) e u = absurd (false≢true e)
handled_quiet decide p (Delivered from k to count moment) e u = absurd (false≢true e)
handled_quiet decide p (Lost from k to count) e u = absurd (false≢true e)
handled_quiet decide p Forced e u = absurd (false≢true e)

course_quiet : (decide : Decide) (p : PrivateCluster) (h : Happening) → IsTrue (names_nobody h) → IsUnnamed p → IsQuiet (course_by decide p h)
unfolding course_by
course_quiet decide p h e u =
    if_quiet (is_some (refusal_of p h)) (unchanged p) (handled_by decide p h) (record { cluster = u; outputs = refl })
    (handled_quiet decide p h e u)

-- ---- one thing after the other

both : (b c : Bool) → IsTrue (b && c) → IsTrue b × IsTrue c
both true c e = (refl, e)
both false c e = absurd (false≢true e)

pub stay_unnamed : (p : PrivateCluster) (hs : List Happening) → IsUnnamed p → IsTrue (name_nobody hs) → IsUnnamed (after_all p hs)
stay_unnamed p [] u e = u
stay_unnamed p (h ∷ hs) u e =
    let parts = both (names_nobody h) (name_nobody hs) e in
    stay_unnamed (after p h) hs (course_quiet (decision_on p.service_key) p h parts.0 u).cluster parts.1

pub say_nothing : (p : PrivateCluster) (hs : List Happening) → IsUnnamed p → IsTrue (name_nobody hs) → told_all p hs ≡ []
say_nothing p [] u e = refl
say_nothing p (h ∷ hs) u e =
    let parts = both (names_nobody h) (name_nobody hs) e in
    let quiet = course_quiet (decision_on p.service_key) p h parts.0 u in
    ap (λ (o : List Output). o ++ told_all (after p h) hs) quiet.outputs ∙ say_nothing (after p h) hs quiet.cluster parts.1

-- ---- its start

all_opened : (is : List ℕ) (p : PrivateCluster) → IsUnnamed p → IsUnnamed (with_all_opened is p)
all_opened [] p u = u
all_opened (i ∷ more) p u = all_opened more (with_opened i p) (opened_quiet i p u)

pub opened_unnamed : (origin : Origin) (tenant : List ℕ) → IsUnnamed (opened origin tenant (λ i. []))
opened_unnamed origin tenant =
    all_opened origin.ring (unopened (replicas tenant) origin tenant (λ i. []))
    (record { at = λ i. refl; rows = λ i. refl; sent = refl })
