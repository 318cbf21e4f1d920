-- A tenant of whom nothing is had: what happens at all instances or at a tick makes nothing of it, and nothing is said.
use Rattle.std.proofs.Common.{◌≡◌, ◌∙◌, ℕ, Bool, true, false, ◌&&◌, not, List, [], Option, None, ap, refl}
use Rattle.std.proofs.Common.{if◌then◌else◌}
use Rattle.am_agenda.specs.Plan.{flush_due, group_in}
use Rattle.am_cluster.specs.Delivery.{outcome}
use Rattle.am_cluster.specs.Flushing.{flushed}
use Rattle.am_cluster.specs.Here.{Here, is_replica_here, others}
use Rattle.am_cluster.specs.Local.{Local, blank, holds_any, is_settled, with_settling}
use Rattle.am_cluster.specs.Operating.{replicas_changed}
use Rattle.am_cluster.specs.Plans.{grouped_of, plan_of}
use Rattle.am_cluster.specs.Reactions.{Reaction, only_if, stays, ◌>>◌}
use Rattle.am_cluster.specs.Retiring.{retired}
use Rattle.am_cluster.specs.RingChanges.{are_same, dropped, end_push, go_on, just_opened, other_restarted}
use Rattle.am_cluster.specs.RingChanges.{push_if_settled}
use Rattle.am_cluster.specs.RingChanges.{ring_learned}
use Rattle.am_cluster.specs.Ticking.{handled, is_flush_due}
use Rattle.am_labels.specs.declared.Label.{Label}
use Rattle.am_node.specs.Delivery.{retried as retried_in_node}
use Rattle.am_outlet.specs.Attempts.{is_due}
use Rattle.am_node.specs.Notices.{planned_alerts}
use Rattle.am_ring.specs.Instances.{is_among}
use Rattle.am_site.proofs.Planned.{not_due}
use Rattle.am_timer.specs.Timer.{Key}
use Rattle.am_timer.specs.declared.key.FlushKey.{FlushKey}
use Rattle.am_timer.specs.declared.key.TimerKey.TheVariants.{Operation as OperationKey, Group as GroupKey}
use Rattle.am_timer.specs.declared.key.TimerKey.TheVariants.{Retry as RetryKey, Push as PushKey}
use Rattle.am_instance.specs.Changing.{started, turning}
use Rattle.am_instance.specs.declared.restarting.Start.{Start}
use Rattle.am_instance.specs.declared.restarting.Start.TheVariants.{Own, Other}

-- a reaction leaves nothing of nothing, in silence
abbrev pub IsInert : (Here → Local → Reaction) → Type 0
IsInert react = (here : Here) → react here blank ≡ stays blank

-- ---- ticks and outcomes

pub retired_blank : (moment : ℕ) → retired moment blank ≡ blank
unfolding retired grouped_of
retired_blank moment = refl

no_flush : (here : Here) (key : FlushKey) → is_flush_due here key blank ≡ false
unfolding plan_of grouped_of planned_alerts
no_flush here key = ap (is_due here.moment) (not_due (plan_of here blank) key refl)

pub handled_blank : (here : Here) (muted : List (List Label)) (key : Key) → (handled here muted key blank).local ≡ blank
unfolding handled plan_of grouped_of retried_in_node
handled_blank here muted (OperationKey number) = refl
handled_blank here muted (GroupKey key) =
    ap (λ b. (only_if b (flushed here muted (group_in key)) blank).local) (no_flush here key)
handled_blank here muted (RetryKey number) = refl
handled_blank here muted (PushKey to) = refl

pub outcome_blank : (here : Here) (number tries : ℕ) (status : Option ℕ)
    → (outcome here number tries status blank).local ≡ blank
unfolding outcome
outcome_blank here number tries status = refl

-- ---- the ring and other instances

only_inert : (b : Bool) (react : Local → Reaction) (l : Local) → react l ≡ stays l → only_if b react l ≡ stays l
only_inert true react l is = is
only_inert false react l is = refl

-- one thing after the other
inert_then : (first next : Local → Reaction) (l : Local) → first l ≡ stays l → next l ≡ stays l
    → (first >> next) l ≡ stays l
inert_then first next l one two = rw (one, two) refl

changed_blank : replicas_changed blank ≡ stays blank
unfolding replicas_changed
changed_blank = refl

none_held : (a b : Bool) → (a && (b && false)) ≡ false
none_held true true = refl
none_held true false = refl
none_held false b = refl

no_push : (here : Here) (r : ℕ) → push_if_settled here r blank ≡ stays blank
no_push here r = rw (none_held (is_replica_here here) (is_settled here blank)) refl

pub other_blank : (r : ℕ) → IsInert (λ here. other_restarted here r)
unfolding other_restarted
other_blank r here =
    only_inert (is_among r here.three) (replicas_changed >> (end_push r >> push_if_settled here r)) blank
    (inert_then replicas_changed (end_push r >> push_if_settled here r) blank changed_blank
    (inert_then (end_push r) (push_if_settled here r) blank refl (no_push here r)))

pub opened_blank : IsInert just_opened
unfolding just_opened
opened_blank here = refl

pub started_blank : (start : Start) → IsInert (started start)
started_blank Own here = opened_blank here
started_blank (Other r) here = other_blank r here

kept_or_dropped : (r a : Bool) (here : Here) (before : List ℕ)
    → (if r then go_on here before blank else stays (if a then dropped blank else blank)) ≡ stays blank
unfolding dropped
kept_or_dropped true a here before = refl
kept_or_dropped false true here before = refl
kept_or_dropped false false here before = refl

pub learned_blank : (before : List ℕ) → IsInert (λ here. ring_learned here before)
unfolding ring_learned
learned_blank before here =
    inert_then (only_if (not (are_same before here.three)) replicas_changed)
    (λ local. if is_replica_here here then go_on here before local
    else stays (if is_among here.instance before then dropped local else local)) blank
    (only_inert (not (are_same before here.three)) replicas_changed blank changed_blank)
    (kept_or_dropped (is_replica_here here) (is_among here.instance before) here before)
