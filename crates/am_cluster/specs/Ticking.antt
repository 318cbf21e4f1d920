-- What an instance does at a tick: it drops what is retired, and then does what is due, by timers that it computes
-- anew.
use Rattle.std.specs.Prelude.{ℕ, Bool, List, ◌++◌, map, Option, Some, None, unwrap_or}
use Rattle.am_node.specs.Notices.{Plan, flush_due, group_in, in_order, timers_in}
use Rattle.am_current.specs.Current.{configuration_in}
use Rattle.am_item.specs.Retirement.{moment_after}
use Rattle.am_labels.specs.declared.Label.{Label}
use Rattle.am_muting.specs.Muting.{muted_sets}
use Rattle.am_outlet.specs.Attempts.{is_due}
use Rattle.am_quorum.specs.Operations.{due_of}
use Rattle.am_ring.specs.Instances.{is_among}
use Rattle.am_timer.specs.Queue.{due_at}
use Rattle.am_timer.specs.Timer.{Key, Timer}
use Rattle.am_timer.specs.declared.key.FlushKey.{FlushKey}
use Rattle.am_timer.specs.declared.key.TimerKey.TheVariants.{Operation as OperationKey, Group as GroupKey}
use Rattle.am_timer.specs.declared.key.TimerKey.TheVariants.{Retry as RetryKey, Push as PushKey}
use Rattle.am_cluster.specs.Delivery.{retried}
use Rattle.am_cluster.specs.Flushing.{flushed}
use Rattle.am_cluster.specs.Here.{Here}
use Rattle.am_cluster.specs.Local.{Local}
use Rattle.am_cluster.specs.Operating.{timed_out}
use Rattle.am_cluster.specs.Operations.{Operation, operation_at}
use Rattle.am_transfer.specs.Peers.{at_number, peer}
use Rattle.am_cluster.specs.Plans.{plan_of}
use Rattle.am_cluster.specs.Reactions.{Reaction, each, only_if, where_some}
use Rattle.am_cluster.specs.Retiring.{retired}
use Rattle.am_transfer.specs.Settling.{Push}
use Rattle.am_cluster.specs.Transfers.{ask, asked, push}

-- a State that is pushed and an Ask are sent again so many milliseconds after they were last sent
abbrev pub again_after : ℕ
again_after = 10_000

-- ---- the timers

abbrev pub timer_at : (tenant : List ℕ) → Key → (due : ℕ) → Timer
timer_at t key due = record { due = due; name = record { tenant = t; key = key } }

abbrev pub deadlines : (tenant : List ℕ) → Local → List Timer
deadlines t local =
    map (λ (o : Operation). timer_at t (OperationKey o.number) (due_of o)) local.operations

abbrev pub push_timers : (tenant : List ℕ) → Local → List Timer
push_timers t local = map (λ e. timer_at t (PushKey e.0) (moment_after (e.1).last again_after)) local.settling.pushes

abbrev pub ask_timers : Here → Local → List Timer
ask_timers here local =
    map (λ i. timer_at here.tenant (PushKey i) (moment_after (unwrap_or local.settling.asked_at 0) again_after))
    (asked here local)

-- all timers of the tenant, in order: deadlines of operations, flushes of groups, tries of attempts, pushes and Asks.
-- (No instance has a push and an Ask to the same one: only a settled replica pushes, only an unsettled one asks.)
unfoldable pub timers_of : Here → Local → List Timer
timers_of here local =
    in_order (deadlines here.tenant local ++ (timers_in here.tenant (plan_of here local)
    ++ (push_timers here.tenant local ++ ask_timers here local)))

-- the keys of the timers that are due now, in order
abbrev pub due_keys : Here → Local → List Key
due_keys here local = map (λ (x : Timer). x.name.key) (due_at here.moment (timers_of here local))

-- ---- what is done for them

-- the flush of a group is due now
abbrev pub is_flush_due : Here → FlushKey → Local → Bool
is_flush_due here key local =
    let plan : Plan = plan_of here local in is_due here.moment (flush_due plan.paces plan.grouped key)

-- a State that is pushed to an instance is sent again; else an Ask, where one was sent to it
abbrev pub send_again : Here → (to : ℕ) → Option Push → Local → Reaction
send_again here to (Some p) local = push here (peer to p.incarnation) local
send_again here to None local = only_if (is_among to (asked here local)) (ask here to) local

-- what is done for a timer, where it is still due
unfoldable pub handled : Here → (muted : List (List Label)) → Key → Local → Reaction
handled here muted (OperationKey number) local = where_some timed_out (operation_at number local.operations) local
handled here muted (GroupKey key) local =
    only_if (is_flush_due here key local) (flushed here muted (group_in key)) local
handled here muted (RetryKey number) local = retried here number local
handled here muted (PushKey to) local = send_again here to (at_number to local.settling.pushes) local

-- the label sets of the alerts that something mutes
abbrev pub muted_of : Here → Local → List (List Label)
muted_of here local = muted_sets (configuration_in local.held) here.moment local.held

-- all that is due is done once, in order; what is set meanwhile waits for another tick
abbrev pub done_by : Here → Local → Reaction
done_by here local = each (handled here (muted_of here local)) (due_keys here local) local

-- a tick: what is retired goes, and then what is due is done
unfoldable pub ticked : Here → Local → Reaction
ticked here local = done_by here (retired here.moment local)
