-- What an instance does at a tick.
use Rattle.std.specs.Prelude.{ℕ, Bool, true, false, List, map}
use Rattle.am_notifier.specs.Planned.{Plan, flush_due, group_in, timers_in}
use Rattle.am_current.specs.Current.{configuration_in}
use Rattle.am_labels.specs.declared.Label.{Label}
use Rattle.am_muting.specs.Muting.{muted_sets}
use Rattle.am_outlet.specs.Attempts.{is_due}
use Rattle.am_timer.specs.Queue.{due_at}
use Rattle.am_timer.specs.Timer.{Key}
use Rattle.am_timer.specs.declared.key.TimerKey.TheVariants.{Operation, Group, Retry, Push}
use Rattle.am_members.specs.declared.group.Group.{Group as Name}
use Rattle.am_context.specs.declared.context.Context.{Context}
use Rattle.am_node.specs.Delivery.{retried}
use Rattle.am_node.specs.Flushing.{flushed}
use Rattle.am_node.specs.Local.{Local, Reaction, each, stays}
use Rattle.am_node.specs.Retiring.{retired}

-- the keys of a tenant's timers that are due at a moment, in order: by when they are due, groups before attempts,
-- groups by
-- receiver, labels and route, attempts by number
abbrev pub due_keys : List ℕ → ℕ → Plan → List Key
due_keys tenant moment plan = map (λ x. x.name.key) (due_at moment (timers_in tenant plan))

-- a group is flushed if its flush is due
abbrev pub flushed_if : Bool → Context → (muted : List (List Label)) → Name → Local → Reaction
flushed_if true context muted group local = flushed context muted group local
flushed_if false context muted group local = stays local

-- what is done for the key of a timer, where it is still due
unfoldable pub handled : Context → (muted : List (List Label)) → Key → Local → Reaction
handled context muted (Operation number) local = stays local
handled context muted (Group key) local =
    flushed_if (is_due context.moment (flush_due local.plan.paces local.plan.grouped key)) context muted
    (group_in key) local
handled context muted (Retry number) local = retried context number local
handled context muted (Push instance) local = stays local

-- the label sets of the alerts that something mutes
abbrev pub muted_of : Context → Local → List (List Label)
muted_of context local = muted_sets (configuration_in local.held) context.moment local.held

-- all that is due at a moment is done once, in order; what is set meanwhile waits for another tick
abbrev pub done_by : List ℕ → Context → Local → Reaction
done_by tenant context local =
    each (handled context (muted_of context local)) (due_keys tenant context.moment local.plan) local

-- a tick: what is retired goes, and then what is due is done
unfoldable pub ticked : List ℕ → Context → Local → Reaction
ticked tenant context local = done_by tenant context (retired context.moment local)
