-- What an instance does for the timers of its notices, and what it says of that.
use Rattle.std.specs.Prelude.{List, [], ◌∷◌}
use Rattle.am_agenda.specs.Plan.{group_in}
use Rattle.am_cluster.specs.Delivery.{retried}
use Rattle.am_cluster.specs.Flushing.{flushed}
use Rattle.am_cluster.specs.Here.{Here, others}
use Rattle.am_cluster.specs.Local.{Local}
use Rattle.am_cluster.specs.Messages.{Put}
use Rattle.am_cluster.specs.Reactions.{Reaction, Tells, only_if, says, stays}
use Rattle.am_cluster.specs.Sending.{send_all}
use Rattle.am_cluster.specs.Ticking.{is_flush_due}
use Rattle.am_item.specs.declared.item.Item.{Item}
use Rattle.am_labels.specs.declared.Label.{Label}
use Rattle.am_node.specs.declared.report.Report.{Report}
use Rattle.am_node.specs.declared.report.Report.TheVariants.{Try, Record}
use Rattle.am_timer.specs.Timer.{Key}
use Rattle.am_timer.specs.declared.key.TimerKey.TheVariants.{Operation, Group, Retry, Push}

-- an item of its own is put to the other two replicas
abbrev pub put_to_others : Here → Item → Local → Reaction
put_to_others here item local = send_all here.epoch here (others here) (Put 0 (item ∷ [])) local

-- what a node has to say: a try goes out, and a record is put to the others
abbrev pub reported : Here → Report → Local → Reaction
reported here (Try sending) local = says (Tells sending) local
reported here (Record item) local = put_to_others here item local

-- a group whose flush is due is flushed, and an attempt whose try is due is tried; other timers are of no notice
abbrev pub notified_for : Here → (muted : List (List Label)) → Key → Local → Reaction
notified_for here muted (Group key) local =
    only_if (is_flush_due here key local) (flushed here muted (group_in key)) local
notified_for here muted (Retry number) local = retried here number local
notified_for here muted (Operation number) local = stays local
notified_for here muted (Push to) local = stays local
