-- The flush of a group: what its members that nothing mutes give to tell each webhook of its receiver.
use Rattle.std.specs.Prelude.{List}
use Rattle.am_notifier.specs.Planned.{tellings, webhook_keys, with_desk, with_flush}
use Rattle.am_current.specs.Current.{configuration_in}
use Rattle.am_item.specs.declared.item.Alert.{Alert}
use Rattle.am_item.specs.declared.stamp.Stamped.{Stamped}
use Rattle.am_labels.specs.declared.Label.{Label}
use Rattle.am_members.specs.declared.group.Group.{Group as Name}
use Rattle.am_members.specs.Grouped.{members}
use Rattle.am_context.specs.declared.context.Context.{Context}
use Rattle.am_node.specs.Delivery.{told}
use Rattle.am_node.specs.Local.{Local, Reaction, each}
use Rattle.am_notifier.specs.Flushing.{alerts_but, sent_among, without_keys}

-- the members of a group, resolved ones too, but for those of these label sets
abbrev pub members_but : (muted : List (List Label)) → Name → Local → List (Stamped Alert)
members_but muted group local = alerts_but muted local.held (members group local.plan.grouped.alerts)

-- the last flush of the group is now, and no attempt to tell of it is open any more
abbrev pub begun : Context → Name → Local → Local
begun context group local = record local {
  plan = with_desk (without_keys (webhook_keys (configuration_in local.held) group) local.plan.desk)
      (with_flush group context.moment local.plan);
}

-- a group is flushed, where these label sets are muted: that is noted, and the webhooks of its receiver are told, in
-- their
-- order, of what they weren't told before
unfoldable pub flushed : Context → (muted : List (List Label)) → Name → Local → Reaction
flushed context muted group local =
    each (told context)
    (tellings (configuration_in local.held) group (sent_among local.held)
    (members_but muted group local) context.moment)
    (begun context group local)
