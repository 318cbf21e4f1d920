-- The flush of a group: what its members that nothing mutes give to tell each webhook of its receiver.
use Rattle.std.specs.Prelude.{List}
use Rattle.am_current.specs.Current.{configuration_in}
use Rattle.am_labels.specs.declared.Label.{Label}
use Rattle.am_members.specs.declared.group.Group.{Group}
use Rattle.am_node.specs.Flushing.{begun as replica_begun, members_but}
use Rattle.am_node.specs.Notices.{sent_among, tellings}
use Rattle.am_cluster.specs.Delivery.{told}
use Rattle.am_cluster.specs.Here.{Here, replica_here}
use Rattle.am_cluster.specs.Local.{Local}
use Rattle.am_cluster.specs.Plans.{replica_local, with_replica}
use Rattle.am_cluster.specs.Reactions.{Reaction, each}

-- the last flush of the group is now, and no attempt to tell of it is open any more
abbrev pub begun : Here → Group → Local → Local
begun here group local = with_replica (replica_begun (replica_here here) group (replica_local here local)) local

-- a group is flushed, where these label sets are muted: that is noted, and the webhooks of its receiver are told, in
-- their order, of what they weren't told before
unfoldable pub flushed : Here → (muted : List (List Label)) → Group → Local → Reaction
flushed here muted group local =
    each (told here)
    (tellings (configuration_in local.held) group (sent_among local.held)
    (members_but muted group (replica_local here local)) here.moment)
    (begun here group local)
