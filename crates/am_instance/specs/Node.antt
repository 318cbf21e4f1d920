-- The node of an instance, for those who speak of several instances (am_node, am_replica).
pub use Rattle.am_node.specs.Accepting.{accepted_for}
unfoldable pub use Rattle.am_node.specs.Delivery.{notified, recorded, retried}
pub use Rattle.am_node.specs.Flushing.{members_but}
pub use Rattle.am_node.specs.Local.{Local, Reaction, Records, Replies, Said, Tells, blank}
pub use Rattle.am_node.specs.Notices.{Keep, Notify, Telling, group_in, sent_among}
unfoldable pub use Rattle.am_node.specs.Notices.{tellings}
unfoldable pub use Rattle.am_node.specs.Retiring.{retired}
pub use Rattle.am_node.specs.Storing.{AreRowsOf, LeavesStore}
pub use Rattle.am_replica.specs.Storing.{fault_in}
