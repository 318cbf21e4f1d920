-- The plan of a tenant and what is told of a group, for those who speak of a node (am_notifier).
pub use Rattle.am_notifier.specs.Flushing.{sent_among}
pub use Rattle.am_notifier.specs.Following.{all_came, paces_at}
pub use Rattle.am_notifier.specs.Planned.{Keep, Notify, Plan, Telling, group_in, in_order}
unfoldable pub use Rattle.am_notifier.specs.Planned.{flush_due, planned_alerts, tellings, timers_in}
