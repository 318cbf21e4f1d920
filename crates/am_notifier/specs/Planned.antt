-- The plan of a tenant, whose alerts are planned, and what is told of a group, for those who speak of a notifier
-- (am_agenda, am_planning, am_telling).
pub use Rattle.am_agenda.specs.Plan.{Plan, dropped, group_in, in_order, no_plan}
pub use Rattle.am_agenda.specs.Plan.{with_alerts, with_desk, with_flush, with_living}
unfoldable pub use Rattle.am_agenda.specs.Plan.{flush_due, timers_in}
pub use Rattle.am_planning.specs.Planning.{planned}
unfoldable pub use Rattle.am_planning.specs.Planning.{default_paces, planned_alerts}
unfoldable pub use Rattle.am_telling.specs.Tellings.{tellings, webhook_keys}
pub use Rattle.am_telling.specs.declared.telling.Telling.{Telling}
pub use Rattle.am_telling.specs.declared.telling.Telling.TheVariants.{Notify, Keep}
