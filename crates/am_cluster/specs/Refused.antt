-- Why an event is refused (am_event).
pub use Rattle.am_event.specs.declared.refused.Refused.{Refused}
pub use Rattle.am_event.specs.declared.refused.Refused.TheVariants.{MomentRefused, InstanceNotUp, NotSent}
pub use Rattle.am_event.specs.declared.refused.Refused.TheVariants.{NotAwaited, NotReading, NothingToLearn}
pub use Rattle.am_event.specs.declared.refused.Refused.TheVariants.{RingFull, RingSmall, WrongInstance, NoIncarnation}
