-- What comes in, and what goes out (am_event).
pub use Rattle.am_event.specs.declared.event.Event.{Event}
pub use Rattle.am_event.specs.declared.event.Event.TheVariants.{Open, Bytes, Close, Limits, Tick, Outcome}
pub use Rattle.am_event.specs.declared.event.Event.TheVariants.{Deliver, Lose}
pub use Rattle.am_event.specs.declared.event.Event.TheVariants.{Join, Leave, Crash, Restart, Learn, Force}
pub use Rattle.am_event.specs.declared.output.AttemptName.{AttemptName}
pub use Rattle.am_event.specs.declared.output.Output.{Output}
pub use Rattle.am_event.specs.declared.output.Output.TheVariants.{Reply, Notice, Send}
