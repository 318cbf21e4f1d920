-- What is told of what those who run a service ask for.
use Rattle.std.specs.Prelude.{Option, None, Some}
use Rattle.am_event.specs.declared.event.Event.{Event}
use Rattle.am_event.specs.declared.event.Event.TheVariants.{Join, Leave, Crash, Restart, Force}
use Rattle.am_log.specs.declared.entry.Change.{Change}
use Rattle.am_log.specs.declared.entry.Change.TheVariants.{Joined, Left, Crashed, Restarted, Forced}

-- what was done by hand where an event was asked for
abbrev pub change_by : Event → Option Change
change_by (Join instance) = Some (Joined instance)
change_by (Leave instance) = Some (Left instance)
change_by (Crash instance) = Some (Crashed instance)
change_by (Restart instance) = Some (Restarted instance)
change_by (Force tenant) = Some (Forced tenant)
change_by _ = None
