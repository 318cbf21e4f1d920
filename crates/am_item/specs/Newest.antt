-- Of two stamped values the one that stays.
use Rattle.std.specs.Prelude.{Option, Some, None, if◌then◌else◌}
use Rattle.std.specs.Ordering.{is_gt}
use Rattle.am_item.specs.Stamp.{stamp_cmp}
use Rattle.am_item.specs.declared.stamp.Stamped.{Stamped}

-- what is held once a value has come: the value where it has the greater stamp or none was held, else what was held
abbrev pub newest : {V : Type 0} → Option (Stamped V) → Stamped V → Option (Stamped V)
newest None value = Some value
newest (Some held) value = if is_gt (stamp_cmp value.stamp held.stamp) then Some value else Some held

-- what is held once another holding has come: what that has, where it has the greater stamp or none was held
abbrev pub newer : {V : Type 0} → Option (Stamped V) → Option (Stamped V) → Option (Stamped V)
newer held None = held
newer held (Some value) = newest held value
