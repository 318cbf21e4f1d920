-- What the words of a line stand for: instances, messages and changes of the cluster.
use Rattle.std.specs.Prelude.{ℕ, ◌&&◌, ◌^◌, ◌-◌, nat_le, min, if◌then◌else◌}
use Rattle.am_event.specs.declared.event.Event.{Event}
use Rattle.am_event.specs.declared.event.Event.TheVariants as event
use Rattle.am_messages.specs.declared.name.MessageName.{MessageName}
use Rattle.am_ring.specs.Instances.{all_instances, is_among}
use Rattle.am_scenario.specs.declared.command.ClusterChange.{ClusterChange}
use Rattle.am_scenario.specs.declared.command.ClusterChange.TheVariants.{Join, Leave, Crash, Restart, Learn, Force}
use Rattle.am_scenario.specs.declared.command.SaidName.{SaidName}

-- the number of an instance as the world takes it: none past 255 is in any ring
abbrev pub instance_of : ℕ → ℕ
instance_of i = min i 255

-- a change of the cluster, as an event
abbrev pub event_of : ClusterChange → Event
event_of (Join i) = event.Join (instance_of i)
event_of (Leave i) = event.Leave (instance_of i)
event_of (Crash i) = event.Crash (instance_of i)
event_of (Restart i) = event.Restart (instance_of i)
event_of (Learn i) = event.Learn (instance_of i)
event_of (Force tenant) = event.Force tenant

-- the name that a line says; where a number is out of range one that no message has, since these are counted from 1 on
abbrev pub name_said : SaidName → MessageName
name_said said =
    if is_among said.from all_instances && (is_among said.to all_instances && nat_le said.incarnation (2 ^ 32 - 1))
    then record {
      tenant = said.tenant;
      from = said.from;
      incarnation = said.incarnation;
      to = said.to;
      count = said.count;
    }
    else record { tenant = said.tenant; from = 1; incarnation = 0; to = 1; count = 0 }
