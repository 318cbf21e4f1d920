use Rattle.std.proofs.Common.{◌≡◌, ◌++◌, map}
use Rattle.am_payload.specs.declared.groups.ReadGroup.{ReadGroup}
use Rattle.am_group_list.specs.Places.{places_by, read_of}
use Rattle.am_group_list.proofs.listing.read_groups.Given as goal

abbrev pub invariant-loop-group : goal.invariant-loop-group
invariant-loop-group l =
    map (λ (g : ReadGroup). (g.receiver.now, (g.labels.now, g.alerts))) l.read.items ++ map read_of (places_by l.group-iterator)
    ≡ map read_of (places_by l.groups.entries)
