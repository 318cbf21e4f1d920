use Rattle.std.proofs.Common.{◌≡◌, take}
use Rattle.std.specs.List.{filter}
use Rattle.am_group.specs.Grouping.{is_named}
use Rattle.am_group.proofs.grouping.named.Given as goal

abbrev pub invariant-loop-label : goal.invariant-loop-label
invariant-loop-label l = l.kept.items ≡ filter (is_named l.names) (take l.label-index l.label-items)
