use Rattle.std.proofs.Common.{◌≡◌, map, take}
use Rattle.am_group.specs.Grouping.{group_by}
use Rattle.am_group.proofs.grouping.groups_by.Given as goal

abbrev pub invariant-loop-id : goal.invariant-loop-id
invariant-loop-id l = l.groups.items ≡ map (group_by l.config l.labels) (take l.id-index l.routes)
