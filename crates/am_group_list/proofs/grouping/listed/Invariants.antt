use Rattle.std.proofs.Common.{◌≡◌, map}
use Rattle.am_group_list.specs.Groups.{listed_group}
use Rattle.am_group_list.proofs.grouping.listed.Given as goal

abbrev pub invariant-loop-group : goal.invariant-loop-group
invariant-loop-group l = l.listed.items ≡ map (listed_group l.config) l.yielded
