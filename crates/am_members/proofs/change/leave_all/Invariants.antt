use Rattle.std.proofs.Common.{◌≡◌, take, cond}
use Rattle.std.specs.List.{list_any}
use Rattle.am_members.specs.declared.group.Group.{Group}
use Rattle.am_members.specs.Grouped.{AreFull, held_at}
use Rattle.am_members.specs.Names.{is_group, without}
use Rattle.am_members.proofs.change.leave_all.Given as goal

abbrev pub invariant-loop-group : goal.invariant-loop-group
invariant-loop-group l = record {
  members : (q : Group) → held_at q l.groups.entries ≡ cond (list_any (is_group q) (take l.group-index l.left)) (without l.labels (held_at q l.fn.groups.entries)) (held_at q l.fn.groups.entries);
  full : AreFull l.fn.groups.entries → AreFull l.groups.entries;
}
