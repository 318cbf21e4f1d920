use Rattle.std.proofs.Common.{◌≡◌, take, cond}
use Rattle.std.specs.BTreeMap.{insert_entry}
use Rattle.std.specs.List.{list_any}
use Rattle.am_labels.specs.Labels.{labels_cmp}
use Rattle.am_members.specs.declared.group.Group.{Group}
use Rattle.am_members.specs.Grouped.{AreFull, held_at}
use Rattle.am_members.specs.Names.{is_group}
use Rattle.am_members.proofs.change.join_all.Given as goal

abbrev pub invariant-loop-group : goal.invariant-loop-group
invariant-loop-group l = record {
  members : (q : Group) → held_at q l.groups.entries ≡ cond (list_any (is_group q) (take l.group-index l.joined)) (insert_entry labels_cmp (held_at q l.fn.groups.entries) l.labels l.since) (held_at q l.fn.groups.entries);
  full : AreFull l.fn.groups.entries → AreFull l.groups.entries;
}
