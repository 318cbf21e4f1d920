use Rattle.std.proofs.Common.{ℕ, List, ◌++◌, map}
use Rattle.am_group_list.specs.declared.group.ListedGroup.{ListedGroup}
use Rattle.am_group_list.specs.Places.{AreGrouped, places_by}
use Rattle.am_group_list.proofs.grouping.put_all.Given as goal

abbrev pub invariant-loop-group : goal.invariant-loop-group
invariant-loop-group l =
    (pairs : List (ListedGroup × ℕ)) → AreGrouped (places_by l.fn.grouped.entries) pairs →
    AreGrouped (places_by l.grouped.entries) (pairs ++ map (λ g. (g, l.place)) l.yielded)
