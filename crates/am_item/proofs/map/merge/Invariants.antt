use Rattle.std.proofs.Common.{◌≡◌, ◌+◌, ◌++◌, length}
use Rattle.std.specs.BTreeMap.{is_at}
use Rattle.std.specs.List.Sorted.{IsStrictlySortedBy}
use Rattle.std.specs.Map.{keys_of, lookup}
use Rattle.am_item.specs.Newest.{newer}
use Rattle.am_item.proofs.map.merge.Given as goal

abbrev pub invariant-loop-x : goal.invariant-loop-x
invariant-loop-x g l = record {
  own : IsStrictlySortedBy g.K.Ord.cmp (keys_of (l.out.items ++ l.left));
  others : IsStrictlySortedBy g.K.Ord.cmp (keys_of (l.out.items ++ l.right));
  newer : (q : g.row.K.Denot) → newer (lookup (is_at (g.K.Ord.cmp q)) (l.out.items ++ l.left)) (lookup (is_at (g.K.Ord.cmp q)) (l.out.items ++ l.right)) ≡ newer (lookup (is_at (g.K.Ord.cmp q)) l.fn.own) (lookup (is_at (g.K.Ord.cmp q)) l.fn.others);
}

abbrev pub decreases-loop-x : goal.decreases-loop-x
decreases-loop-x g l = length l.left + length l.right
