use Rattle.std.proofs.Common.{◌≡◌, take}
use Rattle.am_item.specs.Best.{all_joined}
use Rattle.am_site.proofs.limiting.bytes_with.Given as goal

abbrev pub invariant-loop-item : goal.invariant-loop-item
invariant-loop-item l = l.with ≡ all_joined l.fn.list (take l.item-index l.items)
