use Rattle.std.proofs.Common.{◌≡◌, take}
use Rattle.am_item.proofs.shared_item.share_all.Given as goal

abbrev pub invariant-loop-item : goal.invariant-loop-item
invariant-loop-item l = l.shared.items ≡ take l.item-index l.items
