use Rattle.std.proofs.Common.{◌≡◌, take, []}
use Rattle.am_item.specs.Best.{all_joined}
use Rattle.am_item.proofs.held.Held.best_of.Given as goal

abbrev pub invariant-loop-item : goal.invariant-loop-item
invariant-loop-item l = l.held ≡ all_joined [] (take l.item-index l.items)
