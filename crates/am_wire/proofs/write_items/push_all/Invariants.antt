use Rattle.std.proofs.Common.{◌≡◌, ◌++◌, All, take}
use Rattle.std.specs.List.{flat_map}
use Rattle.am_wire.specs.ItemFields.{IsItem, item_bytes}
use Rattle.am_wire.proofs.write_items.push_all.Given as goal

abbrev pub invariant-loop-item : goal.invariant-loop-item
invariant-loop-item l =
    (l.out.items ≡ l.initial.out.items ++ flat_map item_bytes (take l.item-index l.items))
    × All IsItem (take l.item-index l.items)
