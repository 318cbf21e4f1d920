use Rattle.std.proofs.Common.{◌≡◌, length, take}
use Rattle.std.specs.List.{flat_map}
use Rattle.am_wire.specs.ItemFields.{item_bytes}
use Rattle.am_length.specs.Capped.{capped}
use Rattle.am_wire.proofs.lengths.listed_len.Given as goal

abbrev pub invariant-loop-item : goal.invariant-loop-item
invariant-loop-item l = l.total ≡ capped (length (flat_map item_bytes (take l.item-index l.items)))
