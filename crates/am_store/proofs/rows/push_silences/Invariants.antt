use Rattle.std.proofs.Common.{◌≡◌, ◌++◌, map, take}
use Rattle.am_item.specs.Best.{IsRising}
use Rattle.am_item.specs.Key.{key_of}
use Rattle.am_store.specs.Reading.{silence_key}
use Rattle.am_store.specs.Rows.{silence_in}
use Rattle.am_store.specs.Stored.{stored_items}
use Rattle.am_store.proofs.rows.push_silences.Given as goal

abbrev pub invariant-loop-row : goal.invariant-loop-row
invariant-loop-row l =
    (IsRising l.fn.items.items → IsRising l.items.items)
    × (stored_items l.items.items ≡ stored_items l.fn.items.items ++ map (λ row. (silence_in row).1) (take l.row-index l.rows))
    × (map key_of l.items.items ≡ map key_of l.fn.items.items ++ map silence_key (take l.row-index l.rows))
