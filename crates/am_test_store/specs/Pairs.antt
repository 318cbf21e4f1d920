-- Items with whose they are, and what they are kept on.
use Rattle.std.specs.Prelude.{ℕ, List, false}
use Rattle.am_item.specs.declared.item.Item.{Item}
use Rattle.am_rows.specs.Refusing.{Medium}

-- an item with its tenant
abbrev pub with_name : List ℕ → Item → List ℕ × Item
with_name t item = (t, item)

-- a medium that failed so often, which nothing shuts
abbrev pub medium_of : ℕ → Medium
medium_of failures = record { failures = failures; is_shut = false }
