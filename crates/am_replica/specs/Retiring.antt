-- What is held once what is retired at a moment is gone.
use Rattle.std.specs.Prelude.{◌≡◌, ℕ, true, List, filter, not}
use Rattle.am_book.specs.Retired.{is_key_retired}
use Rattle.am_item.specs.Key.{SilenceKey, key_of}
use Rattle.am_item.specs.declared.fault.Fault.{Fault}
use Rattle.am_item.specs.declared.fault.Fault.TheVariants.{OutOfMemory, CountsExhausted, PatternNotBuilt, StoreRefused}
use Rattle.am_item.specs.declared.item.Item.{Item}
use Rattle.am_replica.specs.Holds.{Holds}

-- the items of keys that aren't retired
abbrev pub items_left : ℕ → List Item → List Item
items_left moment held = filter (λ item. not (is_key_retired moment held (key_of item))) held

-- of a tenant
abbrev pub retired : ℕ → Holds → Holds
retired moment holds = record holds { held = items_left moment holds.held }

-- why it stops where what is retired goes: the store refused to drop a silence that retires, or memory ran out
abbrev pub StopsRetiring : ℕ → (held : List ℕ → List Item) → Fault → Type 0
StopsRetiring moment held OutOfMemory = Unit {0}
StopsRetiring moment held CountsExhausted = ⊥
StopsRetiring moment held PatternNotBuilt = ⊥
StopsRetiring moment held StoreRefused =
    (t : List ℕ) × (id : List ℕ) × (is_key_retired moment (held t) (SilenceKey id) ≡ true)
