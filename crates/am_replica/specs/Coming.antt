-- What comes with items that are accepted.
use Rattle.std.specs.Prelude.{Bool, List, map, Option, Some, None}
use Rattle.std.specs.List.{filter_map, list_any, zip}
use Rattle.std.specs.Option.{option_map}
use Rattle.am_book.specs.Book.{are_new}
use Rattle.am_current.specs.Replacing.{replaces}
use Rattle.am_item.specs.Best.{item_at}
use Rattle.am_item.specs.declared.item.Item.{Item}
use Rattle.am_item.specs.declared.item.Thing.{Thing}
use Rattle.am_item.specs.declared.item.Thing.TheVariants.{Alert, Configuration, SentEntry, Silence}
use Rattle.am_item.specs.declared.key.ThingKey.TheVariants.{Configuration as ConfigurationKey}
use Rattle.am_labels.specs.declared.Label.{Label}

-- the label set of a thing that is an alert
abbrev pub set_in : Thing → Option (List Label)
set_in (Alert alert) = Some alert.labels
set_in (Configuration text) = None
set_in (Silence silence) = None
set_in (SentEntry entry) = None

-- .. and of an item
abbrev pub set_of : Item → Option (List Label)
set_of item = set_in item.thing

-- the label sets of the alerts among items, each with whether it is new, as is told of the item in its place
abbrev pub flagged : List (Option (List Label)) → List Bool → List (List Label × Bool)
flagged sets new = filter_map (λ p. option_map (λ labels. (labels, p.1)) p.0) (zip sets new)

-- the label sets of the alerts among items, each with whether none of it was held
abbrev pub sets_coming : (held items : List Item) → List (List Label × Bool)
sets_coming held items = flagged (map set_of items) (are_new held items)

-- a configuration is among the items that takes the place of the one that is held
abbrev pub is_configured : (held items : List Item) → Bool
is_configured held items = list_any (replaces (item_at ConfigurationKey held)) items
