-- Whether an item that comes takes the place of the configuration that is held.
use Rattle.std.specs.Prelude.{Bool, ◌&&◌, Option, Some, None}
use Rattle.am_item.specs.Key.{exceeds, has_key}
use Rattle.am_item.specs.declared.key.ThingKey.TheVariants.{Configuration as ConfigurationKey}
use Rattle.am_item.specs.declared.item.Item.{Item}

-- it is a configuration, and newer than the one that is held
abbrev pub replaces : Option Item → Item → Bool
replaces None item = has_key ConfigurationKey item
replaces (Some held) item = has_key ConfigurationKey item && exceeds item held
