-- Keys whose best item is retired.
use Rattle.std.specs.Prelude.{ℕ, Bool, ◌&&◌, List, filter, not}
use Rattle.std.specs.List.{list_any}
use Rattle.am_item.specs.Best.{best}
use Rattle.am_item.specs.Key.{has_key, key_of}
use Rattle.am_item.specs.Retirement.{is_retired}
use Rattle.am_item.specs.declared.item.Item.{Item}
use Rattle.am_item.specs.declared.key.ThingKey.{ThingKey}

-- an item of the key is held that is retired at the moment
abbrev pub is_key_retired : ℕ → List Item → ThingKey → Bool
is_key_retired moment held key = list_any (λ item. has_key key item && is_retired moment item) held

-- what is left of a list where every key goes whose best item is retired at the moment
abbrev pub unretired : ℕ → List Item → List Item
unretired moment xs = filter (λ item. not (is_key_retired moment (best xs) (key_of item))) xs
