-- The best of a list of items, and how items join it.
use Rattle.std.specs.Prelude.{◌≡◌, Bool, ◌∷◌, ◌++◌, IsSome, List, Option, [], false, filter, find, not}
use Rattle.std.specs.BTreeSet.{insert_key}
use Rattle.std.specs.List.{All, Contains, filter_map, list_all}
use Rattle.std.specs.List.Sorted.{IsStrictlySortedBy}
use Rattle.am_item.specs.declared.item.Item.{Item}
use Rattle.am_item.specs.Key.{Key, exceeds, has_key, key_cmp, key_of}

-- the items of a key, in the order of the list
abbrev pub of_key : Key → List Item → List Item
of_key key xs = filter (λ y. has_key key y) xs

-- no item of the list exceeds x
abbrev pub none_exceeds : List Item → Item → Bool
none_exceeds xs x = list_all (λ y. not (exceeds y x)) xs

-- the item of a list that none of it exceeds: of several with equal stamps the first
abbrev pub greatest : List Item → Option Item
greatest xs = find (λ x. none_exceeds xs x) xs

-- the keys of a list, each once, in order
abbrev pub keys_of : List Item → List Key
keys_of [] = []
keys_of (x ∷ xs) = insert_key key_cmp (keys_of xs) (key_of x)

-- the best of a list: for each key, in order, the item that no item of that key exceeds
unfoldable pub best : List Item → List Item
best xs = filter_map (λ key. greatest (of_key key xs)) (keys_of xs)

-- what a list of items becomes where one more comes to it: of items with one key and one stamp the held one stays
abbrev pub joined : List Item → Item → List Item
joined held item = best (held ++ item ∷ [])

-- what a list of items becomes where others come to it, one after the other
abbrev pub all_joined : List Item → List Item → List Item
all_joined held [] = held
all_joined held (item ∷ items) = all_joined (joined held item) items

-- what a list of items becomes where another list comes to it: likewise
abbrev pub merged : List Item → List Item → List Item
merged held others = best (held ++ others)

-- each key is below those after it
abbrev pub IsRising : List Item → Type 0
IsRising xs = IsStrictlySortedBy (λ x y. key_cmp (key_of x) (key_of y)) xs

-- the item of a key that a list holds
abbrev pub item_at : Key → List Item → Option Item
item_at key held = find (λ x. has_key key x) held

-- items of a list that have one key and one stamp are one item
abbrev pub StampsTellApart : List Item → Type 0
StampsTellApart xs = (x y : Item) → Contains xs x → Contains xs y → key_of x ≡ key_of y → x.stamp ≡ y.stamp → x ≡ y

-- what the best of a list is, item by item: keys rise, each item is of the list, no item of its key exceeds it, and each key is there
pub record IsBestOf (xs bs : List Item) : Type 0 where
  pub rising : IsRising bs
  pub among : All (Contains xs) bs
  pub unexceeded : (b x : Item) → Contains bs b → Contains xs x → key_of x ≡ key_of b → exceeds x b ≡ false
  pub each_key : (x : Item) → Contains xs x → IsSome (item_at (key_of x) bs)
