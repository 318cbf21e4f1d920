-- What a store has of each tenant.
use Rattle.std.specs.Prelude.{◌≡◌, ℕ, Bool, true, false, not, ◌&&◌, List, [], filter, if◌then◌else◌}
use Rattle.std.specs.List.{list_any}
use Rattle.am_tenant.specs.Names.{same}
use Rattle.am_item.specs.Best.{all_joined, best}
use Rattle.am_item.specs.Key.{Key, SilenceKey, has_key}
use Rattle.am_item.specs.declared.item.Item.{Item}
use Rattle.am_item.specs.declared.item.Thing.{Thing}
use Rattle.am_item.specs.declared.item.Thing.TheVariants.{Alert, Configuration, SentEntry, Silence}
use Rattle.am_share.specs.Pairs.{things_of}

-- configurations and silences are stored, alerts and sent entries aren't
abbrev pub is_kept : Thing → Bool
is_kept (Configuration text) = true
is_kept (Silence silence) = true
is_kept (Alert alert) = false
is_kept (SentEntry entry) = false

abbrev pub is_stored : Item → Bool
is_stored item = is_kept item.thing

-- those of a list that are stored
unfoldable pub stored_in : List Item → List Item
stored_in items = filter is_stored items

-- one of them is stored
abbrev pub has_stored : List Item → Bool
has_stored items = list_any is_stored items

-- the rows of a tenant, in the order of keys
unfoldable pub rows_of : List ℕ → List (List ℕ × Item) → List Item
rows_of t pairs = stored_in (best (things_of t pairs))

-- rows where items are put: those that are stored join them
unfoldable pub put_rows : List Item → List Item → List Item
put_rows items rows = all_joined rows (stored_in items)

-- rows without that of a key
abbrev pub without_key : Key → List Item → List Item
without_key key rows = filter (λ item. not (has_key key item)) rows

-- one of these silences, each with whose it is, is the item of this tenant
abbrev pub is_among : List ℕ → List (List ℕ × List ℕ) → Item → Bool
is_among t silences item = list_any (λ s. same t s.0 && has_key (SilenceKey s.1) item) silences

-- rows of a tenant without these silences
abbrev pub without_silences : List (List ℕ × List ℕ) → List ℕ → List Item → List Item
without_silences silences t rows = filter (λ item. not (is_among t silences item)) rows

abbrev pub no_rows : List Item → List Item
no_rows rows = []

-- all rows stay
abbrev pub Keeps : (old new : List (List ℕ × Item)) → Type 0
Keeps old new = (t : List ℕ) → rows_of t new ≡ rows_of t old

-- one tenant's rows become this, and those of all others stay
abbrev pub Makes : List ℕ → (List Item → List Item) → (old new : List (List ℕ × Item)) → Type 0
Makes tenant change old new =
    (t : List ℕ) → rows_of t new ≡ (if same t tenant then change (rows_of t old) else rows_of t old)
