-- How rows are read.
use Rattle.std.specs.Prelude.{◌≡◌, ◌||◌, ◌+◌, ◌++◌, ℕ, pos, Bool, not, List, map, All, Some, Result, IfErr, IsTrue}
use Rattle.std.specs.List.{list_any}
use Rattle.std.specs.List.Sorted.{IsStrictlySortedBy}
use Rattle.sqlite.specs.declared.types.Value.TheVariants.{Int, Text}
use Rattle.sqlite.specs.declared.error.Error.{Error}
use Rattle.sqlite.specs.declared.error.Error.TheVariants.{SqliteFailure}
use Rattle.sqlite.specs.declared.error.ErrorCode.TheVariants as code
use Rattle.sqlite.specs.Order.{Row, bytes, column}
use Rattle.sqlite.specs.Tree.{Trees}
use Rattle.am_text.specs.Outcome.{ForRefused}
use Rattle.am_text.specs.declared.failure.Failure.{Failure}
use Rattle.am_text.specs.declared.failure.Failure.TheVariants.{OutOfMemory}
use Rattle.am_tenant.specs.Names.{is_tenant_name, same}
use Rattle.am_item.specs.declared.stamp.Stamp.{Stamp}
use Rattle.am_item.specs.Stamp.{stamp_cmp}
use Rattle.std.specs.Ordering.{is_gt}
use Rattle.am_item.specs.declared.item.Item.{Item}
use Rattle.am_item.specs.Key.{Key, key_cmp}
use Rattle.am_store.specs.Rows.{IsConfig, IsSilenceRow, IsStamp, config_in, pairs_in, silence_in, stamp_at}
use Rattle.am_store.specs.Stored.{key_in, stored_item}
use Rattle.am_rows.specs.declared.refusal.StoreRefusal.{StoreRefusal}
use Rattle.am_rows.specs.declared.refusal.StoreRefusal.TheVariants.{Foreign}

-- there is a value, unless memory ran out
abbrev pub GivesValue : {X R : Type 0} → Result X (Failure R) → Type 0
GivesValue result = IfErr result (λ failure. failure ≡ OutOfMemory)

-- the same of a column of a row
abbrev pub GivesColumn : {X : Type 0} → Result X Error → Type 0
GivesColumn result = IfErr result (λ e. e ≡ SqliteFailure code.OutOfMemory)

-- what is refused is no item of a tenant
abbrev pub RefusesForeign : {X : Type 0} → Result X (Failure StoreRefusal) → Type 0
RefusesForeign result = IfErr result (λ failure. ForRefused failure (λ why. why ≡ Foreign))

-- from this place on four columns hold a stamp
pub record HasStamp (row : Row) (at : ℕ) (s : Stamp) : Type 0 where
  pub moment : column row at ≡ Int (pos s.moment)
  pub instance : column row (at + 1) ≡ Int (pos s.instance)
  pub incarnation : column row (at + 2) ≡ Int (pos s.incarnation)
  pub count : column row (at + 3) ≡ Int (pos s.count)
  pub stamp : IsStamp s

-- its first four columns hold a stamp
abbrev pub IsStamped : Row → Type 0
IsStamped row = (s : Stamp) × HasStamp row 0 s

-- the stamp doesn't exceed that of the row's first four columns
abbrev pub reached : Stamp → Row → Bool
reached stamp row = not (is_gt (stamp_cmp stamp (stamp_at row 0)))

-- the row is that of a configuration of this tenant, which is this item
pub record ReadsConfig (row : Row) (tenant : List ℕ) (item : Item) : Type 0 where
  pub is : IsConfig row
  pub tenant_is : (config_in row).0 ≡ tenant
  pub item_is : stored_item item ≡ Some (config_in row).1

-- the row is that of a silence of this tenant, which is this item
pub record ReadsSilence (row : Row) (tenant : List ℕ) (item : Item) : Type 0 where
  pub is : IsSilenceRow row
  pub tenant_is : (silence_in row).0 ≡ tenant
  pub item_is : stored_item item ≡ Some (silence_in row).1

-- the key of the configuration, or of the silence, that a row holds
abbrev pub config_key : Row → Key
config_key row = key_in (config_in row).1.value

abbrev pub silence_key : Row → Key
silence_key row = key_in (silence_in row).1.value

-- each key is below those after it
abbrev pub KeysRise : List Key → Type 0
KeysRise keys = IsStrictlySortedBy key_cmp keys

-- the rows are those of configurations and of silences, and in order of their keys, of which none comes twice
pub record AreInOrder (configs silences : List Row) : Type 0 where
  pub are_configs : All IsConfig configs
  pub are_silences : All IsSilenceRow silences
  pub keys : KeysRise (map config_key configs ++ map silence_key silences)

-- the first column is the name of a tenant
pub record IsNamed (row : Row) : Type 0 where
  pub tenant : List ℕ
  pub tenant_is : column row 0 ≡ Text tenant
  pub named : IsTrue (is_tenant_name tenant)

-- the rows of two queries, whose first columns are names, name the tenants of all pairs
abbrev pub NameTenants : List Row → List Row → Trees → Type 0
NameTenants configs silences trees =
    (t : List ℕ)
    → (list_any (λ r. same t (bytes (column r 0))) configs || list_any (λ r. same t (bytes (column r 0))) silences)
    ≡ list_any (λ pair. same t pair.0) (pairs_in trees)
