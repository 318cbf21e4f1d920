-- When the database of a store refuses a call.
use Rattle.std.specs.Prelude.{◌≡◌, ◌⊎◌, ◌≤◌, ℕ, Bool, true, false, not, All, List, [], ◌∷◌, ◌++◌, None, Ok, Err, length, Option, IsSome, IsTrue, Result, IfErr}
use Rattle.std.specs.List.{list_any}
use Rattle.std.specs.Ordering.{is_gt}
use Rattle.sqlite_disk.specs.Disk.{MoreFaults}
use Rattle.sqlite_resolve.specs.declared.compiled.Compiled.{Compiled}
use Rattle.sqlite_rules.specs.Action.{Writes}
use Rattle.sqlite_rules.specs.declared.error.Refusal.{Refusal}
use Rattle.sqlite_schema.specs.declared.schema.Keys.TheVariants.{Enforced}
use Rattle.sqlite.specs.declared.types.Value.TheVariants.{Null, Text}
use Rattle.sqlite.specs.Rowids.TheVariants.{Chosen}
use Rattle.sqlite.specs.Order.{Row}
use Rattle.sqlite.specs.Edit.{edit_of}
use Rattle.sqlite.specs.Table.{Table}
use Rattle.sqlite.specs.Tree.{Trees}
use Rattle.sqlite.specs.Effect.{Database, IsDatabase, RefusesToRead}
use Rattle.sqlite.specs.Listing.{reads_listing, understood}
use Rattle.sqlite.specs.State.{State}
use Rattle.sqlite.specs.declared.error.Error.{Error}
use Rattle.sqlite.specs.declared.error.Error.TheVariants.{SqliteFailure}
use Rattle.sqlite.specs.declared.error.ErrorCode.TheVariants as code
use Rattle.am_text.specs.Outcome.{ForRefused}
use Rattle.am_text.specs.declared.failure.Failure.{Failure}
use Rattle.am_item.specs.declared.stamp.Stamp.{Stamp}
use Rattle.am_item.specs.Stamp.{stamp_cmp}
use Rattle.am_share.specs.Pairs.{things_of}
use Rattle.am_store.specs.Rows.{IsStore, config_fields, id_text, pairs_in, silence_fields}
use Rattle.am_store.specs.Steps.{PutsRow, TakesOut}
use Rattle.am_store.specs.Stored.{ConfigurationText, Content, SilenceWords, Stored, key_in, of_key, stored_items}
use Rattle.am_store.specs.Tables.{config, silence, store_schema}
use Rattle.am_store.specs.Where.{hit, of_silence, of_tenant}
use Rattle.am_item.specs.declared.item.Item.{Item}
use Rattle.am_rows.specs.Fit.{IsFit}
use Rattle.am_rows.specs.Refusing.{Medium}
use Rattle.am_rows.specs.declared.refusal.StoreRefusal.{StoreRefusal}
use Rattle.am_rows.specs.declared.refusal.StoreRefusal.TheVariants as refusal

-- the disk failed or refused during the call, a failure before it had shut the connection, or the connection has a
-- limit on the steps of a query
abbrev pub MayFail : State → State → Type 0
MayFail old new = MoreFaults old.faults new.faults ⊎ ((old.is_open ≡ false) ⊎ IsSome old.step_limit)

-- the database's error is out of memory, or the call had a cause to fail
abbrev pub IsExcused : State → State → Error → Type 0
IsExcused old new e = (e ≡ SqliteFailure code.OutOfMemory) ⊎ MayFail old new

-- memory ran out, or the database refused a call, which it had a cause for
abbrev pub IsCaused : State → State → Failure StoreRefusal → Type 0
IsCaused old new failure = ForRefused failure (λ why. (why ≡ refusal.Database) × MayFail old new)

-- memory ran out, the database is no store, or it refused a call, which it had a cause for
abbrev pub IsJudged : State → State → Failure StoreRefusal → Type 0
IsJudged old new failure =
    ForRefused failure (λ why. ((why ≡ refusal.Foreign) × (IsStore old.now → ⊥)) ⊎ ((why ≡ refusal.Database) × MayFail old new))

-- where the call gives nothing, it is for a cause
abbrev pub FailsForCause : {X : Type 0} → State → State → Result X (Failure StoreRefusal) → Type 0
FailsForCause old new result = IfErr result (IsCaused old new)

-- the same of a call that judges whether the database is a store
abbrev pub FailsToOpen : {X : Type 0} → State → State → Result X (Failure StoreRefusal) → Type 0
FailsToOpen old new result = IfErr result (IsJudged old new)

-- within a transaction, a store whose keys are unique
pub record IsReady (s : State) : Type 0 where
  pub store : IsStore s.now
  pub sound : IsDatabase s.now
  pub inside : IsTrue s.in_transaction

-- over the tables of a store the text is one query with these parameters, and the database refuses to answer it only
-- at a limit on its steps
pub record IsQuery (sql : List ℕ) (params : Row) : Type 0 where
  pub compiled : Compiled
  pub is : understood store_schema sql ≡ Ok compiled
  pub whole : length sql ≤ compiled.tail
  pub given : length params ≡ length compiled.names
  pub plain : (compiled.returning ≡ None) × (compiled.formats ≡ [])
  pub unlisted : reads_listing store_schema sql ≡ false
  pub limited : (limit : Option ℕ) (db : Database) (e : Error) → db.schema ≡ store_schema
      → RefusesToRead limit compiled.command db params e → IsSome limit

-- ---- when what is put is refused

-- the table of what is stored, and its columns there
abbrev pub table_for : Content → Table
table_for (ConfigurationText text) = config 1
table_for (SilenceWords words) = silence 3

abbrev pub fields_for : List ℕ → Stamp → Content → Row
fields_for tenant stamp (ConfigurationText text) = config_fields tenant stamp text
fields_for tenant stamp (SilenceWords silence) = silence_fields tenant stamp silence

-- a row of the table is that of the same key
abbrev pub is_replaced : List ℕ → Content → Row → Bool
is_replaced tenant (ConfigurationText text) = hit of_tenant (Text tenant ∷ [])
is_replaced tenant (SilenceWords silence) = hit of_silence (Text tenant ∷ Text (id_text silence.id) ∷ [])

-- a stamp that is stored under the key isn't exceeded
abbrev pub is_reached : List ℕ → Stored → Database → Bool
is_reached tenant x db =
    list_any (λ (y : Stored). not (is_gt (stamp_cmp x.stamp y.stamp))) (of_key (key_in x.value) (things_of tenant (pairs_in db.trees)))

-- room is made for a row, as its stamp exceeds that of the key's row, if there is one: that row is taken out
pub record MakesRoom (tenant : List ℕ) (x : Stored) (old new : Database) : Type 0 where
  pub exceeds : is_reached tenant x old ≡ false
  pub out : TakesOut (table_for x.value).tree (is_replaced tenant x.value) old new

-- a row is put in the place of its key's, unless the stamp of that one reaches its own
abbrev pub PutsOne : List ℕ → Stored → Database → Database → Type 0
PutsOne tenant x old new =
    ((is_reached tenant x old ≡ true) × (new ≡ old))
    ⊎ ((mid : Database) × MakesRoom tenant x old mid × PutsRow (table_for x.value).tree (fields_for tenant x.stamp x.value) mid new)

-- rows are put one after the other
abbrev pub PutsEach : List ℕ → List Stored → Database → Database → Type 0
PutsEach tenant [] old new = new ≡ old
PutsEach tenant (x ∷ xs) old new = (mid : Database) × PutsOne tenant x old mid × PutsEach tenant xs mid new

-- by its own rules the database doesn't put a row with these columns into a table
abbrev pub RefusesRow : Table → Row → Trees → Type 0
RefusesRow table fields trees =
    (why : Option Refusal)
    × Writes store_schema Enforced trees (edit_of trees table [] Chosen 0 ((Null ∷ fields) ∷ [])) (Err why)

-- of what a tenant puts, one thing after the other, the database refuses the row of one, where those before it were put
pub record RefusesPut (tenant : List ℕ) (xs : List Stored) (old : Database) : Type 0 where
  pub before : List Stored
  pub x : Stored
  pub after : List Stored
  pub is : xs ≡ before ++ x ∷ after
  pub there : Database
  pub puts : PutsEach tenant before old there
  pub cleared : Database
  pub room : MakesRoom tenant x there cleared
  pub refused : RefusesRow (table_for x.value) (fields_for tenant x.stamp x.value) cleared.trees

-- the database's error is out of memory, or what is put had a cause to fail, or the database refuses one of its rows
abbrev pub IsPutExcused : List ℕ → List Stored → State → State → Error → Type 0
IsPutExcused tenant xs old new e = IsExcused old new e ⊎ RefusesPut tenant xs old.now

-- the same of what the store tells
abbrev pub IsPutCaused : List ℕ → List Stored → State → State → Failure StoreRefusal → Type 0
IsPutCaused tenant xs old new failure =
    ForRefused failure (λ why. (why ≡ refusal.Database) × (MayFail old new ⊎ RefusesPut tenant xs old.now))

-- ---- what is told of a database as a store of rows

-- what a database is kept on
abbrev pub medium_of : State → Medium
medium_of s = record { failures = s.faults; is_shut = not s.is_open }

-- one of the items has no row, as a number or a length doesn't fit, or there is a store that refuses one of the rows
abbrev pub Rejects : List ℕ → List Item → Type 0
Rejects tenant items = (All IsFit items → ⊥) ⊎ ((db : Database) × RefusesPut tenant (stored_items items) db)
