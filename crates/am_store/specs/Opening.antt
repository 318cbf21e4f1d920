-- What opening a database as a store makes of it, and what reading leaves.
use Rattle.std.specs.Prelude.{◌≡◌, ◌⊎◌, ℤ, pos, List, [], ◌∷◌, IsTrue}
use Rattle.std.specs.List.{AllByRecursion}
use Rattle.std.specs.List.Sorted.{IsStrictlySortedBy}
use Rattle.sqlite.specs.declared.types.Value.TheVariants.{Int}
use Rattle.sqlite.specs.Order.{Row, column}
use Rattle.sqlite_value.specs.Order.{value_cmp}
use Rattle.sqlite.specs.Tree.{Trees, rowid}
use Rattle.sqlite.specs.Change.{created, next_tree, KeepsRows}
use Rattle.sqlite.specs.Effect.{Database}
use Rattle.sqlite.specs.Schema.{Schema}
use Rattle.sqlite.specs.State.{HasCleanDisk, State, Survives}
use Rattle.sqlite.specs.Table.{Table}
use Rattle.am_store.specs.Apart.{AreApart}
use Rattle.am_store.specs.Rows.{IsStore, pairs_in}
use Rattle.am_store.specs.Steps.{Commits, IsSame}
use Rattle.am_store.specs.Tables.{no_schema, store_schema}

-- a table was made behind those of a schema, and no row lies in it; the others are as they were
pub record MakesTable (before : Schema) (table : Table) (old new : Database) : Type 0 where
  pub schema : new.schema ≡ created before table
  pub empty : new.trees (next_tree before) ≡ []
  pub others : KeepsRows before.tables old.trees new.trees

-- the tables of a store were made, and no row lies in them
pub record HasNoRows (db : Database) : Type 0 where
  pub schema : db.schema ≡ store_schema
  pub versions : db.trees 0 ≡ []
  pub configs : db.trees 1 ≡ []
  pub silences : db.trees 3 ≡ []

-- the row is that of version 1
pub record IsVersionRow (row : Row) : Type 0 where
  pub id : ℤ
  pub id_is : column row 0 ≡ Int id
  pub number : column row 1 ≡ Int (pos 1)

-- one row, with version 1
abbrev pub HasVersion : Trees → Type 0
HasVersion trees = (id : ℤ) × (trees 0 ≡ (Int id ∷ Int (pos 1) ∷ []) ∷ [])

-- the rowids rise
abbrev pub AreRising : List Row → Type 0
AreRising rows = IsStrictlySortedBy (λ a b. value_cmp (rowid a) (rowid b)) rows

-- each row of a table is of this kind, and no rowid comes twice
abbrev pub AreRowsOf : (Row → Type 0) → List Row → Type 0
AreRowsOf Is rows = AllByRecursion Is rows × AreApart rows

-- a database without tables became a store in which nothing is stored
pub record Founds (old new : Database) : Type 0 where
  pub blank : old.schema ≡ no_schema
  pub store : IsStore new
  pub empty : pairs_in new.trees ≡ []

-- a store was found and is as it was, or a database without tables became one, and that was committed
abbrev pub Opens : State → State → Type 0
Opens old new = (IsStore old.now × IsSame old new × IsTrue new.is_open) ⊎ Commits Founds old new

-- what a crash within the opening may leave, beside what was there before it
abbrev pub LeavesNew : State → Trees → Type 0
LeavesNew old trees = (db : Database) × Founds old.now db × (trees ≡ db.trees)

-- the database has tables, and is no store
pub record IsForeign (db : Database) : Type 0 where
  pub used : db.schema ≡ no_schema → ⊥
  pub foreign : IsStore db → ⊥

-- nothing was written: a crash leaves what it left before, and a connection that is still open shows what was committed
pub record Rests (old new : State) : Type 0 where
  pub survives : Survives old new (λ _. ⊥)
  pub same : HasCleanDisk new → IsTrue new.is_open → IsTrue old.is_open × (old.now ≡ old.committed → IsSame old new)
