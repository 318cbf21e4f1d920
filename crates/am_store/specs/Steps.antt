-- What the calls of a store make of its database.
use Rattle.std.specs.Prelude.{◌≡◌, ℕ, ℤ, Bool, false, not, List, [], ◌∷◌, filter, None, IsTrue, if◌then◌else◌}
use Rattle.std.specs.List.{AllByRecursion}
use Rattle.std.specs.Ordering.{is_eq}
use Rattle.sqlite.specs.declared.types.Value.TheVariants.{Int}
use Rattle.sqlite.specs.Order.{Row}
use Rattle.sqlite.specs.Edit.{is_taken, next_rowid}
use Rattle.sqlite.specs.Tree.{Trees, put_row}
use Rattle.sqlite.specs.Effect.{Database}
use Rattle.sqlite.specs.State.{State}
use Rattle.am_item.specs.Key.{SilenceKey, key_cmp}
use Rattle.am_item.specs.declared.key.ThingKey.{ThingKey as Key}
use Rattle.am_share.specs.Pairs.{Drops, LeavesOthers}
use Rattle.am_store.specs.Rows.{IsStore, pairs_in}
use Rattle.am_store.specs.Stored.{Puts, Stored, stored_at}
use Rattle.am_store.specs.Tables.{store_schema}

-- the other tables are as they were
abbrev pub KeepsOthers : ℕ → Trees → Trees → Type 0
KeepsOthers tree old new = AllByRecursion (λ t. (t.tree ≡ tree → ⊥) → new t.tree ≡ old t.tree) store_schema.tables

-- the rows of a table that pass a test were taken out
pub record TakesOut (tree : ℕ) (test : Row → Bool) (old new : Database) : Type 0 where
  pub schema : new.schema ≡ store_schema
  pub rows : new.trees tree ≡ filter (λ r. not (test r)) (old.trees tree)
  pub others : KeepsOthers tree old.trees new.trees

-- a row with these columns was put into a table, under the rowid that the database chooses, which none has
pub record PutsRow (tree : ℕ) (fields : Row) (old new : Database) : Type 0 where
  pub schema : new.schema ≡ store_schema
  pub id : ℤ
  pub chosen : id ≡ next_rowid (old.trees tree)
  pub free : is_taken (old.trees tree) (Int id ∷ fields) ≡ false
  pub rows : new.trees tree ≡ put_row (Int id ∷ fields) (old.trees tree)
  pub others : KeepsOthers tree old.trees new.trees

-- the database is a store again, in which things of a tenant were put: under each key the greatest stamp stays, and
-- what other tenants have stays as it was
pub record Stores (tenant : List ℕ) (xs : List Stored) (old new : Database) : Type 0 where
  pub store : IsStore new
  pub puts : Puts tenant xs (pairs_in old.trees) (pairs_in new.trees)
  pub others : LeavesOthers tenant (pairs_in old.trees) (pairs_in new.trees)

-- the database is a store again, in which a tenant has nothing under a key, and all else is as it was
pub record Removes (tenant : List ℕ) (key : Key) (old new : Database) : Type 0 where
  pub store : IsStore new
  pub removed : (k : Key)
      → stored_at tenant k (pairs_in new.trees)
      ≡ (if is_eq (key_cmp key k) then None else stored_at tenant k (pairs_in old.trees))
  pub others : LeavesOthers tenant (pairs_in old.trees) (pairs_in new.trees)

-- silences, each named with its tenant, were removed one after the other
abbrev pub RemovesEach : List (List ℕ × List ℕ) → Database → Database → Type 0
RemovesEach [] old new = new ≡ old
RemovesEach (s ∷ ss) old new = (mid : Database) × Removes s.0 (SilenceKey s.1) old mid × RemovesEach ss mid new

-- the database is a store again, in which nothing of a tenant is left
pub record Empties (tenant : List ℕ) (old new : Database) : Type 0 where
  pub store : IsStore new
  pub drops : Drops tenant (pairs_in old.trees) (pairs_in new.trees)

-- ---- what a call leaves

-- the call made this of a store, and committed it
pub record Commits (Makes : Database → Database → Type 0) (old new : State) : Type 0 where
  pub made : Makes old.now new.now
  pub settled : new.now ≡ new.committed
  pub is_open : IsTrue new.is_open

-- what a crash within the call may leave, beside what was there before it
abbrev pub Leaves : (Database → Database → Type 0) → State → Trees → Type 0
Leaves Makes old trees = IsStore old.now → (db : Database) × Makes old.now db × (trees ≡ db.trees)

-- the database is as it was
abbrev pub IsSame : State → State → Type 0
IsSame old new = (new.now ≡ old.now) × (new.committed ≡ old.committed)
