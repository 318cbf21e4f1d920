-- Why a deletion is refused.
use Rattle.std.proofs.Common.{◌≡◌, inl, inr, ℕ, ℤ, zero, suc, ◌==◌, ◌||◌, Bool, true, false, not, ◌&&◌, codes, List, [], ◌∷◌, length, eqb-true, slice_get, Option, IsSome, None, Some, Err, ap, arith, length-append, refl, sym, subst}
use Rattle.std.specs.List.{AllByRecursion, list_any}
use Rattle.std.proofs.lemmas.Bool.{cases_Bool, not-true, both_ways, false_from_ne_true}
use Rattle.sqlite_value.specs.declared.keys.Order.{Order}
use Rattle.sqlite.specs.declared.error.Error.{Error}
use Rattle.sqlite.specs.Order.{Row}
use Rattle.sqlite.specs.Command.TheVariants.{Delete}
use Rattle.sqlite.specs.Query.{Query}
use Rattle.sqlite.specs.Rows.{Queried}
use Rattle.sqlite.specs.Listing.{understood}
use Rattle.sqlite.specs.State.{ExecutesInside, State}
use Rattle.sqlite.proofs.Callers.{IsPlain, command_of, statement_of}
use Rattle.sqlite_schema.specs.declared.program.Program.{Program}
use Rattle.am_store.specs.Failing.{IsExcused}
use Rattle.am_store.proofs.Asked.{IsGiven, refuses_query}
use Rattle.am_store.proofs.Executed.{statement_excused}
use Rattle.sqlite.specs.Rowids.TheVariants.{Given}
use Rattle.sqlite.specs.Does.{Does}
use Rattle.sqlite.specs.Edit.{edit_of, without_all}
use Rattle.sqlite.specs.Effect.{Database, RefusesQuery}
use Rattle.sqlite.specs.Tree.{Trees, rowid, without_rowid, has_rowid, with_tree}
use Rattle.sqlite_rules.proofs.ListLemmas.{has_filtered, some_from, some_has, test_from, test_has}
use Rattle.sqlite_rules.proofs.RuleLemmas.{keeps_at, keeps_from}
use Rattle.sqlite_rules.specs.Action.{works, Leads, Writes}
use Rattle.sqlite_rules.specs.Calls.{ids_of}
use Rattle.sqlite_rules.specs.Edit.{IsRefused}
use Rattle.sqlite_rules.specs.Lists.{Has}
use Rattle.sqlite_rules.specs.declared.error.Refusal.{Refusal}
use Rattle.sqlite_rules.specs.declared.error.Refusal.TheVariants.{Violates, Mismatch, NoRowid, BadReference, TooDeep}
use Rattle.sqlite_schema.specs.declared.schema.Among.{Among}
use Rattle.sqlite_schema.specs.declared.schema.Among.TheVariants.{All}
use Rattle.sqlite_schema.specs.declared.schema.Column.{Column}
use Rattle.sqlite_schema.specs.declared.schema.Constraint.TheVariants.{Datatype, NotNull, Check, PrimaryKey, Unique, ForeignKey}
use Rattle.sqlite_schema.specs.declared.schema.Index.{Index}
use Rattle.sqlite_schema.specs.declared.schema.Keys.TheVariants.{Enforced}
use Rattle.sqlite_schema.specs.declared.schema.Table.{Table}
use Rattle.sqlite_schema.specs.Rules.{Keeps, Refers, agree, clashes, differ, guards}
use Rattle.sqlite_value.specs.Keys.{plain}
use Rattle.sqlite.specs.declared.types.Value.TheVariants.{Text}
use Rattle.sqlite.specs.Term.{col}
use Rattle.sqlite.specs.Effect.{IsDatabase}
use Rattle.sqlite_tied.specs.Compute.{everything}
use Rattle.am_store.specs.Tables.{config_columns, silence_columns, store_schema, table_of}
use Rattle.am_store.specs.Texts.{delete_config, delete_silence, delete_silences}
use Rattle.am_store.specs.Where.{of_tenant, of_silence}
use Rattle.am_store.proofs.Compiled.{delete_config_is, delete_config_plain, delete_silence_is, delete_silence_plain, delete_silences_is, delete_silences_plain, over}

-- ---- fewer rows keep their keys apart

has_left : (ids : List ℤ) (rows : List Row) (r : Row) → Has (without_all rows ids) r → Has rows r
has_left [] rows r there = there
has_left (id ∷ ids) rows r there = (has_filtered (λ s. not (has_rowid id s)) rows r (has_left ids (without_rowid id rows) r there)).0

left_of : (db : Trees) (tree : ℕ) (ids : List ℤ) (t : ℕ) (r : Row) → Has (with_tree db tree (without_all (db tree) ids) t) r → Has (db t) r
left_of db tree ids t r there = elim (cases_Bool (t == tree)) [
  | inl same ↦ subst (λ n. Has (db n) r) (sym (eqb-true t tree same)) (has_left ids (db tree) r (rw same at there))
  | inr other ↦ rw other at there
]

none_left : (guarded : Bool) (p : Row → Bool) (old new : List Row) → ((r : Row) → Has new r → Has old r) → not (guarded && list_any p old) ≡ true → not (guarded && list_any p new) ≡ true
none_left false p old new within none = refl
none_left true p old new within none =
    let missing = not-true (list_any p old) none in
    ap not (false_from_ne_true (list_any p new) (λ hit. let it = some_has p new hit in both_ways _ missing (some_from p old it.0 (within it.0 it.1) it.2)))

unique_left : (old new : Trees) → ((t : ℕ) (r : Row) → Has (new t) r → Has (old t) r) → Keeps Unique store_schema old → Keeps Unique store_schema new
unique_left old new within keeps =
    keeps_from Unique store_schema new (λ t row listed there.
    let other : Index → Row → Bool = λ i x. agree i.order i.columns x i.columns row && differ (rowid x) (rowid row) in
    test_from (λ i. not (guards i t && clashes i.order i.columns (new t.tree) row)) store_schema.indexes (λ i known.
    none_left (guards i t) (other i) (old t.tree) (new t.tree) (within t.tree)
    (test_has (λ i. not (guards i t && clashes i.order i.columns (old t.tree) row)) store_schema.indexes i (keeps_at Unique store_schema old t row keeps listed (within t.tree row there)) known)))

-- ---- no table refers to another

all_true : (rows : List Row) → AllByRecursion (λ row. true ≡ true) rows
all_true [] = tt
all_true (r ∷ rs) = (refl, all_true rs)

pub refers : (among : Among) (db : Trees) → Refers among store_schema db
refers among db = (all_true (db 0), (all_true (db 1), (all_true (db 3), tt)))

-- nothing is left to do, so nothing is refused
pub settled : (n : ℕ) (next : Trees) (why : Option Refusal) → Leads store_schema Enforced n next [] (Err why) → ⊥
settled zero next why h = let no = h.1 in cc
settled (suc n) next why h = omega (arith, ap length h.2, length-append h.0 (h.1 ∷ []))

module _ (name : List ℕ) (tree : ℕ) (columns : List Column) (primary : List ℕ) (uniques : List (List ℕ)) (orders : List Order) (at : ℕ)
    (found : slice_get store_schema.tables at ≡ Some (table_of name tree columns primary uniques orders))
    (free : (olds news : List Row) → works store_schema Enforced 0 tree olds news ≡ [])
    (limit : Option ℕ) (params : Row) (db : Trees) (unique : Keeps Unique store_schema db) (q : Query)
    (limited : (e : Error) → RefusesQuery limit (record { schema = store_schema; trees = db }) (record { lets = []; body = q }) params e → IsSome limit) where
  abbrev table : Table
  table = table_of name tree columns primary uniques orders

  referred : (b : Bool) → (not b || true) ≡ false → ⊥
  referred true e = cc
  referred false e = cc

  not_refused : (ids : List ℤ) (why : Refusal) → IsRefused store_schema Enforced db (edit_of db table ids Given 0 []) why → ⊥
  not_refused ids (Violates Datatype) is = cc
  not_refused ids (Violates NotNull) is = cc
  not_refused ids (Violates Check) is = cc
  not_refused ids (Violates PrimaryKey) is = cc
  not_refused ids (Violates Unique) is = is (unique_left db _ (left_of db tree ids) unique)
  not_refused ids (Violates ForeignKey) is = is
  not_refused ids Mismatch is = cc
  not_refused ids NoRowid is = cc
  not_refused ids BadReference is = referred _ is
  not_refused ids TooDeep is = is

  not_written : (ids : List ℤ) (why : Option Refusal) → Writes store_schema Enforced db (edit_of db table ids Given 0 []) (Err why) → ⊥
  not_written ids why (inl refused) = not_refused ids refused.0 refused.1
  not_written ids why (inr (inl oversized)) = oversized.1
  not_written ids why (inr (inr went)) = settled went.2.0 went.0 why (rw (free _ _) at went.2.1)

  -- a deletion stops only at a limit on steps
  pub delete_stops : (text : List ℕ) (stop : Option Error)
      → Does limit (record { keys = Enforced; in_doubt = false; may_wait = false }) params (record { schema = store_schema; trees = db }) text None (Delete at (record { lets = []; body = q })) (Err stop) → IsSome limit
  delete_stops text stop does = elim (rw found at does) [
    | inl written ↦ elim written.1 [
      | inl queried ↦ at_query queried.0 queried.1
      | inr edited ↦ elim edited.2 [
        | inl refused ↦ absurd (not_written (ids_of edited.0) refused.1.0 refused.1.1)
        | inr given ↦ absurd (let no = given.2 in cc)
      ]
    ]
    | inr concluded ↦ elim concluded.2 [
      | inl broken ↦ absurd (broken.1.0 (refers All concluded.0.trees))
      | inr returned ↦ elim returned.2 [ inl none ↦ absurd (let no = none.1 in cc) | inr given ↦ absurd (let no = given.2 in cc) ]
    ]
  ]
    where
      at_query : (stop : Option Error) → Queried limit (record { schema = store_schema; trees = db }) (record { lets = []; body = q }) params (Err stop) → IsSome limit
      at_query None none = absurd none
      at_query (Some e) refused = limited e refused

-- ---- a deletion within a transaction

module _ (old new : State) (sql : List ℕ) (params : Row) (has : old.now.schema ≡ store_schema) (given : IsGiven sql (length params) (understood store_schema sql)) (plain : IsPlain (understood store_schema sql))
    (at : ℕ) (p : Program) (is : command_of (understood store_schema sql) ≡ Delete at p)
    (stops : (text : List ℕ) (stop : Option Error)
    → Does old.step_limit (record { keys = Enforced; in_doubt = false; may_wait = false }) params (record { schema = store_schema; trees = old.now.trees }) text None (Delete at p) (Err stop) → IsSome old.step_limit) where
  pub deletion_excused : (e : Error) → ExecutesInside 0 sql params old new (Err e) → IsExcused old new e
  deletion_excused e h =
      elim (statement_excused old new sql params store_schema has given plain (Delete at p) is (λ c command bare. rw (command, bare) refl) refl ⊥ (λ stop does. inl (stops (statement_of sql (understood store_schema sql)) stop does)) e h) [
        | inl excused ↦ excused
        | inr none ↦ absurd none
      ]

-- ---- the deletions of a store

given_config : IsGiven delete_config 1 (understood store_schema delete_config)
unfolding understood everything
given_config = (omega arith, refl)

given_silence : IsGiven delete_silence 2 (understood store_schema delete_silence)
unfolding understood everything
given_silence = (omega arith, refl)

given_silences : IsGiven delete_silences 1 (understood store_schema delete_silences)
unfolding understood everything
given_silences = (omega arith, refl)

module _ (old new : State) (has : old.now.schema ≡ store_schema) (sound : IsDatabase old.now) (t : List ℕ) where
  unique : Keeps Unique store_schema old.now.trees
  unique = subst (λ s. Keeps Unique s old.now.trees) has (sound.obeys.rules Unique)

  abbrev there : Database
  there = record { schema = store_schema; trees = old.now.trees }

  pub config_excused : (e : Error) → ExecutesInside 0 delete_config (Text t ∷ []) old new (Err e) → IsExcused old new e
  config_excused =
      deletion_excused old new delete_config (Text t ∷ []) has given_config delete_config_plain 1 _ delete_config_is
      (delete_stops (codes "config") 1 config_columns (1 ∷ []) ((1 ∷ []) ∷ []) (plain ∷ []) 1 refl (λ olds news. refl) old.step_limit (Text t ∷ []) old.now.trees unique _
      (λ e. refuses_query (over 1 of_tenant (col 1 0 ∷ []) []) (Text t ∷ []) refl refl refl old.step_limit there e refl))

  pub silences_excused : (e : Error) → ExecutesInside 0 delete_silences (Text t ∷ []) old new (Err e) → IsExcused old new e
  silences_excused =
      deletion_excused old new delete_silences (Text t ∷ []) has given_silences delete_silences_plain 2 _ delete_silences_is
      (delete_stops (codes "silence") 3 silence_columns (1 ∷ 2 ∷ []) ((1 ∷ 2 ∷ []) ∷ []) (plain ∷ []) 2 refl (λ olds news. refl) old.step_limit (Text t ∷ []) old.now.trees unique _
      (λ e. refuses_query (over 3 of_tenant (col 1 0 ∷ []) []) (Text t ∷ []) refl refl refl old.step_limit there e refl))

  pub silence_excused : (id : List ℕ) (e : Error) → ExecutesInside 0 delete_silence (Text t ∷ Text id ∷ []) old new (Err e) → IsExcused old new e
  silence_excused id =
      deletion_excused old new delete_silence (Text t ∷ Text id ∷ []) has given_silence delete_silence_plain 2 _ delete_silence_is
      (delete_stops (codes "silence") 3 silence_columns (1 ∷ 2 ∷ []) ((1 ∷ 2 ∷ []) ∷ []) (plain ∷ []) 2 refl (λ olds news. refl) old.step_limit (Text t ∷ Text id ∷ []) old.now.trees unique _
      (λ e. refuses_query (over 3 of_silence (col 1 0 ∷ []) []) (Text t ∷ Text id ∷ []) refl refl refl old.step_limit there e refl))
