-- What a query answers, a deletion takes out and an insertion puts in, over the tables of a store.
use Rattle.std.proofs.Common.{◌≡◌, ◌⊎◌, inl, inr, ℕ, ◌/◌, ℤ, Bool, true, false, cond, List, [], ◌∷◌, ◌++◌, length, map, slice_get, Some, None, Ok, Err, Result, refl, sym, ap, subst, ◌∙◌}
use Rattle.std.specs.List.{AllByRecursion, filter, flat_map, list_all}
use Rattle.std.specs.List.Sorted.{IsPermutation}
use Rattle.std.proofs.lemmas.Bool.{cases_Bool, and_parts, not-true}
use Rattle.std.proofs.lemmas.List.Sorted.{IsPermutation-map}
use Rattle.sqlite_trees.proofs.ListLemmas.{map-map}
use Rattle.sqlite.specs.declared.types.Value.{Value}
use Rattle.sqlite.specs.declared.types.Value.TheVariants.{Null, Int}
use Rattle.sqlite.specs.Order.{Row}
use Rattle.sqlite.specs.Term.{Term, col, eval_all, holds}
use Rattle.sqlite.specs.Ops.{unary}
use Rattle.sqlite.specs.Query.{IsAnswer, Output, output}
use Rattle.sqlite_value.specs.declared.keys.Key.{Key}
use Rattle.sqlite_value.specs.declared.keys.Order.{Order}
use Rattle.sqlite.specs.Program.{overlay}
use Rattle.sqlite.specs.Table.{Table}
use Rattle.sqlite.specs.Kind.TheVariants.{Integer}
use Rattle.sqlite_schema.specs.declared.schema.Column.{Column}
use Rattle.sqlite_schema.specs.declared.schema.Keys.TheVariants.{Enforced}
use Rattle.sqlite.specs.Source.TheVariants.{Values}
use Rattle.sqlite.specs.Command.TheVariants.{Insert, Select, Delete}
use Rattle.sqlite.specs.Edit.{are_fresh, edit_of, id_in, next_rowid, put_all, taken_by}
use Rattle.sqlite.specs.Cast.{cast, cast_all}
use Rattle.sqlite.specs.Rowids.TheVariants.{Chosen, Given}
use Rattle.sqlite.specs.Does.{Tally, Does}
use Rattle.sqlite.specs.Rows.{Written}
use Rattle.sqlite_rules.specs.Calls.{ids_of}
use Rattle.sqlite_rules.specs.Action.{works}
use Rattle.sqlite.specs.Tree.{Trees, rowid}
use Rattle.sqlite.specs.Listing.{understood, reads_listing}
use Rattle.sqlite.specs.Effect.{Database, value_rows}
use Rattle.sqlite.specs.State.{State, mode_of, Executes, Shown}
use Rattle.sqlite.proofs.Callers.{IsPlain, command_of, statement_of, runs_as, reads_as, one_step}
use Rattle.am_store.specs.Apart.{AreApart, HasId}
use Rattle.am_store.specs.Steps.{KeepsOthers, PutsRow, TakesOut}
use Rattle.am_store.specs.Tables.{store_schema, table_of}
use Rattle.am_store.specs.Where.{hit}
use Rattle.am_store.proofs.Compiled.{over}
use Rattle.am_store.proofs.RowLists.{without_test}

-- ---- queries

module _ (tree : ℕ) (terms project : List Term) (order : List (Term × Key)) (params : Row) where
  pub matched : (rows : List Row)
      → map (output (over tree terms project order)) (flat_map (λ r. cond (list_all (holds (params ∷ r ∷ [])) terms) ((params ∷ r ∷ []) ∷ []) []) rows)
      ≡ map (λ r. output (over tree terms project order) (params ∷ r ∷ [])) (filter (hit terms params) rows)
  matched [] = refl
  matched (r ∷ rs) = elim (cases_Bool (hit terms params r)) [
    | inl met ↦ rw met (ap (λ xs. output (over tree terms project order) (params ∷ r ∷ []) ∷ xs) (matched rs))
    | inr missed ↦ rw missed (matched rs)
  ]

  -- the rows of an answer, in some order
  pub answers : (db : Trees) (rows : List Row) → IsAnswer (over tree terms project order) db params rows
      → IsPermutation (map (λ r. eval_all project (params ∷ r ∷ [])) (filter (hit terms params) (db tree))) rows
  answers db rows a =
      let q = over tree terms project order in
      let kept : a.kept ≡ map (λ r. output q (params ∷ r ∷ [])) (filter (hit terms params) (db tree)) =
      a.distinct ∙ ap (map (output q)) a.grouped ∙ matched (db tree) in
      let same : IsPermutation (map (λ r. output q (params ∷ r ∷ [])) (filter (hit terms params) (db tree))) a.ordered =
      subst (λ xs. IsPermutation xs a.ordered) kept a.same in
      let shown : IsPermutation (map (λ r. eval_all project (params ∷ r ∷ [])) (filter (hit terms params) (db tree))) (map (λ (o : Output). o.1) a.ordered) =
      subst (λ xs. IsPermutation xs (map (λ (o : Output). o.1) a.ordered)) (map-map (λ (o : Output). o.1) _ (filter (hit terms params) (db tree)))
      (IsPermutation-map (λ (o : Output). o.1) _ _ same) in
      subst (IsPermutation (map (λ r. eval_all project (params ∷ r ∷ [])) (filter (hit terms params) (db tree)))) (sym a.shown) shown

  -- what a query shows
  pub reads : (sql : List ℕ) (names : List (List ℕ)) (old new : State) (rows : List Row) → old.now.schema ≡ store_schema
      → command_of (understood store_schema sql) ≡ Select (record { lets = []; body = over tree terms project order }) names
      → IsPlain (understood store_schema sql) → reads_listing store_schema sql ≡ false → overlay old.now.trees [] tree ≡ old.now.trees tree
      → Shown sql params old new rows → IsPermutation (map (λ r. eval_all project (params ∷ r ∷ [])) (filter (hit terms params) (old.now.trees tree))) rows
  reads sql names old new rows has is plain unlisted bare shown =
      let read = reads_as sql params old new store_schema has _ is plain unlisted rows shown in
      subst (λ all. IsPermutation (map (λ r. eval_all project (params ∷ r ∷ [])) (filter (hit terms params) all)) rows) bare
      (answers (overlay old.now.trees []) rows (read.answer Null))

-- ---- writes

either : (b : Bool) (x : Value) → cond b x x ≡ x
either true x = refl
either false x = refl

pub cast_null : cast Integer Null ≡ Null
unfolding unary
cast_null = either _ Null

pub cast_int : (n : ℤ) → cast Integer (Int n) ≡ Int n
unfolding unary
cast_int n = either _ (Int n)

-- a part that gave a value did not stop on the way
pub went : {B E R : Type 0} {b : B} {Stops : E → Type 0} → ((stop : E) × Stops stop × (Ok b ≡ Err stop)) ⊎ R → R
went (inl stopped) = absurd (let e = stopped.2 in cc)
went (inr on) = on

pub same_value : {B E : Type 0} {a b : B} → ◌≡◌ {A = Result B E} (Ok a) (Ok b) → a ≡ b
same_value e = cc

module _ (name : List ℕ) (tree : ℕ) (columns : List Column) (primary : List ℕ) (uniques : List (List ℕ)) (orders : List Order) (at : ℕ)
    (found : slice_get store_schema.tables at ≡ Some (table_of name tree columns primary uniques orders))
    (free : (olds news : List Row) → works store_schema Enforced 0 tree olds news ≡ [])
    (sql : List ℕ) (params : Row) (old new : State) (has : old.now.schema ≡ store_schema) (plain : IsPlain (understood store_schema sql)) (count : ℕ) where
  abbrev table : Table
  table = table_of name tree columns primary uniques orders

  pub deletes : (terms : List Term) → command_of (understood store_schema sql) ≡ Delete at (record { lets = []; body = over tree terms (col 1 0 ∷ []) [] })
      → overlay old.now.trees [] tree ≡ old.now.trees tree → AllByRecursion HasId (old.now.trees tree) → AreApart (old.now.trees tree) → Executes sql params old new (Ok count) → TakesOut tree (hit terms params) old.now new.now
  deletes terms is bare have apart h =
      let command = Delete at (record { lets = []; body = over tree terms (col 1 0 ∷ []) [] }) in
      let w = runs_as sql params old new store_schema has command is plain count h in
      let text = statement_of sql (understood store_schema sql) in
      let changed = subst (λ s. Does old.step_limit (mode_of old) params (record old.now { schema = s }) text None command (Ok (w.tally, new.now))) has w.changed in
      let done = went (rw found at changed) in
      let now = ap (λ (p : Tally × Database). p.1) (same_value (went (went done.2).2).2) in
      let answered = went done.1 in
      let written = went answered.2 in
      let trees : done.0.trees ≡ written.0 = ap (λ (it : Written). it.trees) (same_value written.2) in
      let edit = edit_of old.now.trees table (ids_of answered.0) Given 0 [] in
      let applies = one_step store_schema Enforced old.now.trees written.0 edit (free (taken_by old.now.trees edit) edit.news) written.1 in
      let rows : IsPermutation (map (λ r. rowid r ∷ []) (filter (hit terms params) (old.now.trees tree))) answered.0 =
      subst (λ all. IsPermutation (map (λ r. rowid r ∷ []) (filter (hit terms params) all)) answered.0) bare
      (answers tree terms (col 1 0 ∷ []) [] params (overlay old.now.trees []) answered.0 (answered.1.answer Null)) in
      let ids : IsPermutation (map (λ r. id_in (rowid r)) (filter (hit terms params) (old.now.trees tree))) (ids_of answered.0) =
      subst (λ xs. IsPermutation xs (ids_of answered.0)) (map-map (λ r. id_in (rowid r)) (λ r. rowid r ∷ []) (filter (hit terms params) (old.now.trees tree)))
      (IsPermutation-map (λ r. id_in (rowid r)) _ _ rows) in
      record {
        schema = ap (λ (d : Database). d.schema) now;
        rows = ap (λ (d : Database). d.trees tree) now ∙ ap (λ (t : Trees). t tree) trees ∙ applies.rows ∙ without_test (hit terms params) (old.now.trees tree) (ids_of answered.0) have apart ids;
        others = subst (λ (all : Trees). KeepsOthers tree old.now.trees all) (sym (ap (λ (d : Database). d.trees) now ∙ trees)) applies.tables;
      }

  pub inserts : (terms : List Term) (width : ℕ) → command_of (understood store_schema sql) ≡ Insert at (Values terms width)
      → value_rows (params ++ []) width (length terms / width) terms ≡ (Null ∷ params) ∷ [] → cast_all columns params ≡ params → Executes sql params old new (Ok count)
      → PutsRow tree params old.now new.now
  inserts terms width is given casts h =
      let db = old.now.trees in
      let command = Insert at (Values terms width) in
      let w = runs_as sql params old new store_schema has command is plain count h in
      let text = statement_of sql (understood store_schema sql) in
      let changed = subst (λ s. Does old.step_limit (mode_of old) params (record old.now { schema = s }) text None command (Ok (w.tally, new.now))) has w.changed in
      let done = went (rw found at changed) in
      let now = ap (λ (p : Tally × Database). p.1) (same_value (went (went done.2).2).2) in
      let sourced = went done.1 in
      let written = went (went sourced.2).2 in
      let counted = went written.2 in
      let trees : done.0.trees ≡ written.0 = ap (λ (it : Written). it.trees) (same_value counted.2) ∙ same_value counted.1 in
      let edit = edit_of db table [] Chosen 0 sourced.0 in
      let applies = one_step store_schema Enforced db written.0 edit (free (taken_by db edit) edit.news) written.1 in
      let row : Row = Int (next_rowid (db tree)) ∷ params in
      let news : edit.news ≡ row ∷ [] =
      ap (λ all. (edit_of db table [] Chosen 0 all).news) (sourced.1.1 ∙ given) ∙ rw (cast_null, casts) refl in
      let fresh = and_parts _ _ (subst (λ all. are_fresh (db tree) all ≡ true) news applies.fresh) in
      record {
        schema = ap (λ (d : Database). d.schema) now;
        id = next_rowid (db tree);
        chosen = refl;
        free = not-true _ fresh.0;
        rows = ap (λ (d : Database). d.trees tree) now ∙ ap (λ (t : Trees). t tree) trees ∙ applies.rows ∙ ap (λ all. put_all (db tree) all) news;
        others = subst (λ (all : Trees). KeepsOthers tree db all) (sym (ap (λ (d : Database). d.trees) now ∙ trees)) applies.tables;
      }
