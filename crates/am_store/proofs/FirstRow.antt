-- Why the row of the version is not put in.
use Rattle.std.proofs.Common.{◌≡◌, inl, inr, zero, suc, pos, true, codes, [], ◌∷◌, Option, Err, All, arith, refl, sym, ap, subst, ◌∙◌}
use Rattle.std.proofs.lemmas.Nat.Bits.{bit_at-zero}
use Rattle.std.specs.Float.{NotNan}
use Rattle.sqlite_value.specs.Order.{number}
use Rattle.sqlite.specs.Edit.{edit_of}
use Rattle.sqlite.specs.Kind.TheVariants.{Integer}
use Rattle.sqlite.specs.Listing.{understood}
use Rattle.sqlite.specs.Order.{Row}
use Rattle.sqlite.specs.Rowids.TheVariants.{Chosen}
use Rattle.sqlite.specs.State.{ExecutesInside, State}
use Rattle.sqlite.specs.Term.{col, lit}
use Rattle.sqlite.specs.Tree.{Trees}
use Rattle.sqlite.specs.declared.error.Error.{Error}
use Rattle.sqlite.specs.declared.types.Value.TheVariants.{Int, Null}
use Rattle.sqlite_rules.specs.Action.{Writes}
use Rattle.sqlite_rules.specs.Edit.{Edit, IsOversized, IsRefused}
use Rattle.sqlite_rules.specs.declared.error.Refusal.{Refusal}
use Rattle.sqlite_rules.specs.declared.error.Refusal.TheVariants.{Violates, Mismatch, NoRowid, BadReference, TooDeep}
use Rattle.sqlite_schema.specs.declared.schema.Constraint.TheVariants.{Datatype, NotNull, Check, PrimaryKey, Unique, ForeignKey}
use Rattle.sqlite_schema.specs.declared.schema.Keys.TheVariants.{Enforced}
use Rattle.sqlite_tied.specs.Compute.{everything}
use Rattle.sqlite_trees.specs.View.{IsStorableRow}
use Rattle.am_store.specs.Failing.{IsExcused}
use Rattle.am_store.specs.Opening.{HasNoRows}
use Rattle.am_store.specs.Tables.{column_of, store_schema, version}
use Rattle.am_store.specs.Texts.{insert_version}
use Rattle.am_store.proofs.Asked.{IsGiven}
use Rattle.am_store.proofs.CompiledOpening.{insert_version_is, insert_version_plain}
use Rattle.am_store.proofs.Dropped.{settled}
use Rattle.am_store.proofs.Inserted.{insert_stops, insertion_excused}
use Rattle.am_store.proofs.Statements.{cast_int, cast_null}

-- the row of the version, under the first rowid
abbrev first : Row
first = Int (pos 1) ∷ Int (pos 1) ∷ []

numbers : All (λ v. NotNan (number v)) first
unfolding lib.Ieee.is_nan
numbers zero d within = tt
numbers (suc zero) d within = tt
numbers (suc (suc k)) d within = absurd (omega (arith, within))

storable : IsStorableRow 0 first
storable = (
  record {
    typed = λ c set. absurd (let clash = sym (bit_at-zero c) ∙ set in cc);
    columns = (omega arith, omega arith);
    numbers = numbers;
    short = omega arith;
  },
  omega arith,
)

not_oversized : IsOversized store_schema (version 0) first → ⊥
not_oversized (inl large) = large storable
not_oversized (inr (i, inl same, of, _)) = let clash = sym (ap (λ j. j.table) same) ∙ of in cc
not_oversized (inr (i, inr (inl same), of, _)) = let clash = sym (ap (λ j. j.table) same) ∙ of in cc
not_oversized (inr (i, inr (inr none), of, _)) = none

module _ (db : Trees) (versions : db 0 ≡ []) (configs : db 1 ≡ []) (silences : db 3 ≡ []) where
  abbrev edit : Edit
  edit = record { table = version 0; gone = []; news = first ∷ [] }

  not_refused : (why : Refusal) → IsRefused store_schema Enforced db edit why → ⊥
  not_refused (Violates Datatype) is = cc
  not_refused (Violates NotNull) is = cc
  not_refused (Violates Check) is = cc
  not_refused (Violates PrimaryKey) is = let clash = rw versions at is in cc
  not_refused (Violates Unique) is = is (rw (versions, configs, silences) ((refl, tt), (tt, (tt, tt))))
  not_refused (Violates ForeignKey) is = is
  not_refused Mismatch is = cc
  not_refused NoRowid is = cc
  not_refused BadReference is = cc
  not_refused TooDeep is = is

  not_stopped : (why : Option Refusal) → Writes store_schema Enforced db edit (Err why) → ⊥
  not_stopped why (inl refused) = not_refused refused.0 refused.1
  not_stopped why (inr (inl (row, inl same, over, _))) = not_oversized (subst (IsOversized store_schema (version 0)) same over)
  not_stopped why (inr (inl (row, inr none, over, _))) = none
  not_stopped why (inr (inr went)) = settled went.2.0 went.0 why went.2.1

  version_fits : (why : Option Refusal) → Writes store_schema Enforced db (edit_of db (version 0) [] Chosen 0 ((Null ∷ Int (pos 1) ∷ []) ∷ [])) (Err why) → ⊥
  version_fits why h =
      let is : edit_of db (version 0) [] Chosen 0 ((Null ∷ Int (pos 1) ∷ []) ∷ []) ≡ edit = rw (versions, cast_null, cast_int (pos 1)) refl in
      not_stopped why (subst (λ e. Writes store_schema Enforced db e (Err why)) is h)

given : IsGiven insert_version 1 (understood store_schema insert_version)
unfolding understood everything
given = (omega arith, refl)

-- over tables without rows, the row is refused only for a cause
pub row_excused : (old new : State) → HasNoRows old.now → (e : Error) → ExecutesInside 0 insert_version (Int (pos 1) ∷ []) old new (Err e) → IsExcused old new e
row_excused old new none e h =
    let params : Row = Int (pos 1) ∷ [] in
    let stops = insert_stops (codes "version") 0 (column_of (codes "n") Integer true ∷ []) [] [] [] 0 refl old.step_limit params old.now.trees (lit Null ∷ col 0 0 ∷ []) 2 refl refl in
    elim (insertion_excused old new insert_version params none.schema given insert_version_plain 0 _ insert_version_is _ stops e h) [
      | inl cause ↦ cause
      | inr refused ↦ absurd (version_fits old.now.trees none.versions none.configs none.silences refused.0 refused.1)
    ]
