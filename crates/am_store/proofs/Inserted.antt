-- Why an insertion is refused.
use Rattle.std.proofs.Common.{◌≡◌, ◌⊎◌, inl, inr, ℕ, ◌/◌, codes, false, true, List, [], ◌∷◌, ◌++◌, length, slice_get, Option, IsSome, None, Some, Err, arith, refl, sym, subst, ◌∙◌}
use Rattle.sqlite_value.specs.declared.keys.Order.{Order}
use Rattle.sqlite_value.specs.Keys.{plain}
use Rattle.sqlite.specs.declared.types.Value.TheVariants.{Null}
use Rattle.sqlite.specs.declared.error.Error.{Error}
use Rattle.sqlite.specs.Order.{Row}
use Rattle.sqlite.specs.Command.TheVariants.{Insert}
use Rattle.sqlite.specs.Source.{Source}
use Rattle.sqlite.specs.Source.TheVariants.{Values}
use Rattle.sqlite.specs.Term.{Term, lit}
use Rattle.sqlite.specs.Tree.{Trees}
use Rattle.sqlite.specs.Edit.{edit_of}
use Rattle.sqlite.specs.Rowids.TheVariants.{Chosen}
use Rattle.sqlite.specs.Does.{Does}
use Rattle.sqlite.specs.Effect.{value_rows}
use Rattle.sqlite.specs.Rows.{Sourced}
use Rattle.sqlite.specs.Listing.{understood}
use Rattle.sqlite.specs.State.{ExecutesInside, State}
use Rattle.sqlite.proofs.Callers.{IsPlain, command_of, statement_of}
use Rattle.sqlite_rules.specs.Action.{Writes}
use Rattle.sqlite_schema.specs.declared.schema.Among.TheVariants.{All}
use Rattle.sqlite_schema.specs.declared.schema.Column.{Column}
use Rattle.sqlite_schema.specs.declared.schema.Keys.TheVariants.{Enforced}
use Rattle.sqlite_schema.specs.declared.schema.Table.{Table}
use Rattle.sqlite_typing.specs.Types.{accepts_terms}
use Rattle.sqlite_tied.specs.Compute.{everything}
use Rattle.am_item.specs.declared.stamp.Stamp.{Stamp}
use Rattle.am_store.specs.Failing.{IsExcused, RefusesRow}
use Rattle.am_store.specs.Rows.{config_fields, silence_fields}
use Rattle.am_store.specs.Stored.{SilenceText}
use Rattle.am_store.specs.Tables.{config, config_columns, silence, silence_columns, store_schema, table_of}
use Rattle.am_store.specs.Texts.{insert_config, insert_silence}
use Rattle.am_store.proofs.Asked.{IsGiven}
use Rattle.am_store.proofs.Compiled.{insert_config_is, insert_config_plain, insert_silence_is, insert_silence_plain, params6, params12}
use Rattle.am_store.proofs.Dropped.{refers}
use Rattle.am_store.proofs.Executed.{Stops, statement_excused}

-- ---- one row

module _ (name : List ℕ) (tree : ℕ) (columns : List Column) (primary : List ℕ) (uniques : List (List ℕ)) (orders : List Order) (at : ℕ)
    (found : slice_get store_schema.tables at ≡ Some (table_of name tree columns primary uniques orders))
    (limit : Option ℕ) (params : Row) (db : Trees) (terms : List Term) (width : ℕ) (typed : accepts_terms terms (params ++ []) ≡ true)
    (is : value_rows (params ++ []) width (length terms / width) terms ≡ (Null ∷ params) ∷ []) where
  abbrev table : Table
  table = table_of name tree columns primary uniques orders

  -- an insertion stops only at a limit on steps, or where its row is refused
  pub insert_stops : (text : List ℕ) (stop : Option Error)
      → Does limit (record { keys = Enforced; in_doubt = false; may_wait = false }) params (record { schema = store_schema; trees = db }) text None (Insert at (Values terms width)) (Err stop)
      → IsSome limit ⊎ RefusesRow table params db
  insert_stops text stop does = elim (rw found at does) [
    | inl written ↦ elim written.1 [
      | inl sourced ↦ at_source sourced.0 sourced.1
      | inr rows ↦ elim rows.2 [
        | inl counter ↦ absurd (let no = counter.1 in cc)
        | inr counted ↦ elim counted.2 [
          | inl edited ↦
              inr (edited.1.0, subst (λ all. Writes store_schema Enforced db (edit_of db table [] Chosen 0 all) (Err edited.1.0)) (rows.1.1 ∙ is) edited.1.1)
          | inr went ↦ elim went.2 [ inl counts ↦ absurd (let no = counts.1 in cc) | inr given ↦ absurd (let no = given.2 in cc) ]
        ]
      ]
    ]
    | inr concluded ↦ elim concluded.2 [
      | inl broken ↦ absurd (broken.1.0 (refers All concluded.0.trees))
      | inr returned ↦ elim returned.2 [ inl none ↦ absurd (let no = none.1 in cc) | inr given ↦ absurd (let no = given.2 in cc) ]
    ]
  ]
    where
      at_source : (stop : Option Error) → Sourced limit (record { schema = store_schema; trees = db }) (params ++ []) (Values terms width) (Err stop) → IsSome limit ⊎ RefusesRow table params db
      at_source None none = absurd none
      at_source (Some e) (inl (_, untyped)) = absurd (let no = sym typed ∙ untyped in cc)
      at_source (Some e) (inr (_, some)) = inl some

-- ---- an insertion within a transaction

module _ (old new : State) (sql : List ℕ) (params : Row) (has : old.now.schema ≡ store_schema) (given : IsGiven sql (length params) (understood store_schema sql)) (plain : IsPlain (understood store_schema sql))
    (at : ℕ) (from : Source) (is : command_of (understood store_schema sql) ≡ Insert at from) (Refuses : Type 0) where
  pub insertion_excused : ((text : List ℕ) → Stops old store_schema text params (Insert at from) Refuses) → (e : Error) → ExecutesInside 0 sql params old new (Err e) → IsExcused old new e ⊎ Refuses
  insertion_excused stops =
      statement_excused old new sql params store_schema has given plain (Insert at from) is (λ c command bare. rw (command, bare) refl) refl Refuses (stops (statement_of sql (understood store_schema sql)))

-- ---- the insertions of a store

given_config : IsGiven insert_config 6 (understood store_schema insert_config)
unfolding understood everything
given_config = (omega arith, refl)

given_silence : IsGiven insert_silence 12 (understood store_schema insert_silence)
unfolding understood everything
given_silence = (omega arith, refl)

config_typed : (t : List ℕ) (stamp : Stamp) (body : Option (List ℕ)) → accepts_terms (lit Null ∷ params6) (config_fields t stamp body ++ []) ≡ true
config_typed t stamp None = refl
config_typed t stamp (Some text) = refl

silence_typed : (t : List ℕ) (stamp : Stamp) (s : SilenceText) → accepts_terms (lit Null ∷ params12) (silence_fields t stamp s ++ []) ≡ true
silence_typed t stamp s = refl

module _ (old new : State) (has : old.now.schema ≡ store_schema) (t : List ℕ) (stamp : Stamp) where
  pub config_refused : (body : Option (List ℕ)) (e : Error) → ExecutesInside 0 insert_config (config_fields t stamp body) old new (Err e)
      → IsExcused old new e ⊎ RefusesRow (config 1) (config_fields t stamp body) old.now.trees
  config_refused body =
      insertion_excused old new insert_config (config_fields t stamp body) has given_config insert_config_plain 1 _ insert_config_is _
      (insert_stops (codes "config") 1 config_columns (1 ∷ []) ((1 ∷ []) ∷ []) (plain ∷ []) 1 refl old.step_limit (config_fields t stamp body) old.now.trees (lit Null ∷ params6) 7 (config_typed t stamp body) refl)

  pub silence_refused : (s : SilenceText) (e : Error) → ExecutesInside 0 insert_silence (silence_fields t stamp s) old new (Err e)
      → IsExcused old new e ⊎ RefusesRow (silence 3) (silence_fields t stamp s) old.now.trees
  silence_refused s =
      insertion_excused old new insert_silence (silence_fields t stamp s) has given_silence insert_silence_plain 2 _ insert_silence_is _
      (insert_stops (codes "silence") 3 silence_columns (1 ∷ 2 ∷ []) ((1 ∷ 2 ∷ []) ∷ []) (plain ∷ []) 2 refl old.step_limit (silence_fields t stamp s) old.now.trees (lit Null ∷ params12) 13 (silence_typed t stamp s) refl)
