-- How the tables of a store are made.
use Rattle.std.proofs.Common.{◌≡◌, arith, ℕ, pos, true, false, List, [], ◌∷◌, ◌++◌, map, Ok, None, refl, sym, ap, ap₂, subst, ◌∙◌, codes}
use Rattle.std.proofs.lemmas.Fmt.{decimal_digit}
use Rattle.sqlite.specs.declared.types.Value.TheVariants.{Int, Null}
use Rattle.sqlite.specs.Change.{KeepsRows, created, next_tree}
use Rattle.sqlite.specs.Command.TheVariants.{CreateTable}
use Rattle.sqlite.specs.Compile.{table_defined_by}
use Rattle.sqlite.specs.Does.{Tally, lacks_sequence}
use Rattle.sqlite.specs.Effect.{Database}
use Rattle.sqlite.specs.Listing.{understood}
use Rattle.sqlite.specs.Schema.{Schema}
use Rattle.sqlite.specs.State.{Executes, State, Writes}
use Rattle.sqlite.specs.Table.{Table}
use Rattle.sqlite.specs.Term.{col, lit}
use Rattle.sqlite.specs.Tree.{put_row}
use Rattle.sqlite.proofs.Callers.{IsPlain, command_of, runs_as, statement_of}
use Rattle.am_store.specs.Opening.{Founds, HasNoRows, MakesTable}
use Rattle.am_store.specs.Rows.{config_in, pairs_in, silence_in}
use Rattle.am_store.specs.Steps.{PutsRow}
use Rattle.am_store.specs.Tables.{column_of, config, no_schema, one_table, silence, store_schema, two_tables, version}
use Rattle.am_store.specs.Texts.{create_config, create_silence, create_version, insert_version}
use Rattle.am_store.proofs.Compiled.{config_is, silence_is, version_is}
use Rattle.am_store.proofs.CompiledOpening.{create_config_is, create_config_plain, create_silence_is, create_silence_plain, create_version_is, create_version_plain, insert_version_is, insert_version_plain}
use Rattle.am_store.proofs.Statements.{cast_int, inserts, same_value, went}
use Rattle.sqlite.specs.Kind.TheVariants.{Integer}

module _ (before : Schema) (table : Table) (sql : List ℕ)
    (is : (command_of (understood before sql) ≡ CreateTable) × (statement_of sql (understood before sql) ≡ sql)) (defined : table_defined_by sql ≡ Ok table) (plain : IsPlain (understood before sql))
    (uncounted : lacks_sequence (created before table) ≡ false) (old new : State) (has : old.now.schema ≡ before) (count : ℕ) where
  makes : Executes sql [] old new (Ok count) → MakesTable before table old.now new.now
  makes h =
      let w = subst (λ t. Writes old new None CreateTable t [] count) is.1 (runs_as sql [] old new before has CreateTable is.0 plain count h) in
      let all = went w.changed in
      let first = went all.1 in
      let made = first.1 in
      let both : Ok made.table ≡ Ok table = sym made.defined ∙ defined in
      let same : made.table ≡ table = cc in
      let schema : first.0.schema ≡ created before table = made.is ∙ ap (λ s. created s made.table) has ∙ ap (created before) same in
      let now : new.now ≡ first.0 = ap (λ (p : Tally × Database). p.1) (same_value all.2) ∙ same_value (rw (ap lacks_sequence schema ∙ uncounted) at first.2) in
      record {
        schema = ap (λ (d : Database). d.schema) now ∙ schema;
        empty = ap (λ (d : Database). d.trees (next_tree before)) now ∙ subst (λ s. first.0.trees (next_tree s) ≡ []) has made.empty;
        others = subst (λ (d : Database). KeepsRows before.tables old.now.trees d.trees) (sym now) (subst (λ s. KeepsRows s.tables old.now.trees first.0.trees) has made.others);
      }

module _ (old new : State) (count : ℕ) where
  pub made_version : old.now.schema ≡ no_schema → Executes create_version [] old new (Ok count) → MakesTable no_schema (version 0) old.now new.now
  made_version has h = makes no_schema (version 0) create_version create_version_is version_is create_version_plain refl old new has count h

  pub made_config : old.now.schema ≡ one_table → Executes create_config [] old new (Ok count) → MakesTable one_table (config 0) old.now new.now
  made_config has h = makes one_table (config 0) create_config create_config_is config_is create_config_plain refl old new has count h

  pub made_silence : old.now.schema ≡ two_tables → Executes create_silence [] old new (Ok count) → MakesTable two_tables (silence 0) old.now new.now
  made_silence has h = makes two_tables (silence 0) create_silence create_silence_is silence_is create_silence_plain refl old new has count h

  pub put_in_version : old.now.schema ≡ store_schema → Executes insert_version (Int (pos 1) ∷ []) old new (Ok count) → PutsRow 0 (Int (pos 1) ∷ []) old.now new.now
  put_in_version has h =
      inserts (codes "version") 0 (column_of (codes "n") Integer true ∷ []) [] [] [] 0 refl (λ olds news. refl) insert_version (Int (pos 1) ∷ []) old new has insert_version_plain count
      (lit Null ∷ col 0 0 ∷ []) 2 insert_version_is refl (rw (cast_int (pos 1)) refl) h

-- the schema that the three tables make
made_schema : created two_tables (silence 0) ≡ store_schema
made_schema = rw (decimal_digit 1 (omega arith)) refl

not_1_0 : ◌≡◌ {A = ℕ} 1 0 → ⊥
not_1_0 e = cc

not_3_0 : ◌≡◌ {A = ℕ} 3 0 → ⊥
not_3_0 e = cc

-- what the three tables make of a blank database
pub no_rows : (a b c d : Database) → MakesTable no_schema (version 0) a b → MakesTable one_table (config 0) b c → MakesTable two_tables (silence 0) c d → HasNoRows d
no_rows a b c d one two three = record {
  schema = three.schema ∙ made_schema;
  versions = three.others.0 ∙ two.others.0 ∙ one.empty;
  configs = three.others.1.0 ∙ two.empty;
  silences = three.empty;
}

-- what the four statements make of it
pub founds : (a d e : Database) → a.schema ≡ no_schema → HasNoRows d → PutsRow 0 (Int (pos 1) ∷ []) d e → Founds a e
unfolding pairs_in
founds a d e blank none put =
    let configs : e.trees 1 ≡ [] = put.others.1.0 not_1_0 ∙ none.configs in
    let silences : e.trees 3 ≡ [] = put.others.1.1.0 not_3_0 ∙ none.silences in
    record {
      blank = blank;
      store = record {
        schema = put.schema;
        version = (put.id, put.rows ∙ ap (put_row (Int put.id ∷ Int (pos 1) ∷ [])) none.versions);
        configs = rw configs tt;
        configs_apart = rw configs tt;
        silences = rw silences tt;
        silences_apart = rw silences tt;
      };
      empty = ap₂ (λ cs ss. map config_in cs ++ map silence_in ss) configs silences;
    }
