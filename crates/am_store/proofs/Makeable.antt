-- Why a table of a store is not made.
use Rattle.std.proofs.Common.{◌≡◌, inl, inr, ℕ, ◌+◌, ◌*◌, ◌^◌, ◌<◌, true, false, codes, List, [], length, Option, Some, None, Ok, Err, arith, refl, sym, ap, subst, ◌∙◌}
use Rattle.std.specs.Str.{IsUtf8}
use Rattle.std.specs.List.{AllByRecursion}
use Rattle.std.proofs.lemmas.Bool.{both_ways}
use Rattle.sqlite_value.specs.Order.{value_cmp}
use Rattle.sqlite.specs.declared.types.Value.TheVariants.{Text}
use Rattle.sqlite.specs.declared.error.Error.{Error}
use Rattle.sqlite.specs.declared.run.Mode.{Mode}
use Rattle.sqlite.specs.Change.{automatics, created, is_reserved, is_used, next_tree}
use Rattle.sqlite.specs.Command.TheVariants.{CreateTable}
use Rattle.sqlite.specs.Compile.{table_defined_by}
use Rattle.sqlite.specs.Does.{Does, MakesTable, lacks_sequence}
use Rattle.sqlite.specs.Effect.{Database}
use Rattle.sqlite.specs.Listing.{understood}
use Rattle.sqlite.specs.Order.{Row}
use Rattle.sqlite.specs.Schema.{Schema}
use Rattle.sqlite.specs.State.{ExecutesInside, State}
use Rattle.sqlite.specs.Table.{Table}
use Rattle.sqlite.proofs.Callers.{IsPlain, command_of, statement_of}
use Rattle.sqlite_catalog.specs.Calls.{RefusesTable}
use Rattle.sqlite_catalog.specs.Listing.{is_fit, is_formed}
use Rattle.sqlite_catalog.specs.declared.error.Refusal.{Refusal}
use Rattle.sqlite_catalog.specs.declared.error.Refusal.TheVariants.{Invalid, NameTaken, BadName, TooBig, BadKey, BadText, Violates}
use Rattle.sqlite_rules.proofs.ListLemmas.{all_has}
use Rattle.sqlite_schema.specs.declared.schema.Keys.TheVariants.{Enforced}
use Rattle.sqlite_schema.specs.Rules.{index_reals, table_reals}
use Rattle.sqlite_tied.specs.Compute.{everything}
use Rattle.sqlite_trees.specs.Sound as sound
use Rattle.am_store.specs.Failing.{IsExcused}
use Rattle.am_store.specs.Tables.{config, no_schema, one_table, silence, two_tables, version}
use Rattle.am_store.specs.Texts.{create_config, create_silence, create_version}
use Rattle.am_store.proofs.Asked.{IsGiven}
use Rattle.am_store.proofs.Compiled.{config_is, silence_is, version_is}
use Rattle.am_store.proofs.CompiledOpening.{create_config_is, create_config_plain, create_silence_is, create_silence_plain, create_version_is, create_version_plain}
use Rattle.am_store.proofs.Executed.{Stops, statement_excused}

-- nothing stands against making a table behind those of a schema
record IsMakeable (before : Schema) (sql : List ℕ) (table : Table) : Type 0 where
  pub defined : table_defined_by sql ≡ Ok table
  pub text : IsUtf8 sql
  pub name : IsUtf8 table.name
  pub open_name : is_reserved table.name ≡ false
  pub unused : is_used before table.name ≡ false
  pub keys : AllByRecursion (λ i. is_used before i.name ≡ false) (automatics table 0 0 table.uniques)
  pub few : next_tree before + length table.uniques < 65536
  pub reals : table_reals table < 2 ^ 64
  pub key_reals : AllByRecursion (λ key. index_reals (table_reals table) key < 2 ^ 64) table.uniques
  pub formed : is_formed table ≡ true
  pub fit : is_fit (Text (codes "table")) (Text table.name) (Text table.name) (Text sql) ≡ true
  pub short : 2 * length table.name + length sql + 200 < 10 ^ 9
  pub uncounted : lacks_sequence (created before table) ≡ false

module _ (before : Schema) (sql : List ℕ) (table : Table) (is : IsMakeable before sql table) where
  same : (other : Table) → table_defined_by sql ≡ Ok other → table ≡ other
  same other e = let both = sym is.defined ∙ e in cc

  not_refused : (why : Refusal) → RefusesTable before sql why → ⊥
  not_refused (Invalid e) h = let clash = sym is.defined ∙ h in cc
  not_refused NameTaken (other, defined, inl used) = both_ways _ (rw (same other defined) at is.unused) used
  not_refused NameTaken (other, defined, inr (index, there, used)) =
      both_ways _ (all_has (λ i. is_used before i.name ≡ false) _ index (rw (same other defined) at is.keys) there) used
  not_refused BadName (other, defined, inl odd) = odd (rw (same other defined) at is.name)
  not_refused BadName (other, defined, inr (reserved, _)) = both_ways _ (rw (same other defined) at is.open_name) reserved
  not_refused TooBig (other, defined, inl many) = omega (arith, many, rw (same other defined) at is.few)
  not_refused TooBig (other, defined, inr (inl many)) = omega (arith, many, rw (same other defined) at is.reals)
  not_refused TooBig (other, defined, inr (inr (key, there, many))) =
      omega (arith, many, all_has (λ key. index_reals (table_reals other) key < 2 ^ 64) _ key (rw (same other defined) at is.key_reals) there)
  not_refused BadKey (other, defined, formed) = both_ways _ formed (rw (same other defined) at is.formed)
  not_refused BadText (other, defined, fit) = both_ways _ fit (rw (same other defined) at is.fit)
  not_refused (Violates rule) none = none

  not_stopped : (db : Database) → db.schema ≡ before → (stop : Option Error) → MakesTable sql db (Err stop) → ⊥
  not_stopped db has None (other, defined, long) = omega (arith, long, rw (same other defined) at is.short)
  not_stopped db has (Some e) (inl text) = text.0 is.text
  not_stopped db has (Some e) (inr refused) = not_refused refused.0 (rw has at refused.1)

  -- the statement isn't refused, whatever the trees hold
  made : (limit : Option ℕ) (mode : Mode) (params : Row) (db : Database) (stop : Option Error) → db.schema ≡ before → Does limit mode params db sql None CreateTable (Err stop) → ⊥
  made limit mode params db stop has (inr given) = let clash = given.2 in cc
  made limit mode params db stop has (inl (_, inl stopped, _)) = not_stopped db has stopped.0 stopped.1
  made limit mode params db stop has (inl (_, inr (after, makes, counted), _)) =
      let fits : table ≡ makes.table = same makes.table makes.defined in
      let schema : after.schema ≡ created before table = makes.is ∙ rw (has, fits) refl in
      let clash = rw (ap lacks_sequence schema ∙ is.uncounted) at counted in cc

module _ (before : Schema) (sql : List ℕ) (table : Table) (makeable : IsMakeable before sql table) (given : IsGiven sql 0 (understood before sql)) (plain : IsPlain (understood before sql))
    (is : (command_of (understood before sql) ≡ CreateTable) × (statement_of sql (understood before sql) ≡ sql)) (old new : State) (has : old.now.schema ≡ before) where
  stops : Stops old before (statement_of sql (understood before sql)) [] CreateTable ⊥
  stops stop does =
      let mode : Mode = record { keys = Enforced; in_doubt = false; may_wait = false } in
      let db : Database = record { schema = before; trees = old.now.trees } in
      absurd (made before sql table makeable old.step_limit mode [] db stop refl (subst (λ text. Does old.step_limit mode [] db text None CreateTable (Err stop)) is.1 does))

  excused : (e : Error) → ExecutesInside 0 sql [] old new (Err e) → IsExcused old new e
  excused e h =
      elim (statement_excused old new sql [] before has given plain CreateTable is.0 (λ c command bare. rw (command, bare) refl) refl ⊥ stops e h) [
        | inl cause ↦ cause
        | inr none ↦ absurd none
      ]

-- ---- the tables of a store

-- nothing in the text, the names or the sizes stands against them
version_made : IsMakeable no_schema create_version (version 0)
unfolding everything sound.same_name sound.begins sound.is_free_name sound.fits_kind value_cmp lib.Ieee.is_nan lib.Ieee.lt lib.Utf8.encode
version_made = record {
  defined = version_is;
  text = (create_version, (refl, refl));
  name = (codes "version", (refl, refl));
  open_name = refl;
  unused = refl;
  keys = tt;
  few = omega arith;
  reals = omega arith;
  key_reals = tt;
  formed = refl;
  fit = refl;
  short = omega arith;
  uncounted = refl;
}

config_made : IsMakeable one_table create_config (config 0)
unfolding everything sound.same_name sound.begins sound.is_free_name sound.fits_kind value_cmp lib.Ieee.is_nan lib.Ieee.lt lib.Utf8.encode
config_made = record {
  defined = config_is;
  text = (create_config, (refl, refl));
  name = (codes "config", (refl, refl));
  open_name = refl;
  unused = refl;
  keys = (refl, tt);
  few = omega arith;
  reals = omega arith;
  key_reals = (omega arith, tt);
  formed = refl;
  fit = refl;
  short = omega arith;
  uncounted = refl;
}

silence_made : IsMakeable two_tables create_silence (silence 0)
unfolding everything sound.same_name sound.begins sound.is_free_name sound.fits_kind value_cmp lib.Ieee.is_nan lib.Ieee.lt lib.Utf8.encode
silence_made = record {
  defined = silence_is;
  text = (create_silence, (refl, refl));
  name = (codes "silence", (refl, refl));
  open_name = refl;
  unused = refl;
  keys = (refl, tt);
  few = omega arith;
  reals = omega arith;
  key_reals = (omega arith, tt);
  formed = refl;
  fit = refl;
  short = omega arith;
  uncounted = refl;
}

given_version : IsGiven create_version 0 (understood no_schema create_version)
unfolding understood everything
given_version = (omega arith, refl)

given_config : IsGiven create_config 0 (understood one_table create_config)
unfolding understood everything
given_config = (omega arith, refl)

given_silence : IsGiven create_silence 0 (understood two_tables create_silence)
unfolding understood everything
given_silence = (omega arith, refl)

module _ (old new : State) where
  pub version_excused : old.now.schema ≡ no_schema → (e : Error) → ExecutesInside 0 create_version [] old new (Err e) → IsExcused old new e
  version_excused = excused no_schema create_version (version 0) version_made given_version create_version_plain create_version_is old new

  pub config_excused : old.now.schema ≡ one_table → (e : Error) → ExecutesInside 0 create_config [] old new (Err e) → IsExcused old new e
  config_excused = excused one_table create_config (config 0) config_made given_config create_config_plain create_config_is old new

  pub silence_excused : old.now.schema ≡ two_tables → (e : Error) → ExecutesInside 0 create_silence [] old new (Err e) → IsExcused old new e
  silence_excused = excused two_tables create_silence (silence 0) silence_made given_silence create_silence_plain create_silence_is old new
