-- What the statements compile to that open a store.
use Rattle.std.proofs.Common.{◌≡◌, List, [], ◌∷◌, codes, false, true, refl}
use Rattle.sqlite.specs.declared.types.Value.TheVariants.{Null}
use Rattle.sqlite.specs.Collation.TheVariants.{Binary}
use Rattle.sqlite.specs.Term.{Term, lit, col}
use Rattle.sqlite.specs.Query.{Query}
use Rattle.sqlite_value.specs.declared.keys.Key.{Key}
use Rattle.sqlite.specs.Source.TheVariants.{Values}
use Rattle.sqlite.specs.Command.TheVariants.{Insert, Select, CreateTable}
use Rattle.sqlite_tied.specs.Compute.{everything}
use Rattle.sqlite.specs.Listing.{understood, reads_listing}
use Rattle.sqlite.proofs.Callers.{IsPlain, command_of, statement_of}
use Rattle.am_store.specs.Where.{columns1, columns2, columns7, columns13}
use Rattle.am_store.specs.Tables.{no_schema, one_table, two_tables, store_schema}
use Rattle.am_store.specs.Texts.{create_version, create_config, create_silence, insert_version, select_version, select_all_configs, select_all_silences, select_config_tenants, select_silence_tenants}
use Rattle.am_store.proofs.Compiled.{names7, names13, over}

-- ---- tables are made

pub create_version_is : (command_of (understood no_schema create_version) ≡ CreateTable) × (statement_of create_version (understood no_schema create_version) ≡ create_version)
unfolding understood everything
create_version_is = (refl, refl)

pub create_config_is : (command_of (understood one_table create_config) ≡ CreateTable) × (statement_of create_config (understood one_table create_config) ≡ create_config)
unfolding understood everything
create_config_is = (refl, refl)

pub create_silence_is : (command_of (understood two_tables create_silence) ≡ CreateTable) × (statement_of create_silence (understood two_tables create_silence) ≡ create_silence)
unfolding understood everything
create_silence_is = (refl, refl)

pub create_version_plain : IsPlain (understood no_schema create_version)
unfolding understood everything
create_version_plain = (refl, refl)

pub create_config_plain : IsPlain (understood one_table create_config)
unfolding understood everything
create_config_plain = (refl, refl)

pub create_silence_plain : IsPlain (understood two_tables create_silence)
unfolding understood everything
create_silence_plain = (refl, refl)

pub insert_version_is : command_of (understood store_schema insert_version) ≡ Insert 0 (Values (lit Null ∷ col 0 0 ∷ []) 2)
unfolding understood everything
insert_version_is = refl

pub insert_version_plain : IsPlain (understood store_schema insert_version)
unfolding understood everything
insert_version_plain = (refl, refl)

-- ---- all rows are read

abbrev pub by_rowid : List (Term × Key)
by_rowid = (col 1 0, record { collation = Binary; descending = false }) ∷ []

pub select_version_is : command_of (understood store_schema select_version) ≡ Select (record { lets = []; body = over 0 [] columns2 [] }) (codes "rowid" ∷ codes "n" ∷ [])
unfolding understood everything
select_version_is = refl

pub select_all_configs_is : command_of (understood store_schema select_all_configs) ≡ Select (record { lets = []; body = over 1 [] columns7 by_rowid }) names7
unfolding understood everything
select_all_configs_is = refl

pub select_all_silences_is : command_of (understood store_schema select_all_silences) ≡ Select (record { lets = []; body = over 3 [] columns13 by_rowid }) names13
unfolding understood everything
select_all_silences_is = refl

pub select_config_tenants_is : command_of (understood store_schema select_config_tenants) ≡ Select (record { lets = []; body = over 1 [] columns1 [] }) (codes "tenant" ∷ [])
unfolding understood everything
select_config_tenants_is = refl

-- a query that shows each tenant once
abbrev pub distinct_tenants : Query
distinct_tenants = record (over 3 [] columns1 []) { distinct = true; collations = Binary ∷ [] }

pub select_silence_tenants_is : command_of (understood store_schema select_silence_tenants) ≡ Select (record { lets = []; body = distinct_tenants }) (codes "tenant" ∷ [])
unfolding understood everything
select_silence_tenants_is = refl

pub select_version_plain : IsPlain (understood store_schema select_version)
unfolding understood everything
select_version_plain = (refl, refl)

pub select_version_unlisted : reads_listing store_schema select_version ≡ false
unfolding understood everything
select_version_unlisted = refl

pub select_all_configs_plain : IsPlain (understood store_schema select_all_configs)
unfolding understood everything
select_all_configs_plain = (refl, refl)

pub select_all_configs_unlisted : reads_listing store_schema select_all_configs ≡ false
unfolding understood everything
select_all_configs_unlisted = refl

pub select_all_silences_plain : IsPlain (understood store_schema select_all_silences)
unfolding understood everything
select_all_silences_plain = (refl, refl)

pub select_all_silences_unlisted : reads_listing store_schema select_all_silences ≡ false
unfolding understood everything
select_all_silences_unlisted = refl

pub select_config_tenants_plain : IsPlain (understood store_schema select_config_tenants)
unfolding understood everything
select_config_tenants_plain = (refl, refl)

pub select_config_tenants_unlisted : reads_listing store_schema select_config_tenants ≡ false
unfolding understood everything
select_config_tenants_unlisted = refl

pub select_silence_tenants_plain : IsPlain (understood store_schema select_silence_tenants)
unfolding understood everything
select_silence_tenants_plain = (refl, refl)

pub select_silence_tenants_unlisted : reads_listing store_schema select_silence_tenants ≡ false
unfolding understood everything
select_silence_tenants_unlisted = refl
