-- What the statements of a store compile to.
use Rattle.std.proofs.Common.{◌≡◌, ℕ, pos, negsuc, List, [], ◌∷◌, codes, false, None, Ok, refl}
use Rattle.sqlite.specs.declared.types.Value.TheVariants.{Null, Int}
use Rattle.sqlite.specs.Collation.TheVariants.{Binary}
use Rattle.sqlite.specs.Term.{Term, lit, col}
use Rattle.sqlite.specs.Query.{Query, inner, end}
use Rattle.sqlite_value.specs.declared.keys.Key.{Key}
use Rattle.sqlite.specs.Source.TheVariants.{Values}
use Rattle.sqlite.specs.Command.TheVariants.{Insert, Select, Delete}
use Rattle.sqlite.specs.Compile.{table_defined_by}
use Rattle.sqlite_tied.specs.Compute.{everything}
use Rattle.sqlite.specs.Listing.{understood, reads_listing}
use Rattle.sqlite.proofs.Callers.{IsPlain, command_of}
use Rattle.am_store.specs.Where.{columns7, columns13, config_stamp, of_silence, of_tenant, silence_stamp}
use Rattle.am_store.specs.Tables.{config, silence, version, store_schema}
use Rattle.am_store.specs.Texts.{create_version, create_config, create_silence, delete_config, delete_silence, delete_silences, insert_config, insert_silence, select_config_stamp, select_silence_stamp, select_config, select_silences}

-- a query over the rows of one tree
abbrev pub over : ℕ → List Term → List Term → List (Term × Key) → Query
over tree filter project order = record {
  from = inner tree end;
  filter = filter;
  group = None;
  project = project;
  distinct = false;
  collations = [];
  order = order;
  limit = lit (Int (negsuc 0));
  offset = lit (Int (pos 0));
}

-- so many parameters
abbrev pub params6 : List Term
params6 = col 0 0 ∷ col 0 1 ∷ col 0 2 ∷ col 0 3 ∷ col 0 4 ∷ col 0 5 ∷ []

abbrev pub params12 : List Term
params12 = col 0 0 ∷ col 0 1 ∷ col 0 2 ∷ col 0 3 ∷ col 0 4 ∷ col 0 5 ∷ col 0 6 ∷ col 0 7 ∷ col 0 8 ∷ col 0 9 ∷ col 0 10 ∷ col 0 11 ∷ []

abbrev pub by_id : List (Term × Key)
by_id = (col 1 2, record { collation = Binary; descending = false }) ∷ []

abbrev pub stamp_names : List (List ℕ)
stamp_names = codes "moment" ∷ codes "instance" ∷ codes "incarnation" ∷ codes "count" ∷ []

abbrev pub names7 : List (List ℕ)
names7 = codes "rowid" ∷ codes "tenant" ∷ codes "body" ∷ stamp_names

abbrev pub names13 : List (List ℕ)
names13 =
    codes "rowid" ∷ codes "tenant" ∷ codes "id" ∷ codes "starts" ∷ codes "ends" ∷ codes "kept" ∷ codes "author" ∷ codes "comment" ∷ codes "matchers" ∷ stamp_names

pub version_is : table_defined_by create_version ≡ Ok (version 0)
unfolding understood everything
version_is = refl

pub config_is : table_defined_by create_config ≡ Ok (config 0)
unfolding understood everything
config_is = refl

pub silence_is : table_defined_by create_silence ≡ Ok (silence 0)
unfolding understood everything
silence_is = refl

pub delete_config_is : command_of (understood store_schema delete_config) ≡ Delete 1 (record { lets = []; body = over 1 of_tenant (col 1 0 ∷ []) [] })
unfolding understood everything
delete_config_is = refl

pub delete_silence_is : command_of (understood store_schema delete_silence) ≡ Delete 2 (record { lets = []; body = over 3 of_silence (col 1 0 ∷ []) [] })
unfolding understood everything
delete_silence_is = refl

pub delete_silences_is : command_of (understood store_schema delete_silences) ≡ Delete 2 (record { lets = []; body = over 3 of_tenant (col 1 0 ∷ []) [] })
unfolding understood everything
delete_silences_is = refl

pub insert_config_is : command_of (understood store_schema insert_config) ≡ Insert 1 (Values (lit Null ∷ params6) 7)
unfolding understood everything
insert_config_is = refl

pub insert_silence_is : command_of (understood store_schema insert_silence) ≡ Insert 2 (Values (lit Null ∷ params12) 13)
unfolding understood everything
insert_silence_is = refl

pub select_config_stamp_is : command_of (understood store_schema select_config_stamp) ≡ Select (record { lets = []; body = over 1 of_tenant config_stamp [] }) stamp_names
unfolding understood everything
select_config_stamp_is = refl

pub select_silence_stamp_is : command_of (understood store_schema select_silence_stamp) ≡ Select (record { lets = []; body = over 3 of_silence silence_stamp [] }) stamp_names
unfolding understood everything
select_silence_stamp_is = refl

pub select_config_is : command_of (understood store_schema select_config) ≡ Select (record { lets = []; body = over 1 of_tenant columns7 [] }) names7
unfolding understood everything
select_config_is = refl

pub select_silences_is : command_of (understood store_schema select_silences) ≡ Select (record { lets = []; body = over 3 of_tenant columns13 by_id }) names13
unfolding understood everything
select_silences_is = refl

pub delete_config_plain : IsPlain (understood store_schema delete_config)
unfolding understood everything
delete_config_plain = (refl, refl)

pub delete_silence_plain : IsPlain (understood store_schema delete_silence)
unfolding understood everything
delete_silence_plain = (refl, refl)

pub delete_silences_plain : IsPlain (understood store_schema delete_silences)
unfolding understood everything
delete_silences_plain = (refl, refl)

pub insert_config_plain : IsPlain (understood store_schema insert_config)
unfolding understood everything
insert_config_plain = (refl, refl)

pub insert_silence_plain : IsPlain (understood store_schema insert_silence)
unfolding understood everything
insert_silence_plain = (refl, refl)

pub select_config_stamp_plain : IsPlain (understood store_schema select_config_stamp)
unfolding understood everything
select_config_stamp_plain = (refl, refl)

pub select_config_stamp_unlisted : reads_listing store_schema select_config_stamp ≡ false
unfolding understood everything
select_config_stamp_unlisted = refl

pub select_silence_stamp_plain : IsPlain (understood store_schema select_silence_stamp)
unfolding understood everything
select_silence_stamp_plain = (refl, refl)

pub select_silence_stamp_unlisted : reads_listing store_schema select_silence_stamp ≡ false
unfolding understood everything
select_silence_stamp_unlisted = refl

pub select_config_plain : IsPlain (understood store_schema select_config)
unfolding understood everything
select_config_plain = (refl, refl)

pub select_config_unlisted : reads_listing store_schema select_config ≡ false
unfolding understood everything
select_config_unlisted = refl

pub select_silences_plain : IsPlain (understood store_schema select_silences)
unfolding understood everything
select_silences_plain = (refl, refl)

pub select_silences_unlisted : reads_listing store_schema select_silences ≡ false
unfolding understood everything
select_silences_unlisted = refl
