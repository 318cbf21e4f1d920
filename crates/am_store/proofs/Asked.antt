-- Why queries are refused.
use Rattle.std.proofs.Common.{◌≡◌, ◌⊎◌, inl, inr, ℕ, List, [], ◌∷◌, append-nil, Option, IsSome, Result, length, ◌≤◌, None, Ok, Err, false, true, ap, arith, refl, sym, subst, ◌∙◌}
use Rattle.sqlite.specs.declared.types.Value.TheVariants.{Text}
use Rattle.sqlite.specs.declared.error.Error.{Error}
use Rattle.sqlite_trees.specs.declared.error.StoreError.{StoreError}
use Rattle.sqlite_trees.specs.declared.error.StoreError.TheVariants.{OutOfMemory, Io, Corrupt, Full, Broken, Unstorable}
use Rattle.sqlite.specs.Order.{Row}
use Rattle.sqlite.specs.Effect.{Database, RefusesQuery, RefusesToRead}
use Rattle.sqlite.specs.Listing.{reads_listing, understood, IsSourceOf}
use Rattle.sqlite.specs.State.{FailsToQuery, HasCause, IsNotRun, IsNoStatement, IsTooLate, State, store_error}
use Rattle.sqlite.specs.Command.TheVariants.{Select}
use Rattle.sqlite.specs.Query.{Query}
use Rattle.sqlite_sql.specs.Query.{has_no_fold}
use Rattle.sqlite_sql.proofs.QueryLemmas.{no_fold_overflows}
use Rattle.sqlite_typing.specs.Types.{accepts_program}
use Rattle.sqlite_resolve.specs.declared.compiled.Compiled.{Compiled}
use Rattle.sqlite_resolve.specs.declared.error.CompileError.{CompileError}
use Rattle.sqlite.proofs.Callers.{IsPlain, command_of}
use Rattle.sqlite_tied.specs.Compute.{everything}
use Rattle.am_store.proofs.Compiled.{select_config_is, select_config_plain, select_config_unlisted, select_config_stamp_is, select_config_stamp_plain, select_config_stamp_unlisted, select_silence_stamp_is, select_silence_stamp_plain, select_silence_stamp_unlisted, select_silences_is, select_silences_plain, select_silences_unlisted}
use Rattle.am_store.proofs.CompiledOpening.{select_all_configs_is, select_all_configs_plain, select_all_configs_unlisted, select_all_silences_is, select_all_silences_plain, select_all_silences_unlisted, select_config_tenants_is, select_config_tenants_plain, select_config_tenants_unlisted, select_silence_tenants_is, select_silence_tenants_plain, select_silence_tenants_unlisted, select_version_is, select_version_plain, select_version_unlisted}
use Rattle.am_store.specs.Failing.{IsExcused, IsQuery, MayFail}
use Rattle.am_store.specs.Tables.{store_schema}
use Rattle.am_store.specs.Texts.{select_all_configs, select_all_silences, select_config, select_config_stamp, select_config_tenants, select_silence_stamp, select_silence_tenants, select_silences, select_version}

-- ---- why a statement fails

-- the text is whole, and takes so many parameters
abbrev pub IsGiven : List ℕ → ℕ → Result Compiled CompileError → Type 0
IsGiven sql count (Ok c) = (length sql ≤ c.tail) × (count ≡ length c.names)
IsGiven sql count (Err e) = ⊥

module _ (old new : State) where
  pub by_cause : (too_big : Type 0) → (too_big → MayFail old new) → (e : Error) (cause : StoreError) → e ≡ store_error cause → HasCause old new too_big cause → IsExcused old new e
  by_cause too_big big e OutOfMemory is has = inl is
  by_cause too_big big e Io is has = inr (inl has)
  by_cause too_big big e Corrupt is has = inr (inl has)
  by_cause too_big big e Full is has = inr (inl has)
  by_cause too_big big e Broken is has = inr (inr (inl has))
  by_cause too_big big e Unstorable is has = inr (big has)

  module _ (sql : List ℕ) (params : Row) (c : Compiled) (here : understood old.now.schema sql ≡ Ok c) (given : IsGiven sql (length params) (Ok c)) (timeless : c.formats ≡ []) where
    is_statement : (e : Error) → IsNoStatement old sql params e → ⊥
    is_statement e (inl (fault, is, _)) = let clash = sym is ∙ here in cc
    is_statement e (inr (d, is, inl (several, _))) = let same : c ≡ d = (let e = sym here ∙ is in cc) in several (rw same at given.0)
    is_statement e (inr (d, is, inr (inl (count, _)))) = let same : c ≡ d = (let e = sym here ∙ is in cc) in count (rw same at given.1)
    is_statement e (inr (d, is, inr (inr (times, _)))) = let same : c ≡ d = (let e = sym here ∙ is in cc) in times (rw same at timeless)

    pub not_run : (e : Error) → IsNotRun old new sql params e → IsExcused old new e
    unfolding IsNotRun
    not_run e (inl refused) = absurd (is_statement e refused.0)
    not_run e (inr (cause, is, has, _, _)) = by_cause ⊥ absurd e cause is has

  module _ (sql : List ℕ) (params : Row) (has : old.now.schema ≡ store_schema) (query : IsQuery sql params) where
    here : understood old.now.schema sql ≡ Ok query.compiled
    here = subst (λ s. understood s sql ≡ Ok query.compiled) (sym has) query.is

    at_limit : (db : Database) (e : Error) → IsSourceOf (reads_listing old.now.schema sql) old.now db → RefusesToRead old.step_limit query.compiled.command db params e → IsSome old.step_limit
    at_limit db e source refuses =
        let same : db ≡ old.now = subst (λ b. IsSourceOf b old.now db) (ap (λ s. reads_listing s sql) has ∙ query.unlisted) source in
        query.limited old.step_limit db e (ap (λ (d : Database). d.schema) same ∙ has) refuses

    -- a query
    pub query_excused : (e : Error) → FailsToQuery sql params old new e → IsExcused old new e
    unfolding FailsToQuery
    query_excused e (inl stopped) = not_run sql params query.compiled here (query.whole, query.given) query.plain.1 e stopped
    query_excused e (inr h) =
        let same : h.0 ≡ query.compiled = (let e = sym h.1.is ∙ here in cc) in
        let it = rw (same, query.plain.0, query.plain.1, append-nil params) at h.2 in
        inr (inr (inr (at_limit it.0 e it.1 it.2)))

    -- a query of a transaction
    pub late_excused : (e : Error) → FailsToQuery sql params old new e ⊎ IsTooLate sql params old new e → IsExcused old new e
    late_excused e (inl failed) = query_excused e failed
    late_excused e (inr late) =
        let same : late.0 ≡ query.compiled = (let e = sym late.1.is ∙ here in cc) in
        absurd (let no = rw (same, query.plain.0) at late.2 in cc)

-- ---- the queries of a store

-- a query of a store's tables that doesn't sum is refused only at a limit on its steps
pub refuses_query : (q : Query) (params : Row) → accepts_program store_schema [] q params ≡ true → q.group ≡ None → has_no_fold q.from ≡ true
    → (limit : Option ℕ) (db : Database) (e : Error) → db.schema ≡ store_schema → RefusesQuery limit db (record { lets = []; body = q }) params e → IsSome limit
refuses_query q params typed ungrouped unfolded limit db e has (inl (_, untyped)) = absurd (let no = sym typed ∙ ap (λ s. accepts_program s [] q params) (sym has) ∙ untyped in cc)
refuses_query q params typed ungrouped unfolded limit db e has (inr (inl (_, inl over))) = absurd (rw ungrouped at over)
refuses_query q params typed ungrouped unfolded limit db e has (inr (inl (_, inr over))) = absurd (no_fold_overflows _ q.from _ unfolded over)
refuses_query q params typed ungrouped unfolded limit db e has (inr (inr (_, some))) = some

module _ (sql : List ℕ) (params : Row) (q : Query) (names : List (List ℕ)) (unlisted : reads_listing store_schema sql ≡ false) (typed : accepts_program store_schema [] q params ≡ true) (ungrouped : q.group ≡ None)
    (unfolded : has_no_fold q.from ≡ true) where
  from : (r : Result Compiled CompileError) → understood store_schema sql ≡ r → command_of r ≡ Select (record { lets = []; body = q }) names → IsPlain r → IsGiven sql (length params) r → IsQuery sql params
  from (Ok c) is command plain given = record {
    compiled = c;
    is = is;
    whole = given.0;
    given = given.1;
    plain = plain;
    unlisted = unlisted;
    limited = subst (λ k. (limit : Option ℕ) (db : Database) (e : Error) → db.schema ≡ store_schema → RefusesToRead limit k db params e → IsSome limit) (sym command)
        (refuses_query q params typed ungrouped unfolded);
  }
  from (Err e) is command plain given = absurd given

given_version : IsGiven select_version 0 (understood store_schema select_version)
unfolding understood everything
given_version = (omega arith, refl)

given_configs : IsGiven select_all_configs 0 (understood store_schema select_all_configs)
unfolding understood everything
given_configs = (omega arith, refl)

given_silences : IsGiven select_all_silences 0 (understood store_schema select_all_silences)
unfolding understood everything
given_silences = (omega arith, refl)

given_config_tenants : IsGiven select_config_tenants 0 (understood store_schema select_config_tenants)
unfolding understood everything
given_config_tenants = (omega arith, refl)

given_silence_tenants : IsGiven select_silence_tenants 0 (understood store_schema select_silence_tenants)
unfolding understood everything
given_silence_tenants = (omega arith, refl)

given_config : IsGiven select_config 1 (understood store_schema select_config)
unfolding understood everything
given_config = (omega arith, refl)

given_tenant_silences : IsGiven select_silences 1 (understood store_schema select_silences)
unfolding understood everything
given_tenant_silences = (omega arith, refl)

given_config_stamp : IsGiven select_config_stamp 1 (understood store_schema select_config_stamp)
unfolding understood everything
given_config_stamp = (omega arith, refl)

given_silence_stamp : IsGiven select_silence_stamp 2 (understood store_schema select_silence_stamp)
unfolding understood everything
given_silence_stamp = (omega arith, refl)

pub asks_version : IsQuery select_version []
asks_version = from select_version [] _ _ select_version_unlisted refl refl refl _ refl select_version_is select_version_plain given_version

pub asks_configs : IsQuery select_all_configs []
asks_configs = from select_all_configs [] _ _ select_all_configs_unlisted refl refl refl _ refl select_all_configs_is select_all_configs_plain given_configs

pub asks_silences : IsQuery select_all_silences []
asks_silences = from select_all_silences [] _ _ select_all_silences_unlisted refl refl refl _ refl select_all_silences_is select_all_silences_plain given_silences

pub asks_config_tenants : IsQuery select_config_tenants []
asks_config_tenants = from select_config_tenants [] _ _ select_config_tenants_unlisted refl refl refl _ refl select_config_tenants_is select_config_tenants_plain given_config_tenants

pub asks_silence_tenants : IsQuery select_silence_tenants []
asks_silence_tenants = from select_silence_tenants [] _ _ select_silence_tenants_unlisted refl refl refl _ refl select_silence_tenants_is select_silence_tenants_plain given_silence_tenants

module _ (t : List ℕ) where
  pub asks_config : IsQuery select_config (Text t ∷ [])
  asks_config = from select_config (Text t ∷ []) _ _ select_config_unlisted refl refl refl _ refl select_config_is select_config_plain given_config

  pub asks_tenant_silences : IsQuery select_silences (Text t ∷ [])
  asks_tenant_silences = from select_silences (Text t ∷ []) _ _ select_silences_unlisted refl refl refl _ refl select_silences_is select_silences_plain given_tenant_silences

  pub asks_config_stamp : IsQuery select_config_stamp (Text t ∷ [])
  asks_config_stamp = from select_config_stamp (Text t ∷ []) _ _ select_config_stamp_unlisted refl refl refl _ refl select_config_stamp_is select_config_stamp_plain given_config_stamp

  pub asks_silence_stamp : (id : List ℕ) → IsQuery select_silence_stamp (Text t ∷ Text id ∷ [])
  asks_silence_stamp id = from select_silence_stamp (Text t ∷ Text id ∷ []) _ _ select_silence_stamp_unlisted refl refl refl _ refl select_silence_stamp_is select_silence_stamp_plain given_silence_stamp
