-- What the calls of a transaction do, statement by statement.
use Rattle.std.proofs.Common.{◌≡◌, ◌⊎◌, inl, inr, ℕ, pos, Bool, true, false, List, [], ◌∷◌, map, codes, Option, Result, Ok, Err, IfErr, IfOk, OnOk, IsTrue, arith, refl, sym, subst, ◌∙◌}
use Rattle.std.specs.List.{filter}
use Rattle.std.specs.List.Sorted.{IsPermutation}
use Rattle.sqlite_value.specs.Keys.{plain}
use Rattle.sqlite.specs.declared.types.Value.TheVariants.{Null, Text}
use Rattle.sqlite.specs.declared.error.Error.{Error}
use Rattle.sqlite.specs.Order.{Row}
use Rattle.sqlite.specs.Cast.{cast_all}
use Rattle.sqlite.specs.Term.{eval_all, lit}
use Rattle.sqlite.specs.Listing.{understood}
use Rattle.sqlite.specs.State.{Executes, ExecutesInside, FailsToQuery, IsNotRun, HasCleanDisk, IsRolledBack, IsTooLate, IsUnchanged, KeepsCommit, Shown, State, Survives}
use Rattle.sqlite.specs.Tree.{Trees}
use Rattle.sqlite.proofs.Callers.{IsPlain, runs_as}
use Rattle.sqlite.specs.Effect.{IsDatabase}
use Rattle.sqlite.specs.Store.{Ghosts}
use Rattle.sqlite.specs.Held.{Held, state}
use Rattle.sqlite.proofs.StateLemmas.{survives_then}
use Rattle.sqlite.proofs.InsideLemmas.{inside_keeps, unchanged_keeps}
use Rattle.std.proofs.lemmas.Bool.{cases_Bool}
use Rattle.std.specs.Global.{Vec}
use Rattle.am_item.specs.declared.stamp.Stamp.{Stamp}
use Rattle.am_store.specs.Apart.{HasId}
use Rattle.am_store.specs.Rows.{IsConfig, IsSilenceRow, IsStore, config_fields, silence_fields}
use Rattle.am_store.specs.Steps.{PutsRow, TakesOut}
use Rattle.am_store.specs.Stored.{SilenceText}
use Rattle.am_store.specs.Tables.{config_columns, silence_columns, store_schema}
use Rattle.am_store.specs.Texts.{delete_config, delete_silence, delete_silences, insert_config, insert_silence, select_config_stamp, select_silence_stamp}
use Rattle.am_store.specs.Where.{config_stamp, hit, of_silence, of_tenant, silence_stamp}
use Rattle.am_store.proofs.Compiled.{delete_config_is, delete_config_plain, delete_silence_is, delete_silence_plain, delete_silences_is, delete_silences_plain, insert_config_is, insert_config_plain, insert_silence_is, insert_silence_plain, params6, params12, select_config_stamp_is, select_config_stamp_plain, select_config_stamp_unlisted, select_silence_stamp_is, select_silence_stamp_plain, select_silence_stamp_unlisted}
use Rattle.am_store.proofs.RowLists.{all_weaker}
use Rattle.am_store.proofs.Spelled.{config_id, silence_id}
use Rattle.am_store.proofs.Statements.{cast_int, deletes, inserts, reads}

-- a call of a transaction that gave something found the transaction open
pub was_inside : {X E : Type 0} (b : Bool) (r : Result ℕ E) (count : ℕ) (e : E) → r ≡ Ok count → (b ≡ false → (r ≡ Err e) × X) → IsTrue b
was_inside true r count e ok ended = refl
was_inside false r count e ok ended = absurd (let both = sym ok ∙ (ended refl).0 in cc)

module _ (old new : State) (sql : List ℕ) (params : Row) (bare : IsPlain (understood old.now.schema sql)) where
  -- a query changes nothing ..
  pub shown_unchanged : (rows : List Row) → Shown sql params old new rows → IsUnchanged old new
  unfolding Shown
  shown_unchanged rows h =
      let none = (subst IsPlain h.1.is bare).0 in
      (rw none at h.2).3

  -- .. and one that fails changes nothing or is rolled back
  pub query_fails : (e : Error) → FailsToQuery sql params old new e ⊎ IsTooLate sql params old new e → IsUnchanged old new ⊎ IsRolledBack old new
  unfolding FailsToQuery IsNotRun
  query_fails e (inl (inl (inl refused))) = inl refused.1
  query_fails e (inl (inl (inr failed))) = inr failed.3
  query_fails e (inl (inr h)) =
      let none = (subst IsPlain h.1.is bare).0 in
      inl (rw none at h.2).3
  query_fails e (inr late) = inl late.5

-- a statement in a transaction keeps the last commit
pub call_keeps : {S : Type 0} (g : Ghosts S) (old new : Held S) (sql : List ℕ) (params : Row) (r : Result ℕ Error) (e : Error)
    → (old.in_transaction ≡ false → (r ≡ Err e) × (new ≡ old)) → (IsTrue old.in_transaction → ExecutesInside 0 sql params (state g old) (state g new) r) → KeepsCommit (state g old) (state g new)
call_keeps g old new sql params r e ended runs = elim (cases_Bool old.in_transaction) [
  | inl inside ↦ inside_keeps (state g old) (state g new) 0 false sql params r (runs inside)
  | inr outside ↦ subst (λ h. KeepsCommit (state g old) (state g h)) (sym (ended outside).1) (record { was_open = λ was. was; committed = λ _. refl })
]

-- a weaker fact of what was given
pub if_ok : {T E : Type 0} (P Q : T → Type 0) (r : Result T E) → ((x : T) → P x → Q x) → IfOk r P → IfOk r Q
if_ok P Q (Ok x) f h = f x h
if_ok P Q (Err e) f h = tt

pub on_ok : {T E : Type 0} (P : T → Type 0) (Q : Type 0) (r : Result T E) → ((x : T) → P x → Q) → IfOk r P → OnOk r Q
on_ok P Q (Ok x) f h = f x h
on_ok P Q (Err e) f h = tt

pub clean_before : (old new : State) (P : Trees → Type 0) → Survives old new P → HasCleanDisk new → HasCleanDisk old
clean_before old new P s clean = omega (arith, s.clean, clean)

-- one call after another, of which none commits
pub both_survive : (a b c : State) → Survives a b (λ _. ⊥) → Survives b c (λ _. ⊥) → Survives a c (λ _. ⊥)
both_survive a b c = survives_then a b c (λ _. ⊥) (λ _. ⊥) (λ _. ⊥) (λ _ db none. none) (λ _ db none. none)

-- a query keeps the last commit
pub query_keeps : (old new : State) (sql : List ℕ) (params : Row) (r : Result (Vec Row) Error) → IsPlain (understood old.now.schema sql)
    → IfOk r (λ rows. Shown sql params old new rows.items) → IfErr r (λ e. FailsToQuery sql params old new e ⊎ IsTooLate sql params old new e) → KeepsCommit old new
query_keeps old new sql params (Ok rows) bare ok err = unchanged_keeps old new (inl (shown_unchanged old new sql params bare rows.items ok))
query_keeps old new sql params (Err e) bare ok err = unchanged_keeps old new (query_fails old new sql params bare e err)

module _ (old new : State) (store : IsStore old.now) where
  pub at_store : (sql : List ℕ) → IsPlain (understood store_schema sql) → IsPlain (understood old.now.schema sql)
  at_store sql bare = subst (λ s. IsPlain (understood s sql)) (sym store.schema) bare

  pub config_stamps : (t : List ℕ) (rows : List Row) → Shown select_config_stamp (Text t ∷ []) old new rows
      → IsUnchanged old new × IsPermutation (map (λ r. eval_all config_stamp ((Text t ∷ []) ∷ r ∷ [])) (filter (hit of_tenant (Text t ∷ [])) (old.now.trees 1))) rows
  config_stamps t rows shown = (
    shown_unchanged old new select_config_stamp (Text t ∷ []) (at_store select_config_stamp select_config_stamp_plain) rows shown,
    reads 1 of_tenant config_stamp [] (Text t ∷ []) select_config_stamp _ old new rows store.schema select_config_stamp_is select_config_stamp_plain select_config_stamp_unlisted refl shown,
  )

  pub silence_stamps : (t id : List ℕ) (rows : List Row) → Shown select_silence_stamp (Text t ∷ Text id ∷ []) old new rows
      → IsUnchanged old new × IsPermutation (map (λ r. eval_all silence_stamp ((Text t ∷ Text id ∷ []) ∷ r ∷ [])) (filter (hit of_silence (Text t ∷ Text id ∷ [])) (old.now.trees 3))) rows
  silence_stamps t id rows shown = (
    shown_unchanged old new select_silence_stamp (Text t ∷ Text id ∷ []) (at_store select_silence_stamp select_silence_stamp_plain) rows shown,
    reads 3 of_silence silence_stamp [] (Text t ∷ Text id ∷ []) select_silence_stamp _ old new rows store.schema select_silence_stamp_is select_silence_stamp_plain select_silence_stamp_unlisted refl shown,
  )

  pub stamps_keep : (sql : List ℕ) (params : Row) (r : Result (Vec Row) Error) → IsPlain (understood store_schema sql)
      → IfOk r (λ rows. Shown sql params old new rows.items) → IfErr r (λ e. FailsToQuery sql params old new e ⊎ IsTooLate sql params old new e) → KeepsCommit old new
  stamps_keep sql params r bare ok err = query_keeps old new sql params r (at_store sql bare) ok err

module _ (old new : State) (count : ℕ) where
  pub took_out_config : (t : List ℕ) → IsStore old.now → Executes delete_config (Text t ∷ []) old new (Ok count) → TakesOut 1 (hit of_tenant (Text t ∷ [])) old.now new.now
  took_out_config t store h =
      deletes (codes "config") 1 config_columns (1 ∷ []) ((1 ∷ []) ∷ []) (plain ∷ []) 1 refl (λ olds news. refl) delete_config (Text t ∷ []) old new store.schema delete_config_plain count
      of_tenant delete_config_is refl (all_weaker IsConfig HasId config_id (old.now.trees 1) store.configs) store.configs_apart h

  pub config_sound : (t : List ℕ) → IsStore old.now → Executes delete_config (Text t ∷ []) old new (Ok count) → IsDatabase new.now
  config_sound t store h = (runs_as delete_config (Text t ∷ []) old new store_schema store.schema _ delete_config_is delete_config_plain count h).sound

  pub took_out_silence : (t id : List ℕ) → IsStore old.now → Executes delete_silence (Text t ∷ Text id ∷ []) old new (Ok count)
      → TakesOut 3 (hit of_silence (Text t ∷ Text id ∷ [])) old.now new.now
  took_out_silence t id store h =
      deletes (codes "silence") 3 silence_columns (1 ∷ 2 ∷ []) ((1 ∷ 2 ∷ []) ∷ []) (plain ∷ []) 2 refl (λ olds news. refl) delete_silence (Text t ∷ Text id ∷ []) old new store.schema delete_silence_plain count
      of_silence delete_silence_is refl (all_weaker IsSilenceRow HasId silence_id (old.now.trees 3) store.silences) store.silences_apart h

  pub silence_sound : (t id : List ℕ) → IsStore old.now → Executes delete_silence (Text t ∷ Text id ∷ []) old new (Ok count) → IsDatabase new.now
  silence_sound t id store h = (runs_as delete_silence (Text t ∷ Text id ∷ []) old new store_schema store.schema _ delete_silence_is delete_silence_plain count h).sound

  pub put_config_sound : (t : List ℕ) (stamp : Stamp) (body : Option (List ℕ)) → IsStore old.now → Executes insert_config (config_fields t stamp body) old new (Ok count) → IsDatabase new.now
  put_config_sound t stamp body store h = (runs_as insert_config (config_fields t stamp body) old new store_schema store.schema _ insert_config_is insert_config_plain count h).sound

  pub put_silence_sound : (t : List ℕ) (stamp : Stamp) (s : SilenceText) → IsStore old.now → Executes insert_silence (silence_fields t stamp s) old new (Ok count) → IsDatabase new.now
  put_silence_sound t stamp s store h = (runs_as insert_silence (silence_fields t stamp s) old new store_schema store.schema _ insert_silence_is insert_silence_plain count h).sound

  pub took_out_silences : (t : List ℕ) → IsStore old.now → Executes delete_silences (Text t ∷ []) old new (Ok count) → TakesOut 3 (hit of_tenant (Text t ∷ [])) old.now new.now
  took_out_silences t store h =
      deletes (codes "silence") 3 silence_columns (1 ∷ 2 ∷ []) ((1 ∷ 2 ∷ []) ∷ []) (plain ∷ []) 2 refl (λ olds news. refl) delete_silences (Text t ∷ []) old new store.schema delete_silences_plain count
      of_tenant delete_silences_is refl (all_weaker IsSilenceRow HasId silence_id (old.now.trees 3) store.silences) store.silences_apart h

  config_casts : (t : List ℕ) (stamp : Stamp) (body : Option (List ℕ)) → cast_all config_columns (config_fields t stamp body) ≡ config_fields t stamp body
  config_casts t stamp body = rw (cast_int (pos stamp.moment), cast_int (pos stamp.instance), cast_int (pos stamp.incarnation), cast_int (pos stamp.count)) refl

  pub put_in_config : (t : List ℕ) (stamp : Stamp) (body : Option (List ℕ)) → old.now.schema ≡ store_schema → Executes insert_config (config_fields t stamp body) old new (Ok count)
      → PutsRow 1 (config_fields t stamp body) old.now new.now
  put_in_config t stamp body has h =
      inserts (codes "config") 1 config_columns (1 ∷ []) ((1 ∷ []) ∷ []) (plain ∷ []) 1 refl (λ olds news. refl) insert_config (config_fields t stamp body) old new has insert_config_plain count
      (lit Null ∷ params6) 7 insert_config_is refl (config_casts t stamp body) h

  silence_casts : (t : List ℕ) (stamp : Stamp) (s : SilenceText) → cast_all silence_columns (silence_fields t stamp s) ≡ silence_fields t stamp s
  silence_casts t stamp s =
      rw (
        cast_int (pos s.starts_at),
        cast_int (pos s.ends_at),
        cast_int (pos s.kept_until),
        cast_int (pos stamp.moment),
        cast_int (pos stamp.instance),
        cast_int (pos stamp.incarnation),
        cast_int (pos stamp.count),
      ) refl

  pub put_in_silence : (t : List ℕ) (stamp : Stamp) (s : SilenceText) → old.now.schema ≡ store_schema → Executes insert_silence (silence_fields t stamp s) old new (Ok count)
      → PutsRow 3 (silence_fields t stamp s) old.now new.now
  put_in_silence t stamp s has h =
      inserts (codes "silence") 3 silence_columns (1 ∷ 2 ∷ []) ((1 ∷ 2 ∷ []) ∷ []) (plain ∷ []) 2 refl (λ olds news. refl) insert_silence (silence_fields t stamp s) old new has insert_silence_plain count
      (lit Null ∷ params12) 13 insert_silence_is refl (silence_casts t stamp s) h
