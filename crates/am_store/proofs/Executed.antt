-- Why a statement of a transaction is refused.
use Rattle.std.proofs.Common.{◌≡◌, ◌⊎◌, inl, inr, ℕ, Bool, false, true, List, length, append-nil, Option, IsSome, None, Some, Ok, Err, Result, refl, sym, ap, subst, ◌∙◌}
use Rattle.std.proofs.lemmas.Bool.{both_ways}
use Rattle.sqlite.specs.declared.error.Error.{Error}
use Rattle.sqlite_trees.specs.declared.error.StoreError.{StoreError}
use Rattle.sqlite_trees.specs.declared.error.StoreError.TheVariants.{OutOfMemory, Io, Corrupt, Full, Broken, Unstorable}
use Rattle.sqlite.specs.Order.{Row}
use Rattle.sqlite.specs.Command.{Command}
use Rattle.sqlite.specs.Command.TheVariants.{Begin, Commit, Rollback, Release, RollbackTo}
use Rattle.sqlite.specs.Does.{Does}
use Rattle.sqlite.specs.Schema.{Schema}
use Rattle.sqlite.specs.Listing.{understood}
use Rattle.sqlite.specs.State.{EndsScope, Escapes, ExecutesIn, ExecutesInside, HasCause, IsMisplaced, RunsAlone, State, mode_of, shows_rows, store_error, text_of}
use Rattle.sqlite.proofs.Callers.{IsPlain, command_of, statement_of}
use Rattle.sqlite_resolve.specs.declared.compiled.Compiled.{Compiled}
use Rattle.sqlite_resolve.specs.declared.error.CompileError.{CompileError}
use Rattle.sqlite_schema.specs.declared.schema.Keys.TheVariants.{Enforced}
use Rattle.am_store.specs.Failing.{IsExcused, MayFail}
use Rattle.am_store.proofs.Asked.{IsGiven, not_run}

-- over these tables, a command stops only at a limit on steps, or for this cause
abbrev pub Stops : State → Schema → List ℕ → Row → Command → Type 0 → Type 0
Stops old schema text params command Refuses =
    (stop : Option Error)
    → Does old.step_limit (record { keys = Enforced; in_doubt = false; may_wait = false }) params (record { schema = schema; trees = old.now.trees }) text None command (Err stop)
    → IsSome old.step_limit ⊎ Refuses

-- a command that begins or ends a transaction, or goes back to a savepoint or drops it
abbrev pub is_transactional : Command → Bool
is_transactional Begin = true
is_transactional Commit = true
is_transactional Rollback = true
is_transactional (Release name) = true
is_transactional (RollbackTo name) = true
is_transactional _ = false

module _ (s : State) (command : Command) (inner : is_transactional command ≡ false) where
  other : (it : Command) → is_transactional it ≡ true → command ≡ it → ⊥
  other it is same = both_ways _ inner (ap is_transactional same ∙ is)

  not_misplaced : (e : Error) → IsMisplaced s command e → ⊥
  not_misplaced e (inl (_, inl (same, _))) = other Begin refl same
  not_misplaced e (inl (_, inr (inl same, _))) = other Commit refl same
  not_misplaced e (inl (_, inr (inr same, _))) = other Rollback refl same
  not_misplaced e (inr (_, name, inl same, _)) = other (Release name) refl same
  not_misplaced e (inr (_, name, inr same, _)) = other (RollbackTo name) refl same

  no_escape : Escapes 0 s command → ⊥
  no_escape (inl (inl same)) = other Commit refl same
  no_escape (inl (inr same)) = other Rollback refl same
  no_escape (inr (name, inl same, _)) = other (Release name) refl same
  no_escape (inr (name, inr same, _)) = other (RollbackTo name) refl same

module _ (old new : State) (sql : List ℕ) (params : Row) (schema : Schema) (has : old.now.schema ≡ schema) (given : IsGiven sql (length params) (understood schema sql)) (plain : IsPlain (understood schema sql))
    (command : Command) (is : command_of (understood schema sql) ≡ command) (silent : (c : Compiled) → c.command ≡ command → c.returning ≡ None → shows_rows false c ≡ false) (inner : is_transactional command ≡ false)
    (Refuses : Type 0) (stops : Stops old schema (statement_of sql (understood schema sql)) params command Refuses) where
  abbrev statement : List ℕ
  statement = statement_of sql (understood schema sql)

  limited : (stop : Option Error) → Does old.step_limit (mode_of old) params old.now statement None command (Err stop) → MayFail old new ⊎ Refuses
  limited stop does = elim (stops stop (subst (λ s. Does old.step_limit (mode_of old) params (record old.now { schema = s }) statement None command (Err stop)) has does)) [
    | inl some ↦ inl (inr (inr some))
    | inr refuses ↦ inr refuses
  ]

  by_store : (too_big : Type 0) → (too_big → MayFail old new ⊎ Refuses) → (e : Error) (cause : StoreError) → e ≡ store_error cause → HasCause old new too_big cause → IsExcused old new e ⊎ Refuses
  by_store too_big big e OutOfMemory is has = inl (inl is)
  by_store too_big big e Io is has = inl (inr (inl has))
  by_store too_big big e Corrupt is has = inl (inr (inl has))
  by_store too_big big e Full is has = inl (inr (inl has))
  by_store too_big big e Broken is has = inl (inr (inr (inl has)))
  by_store too_big big e Unstorable is has = elim (big has) [ inl may ↦ inl (inr may) | inr refuses ↦ inr refuses ]

  ran : (c : Compiled) (e : Error) → c.command ≡ command → c.returning ≡ None → text_of sql c ≡ statement → RunsAlone false old new sql c params (Err e) → IsExcused old new e ⊎ Refuses
  ran c e same bare text h = elim (rw (same, bare, text) at (rw (silent c same bare) at h)) [
    | inl refused ↦ elim refused.0 [
      | inl misplaced ↦ absurd (not_misplaced old command inner e misplaced)
      | inr does ↦ elim (limited (Some e) does.1) [ inl may ↦ inl (inr may) | inr refuses ↦ inr refuses ]
    ]
    | inr failed ↦ by_store _ (limited None) e failed.0 failed.1 failed.2
  ]

  pub statement_excused : (e : Error) → ExecutesInside 0 sql params old new (Err e) → IsExcused old new e ⊎ Refuses
  unfolding ExecutesIn EndsScope
  statement_excused e (inl (inl stopped, _)) =
      let known = understood_as in
      inl (not_run old new sql params known.0 (ap (λ s. understood s sql) has ∙ known.1) (subst (IsGiven sql (length params)) known.1 given) (subst IsPlain known.1 plain).1 e stopped)
    where
      value : (r : Result Compiled CompileError) → IsPlain r → (c : Compiled) × (r ≡ Ok c)
      value (Ok c) bare = (c, refl)
      value (Err e) bare = absurd bare

      understood_as : (c : Compiled) × (understood schema sql ≡ Ok c)
      understood_as = value (understood schema sql) plain
  statement_excused e (inl (inr h, _)) =
      let known = sym h.1.is ∙ ap (λ s. understood s sql) has in
      let bare = subst IsPlain (sym known) plain in
      ran h.0 e (ap command_of known ∙ is) bare.0 (ap (statement_of sql) known) (rw (bare.1, append-nil params) at h.2)
  statement_excused e (inr (ends, _, _)) =
      let known = sym ends.1.is ∙ ap (λ s. understood s sql) has in
      absurd (no_escape old command inner (subst (Escapes 0 old) (ap command_of known ∙ is) ends.2))
