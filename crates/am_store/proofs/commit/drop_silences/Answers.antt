use Rattle.std.proofs.Common.{◌≡◌, inl, inr, true, refl, not, ap, subst, rules, sym, IfErr, IsTrue, OnErr, ◌∙◌}
use Rattle.std.proofs.lemmas.Bool.{cases_Bool}
use Rattle.sqlite.specs.Held.{state}
use Rattle.sqlite.specs.State.{HasCleanDisk, KeepsCommit, Survives}
use Rattle.sqlite.proofs.Callers.{survives_begin}
use Rattle.sqlite.proofs.StateLemmas.{survives_then}
use Rattle.am_store.specs.Failing.{IsExcused, IsReady}
use Rattle.am_store.specs.Steps.{IsSame, Leaves, RemovesEach}
use Rattle.am_store.proofs.Calls.{clean_before}
use Rattle.am_store.proofs.Commits.{commit_fails}
use Rattle.am_store.proofs.Failing.{commit_excused, excused_before, shut_excused}
use Rattle.am_store.proofs.commit.drop_silences.Goals as goal

pub returns-clause-err : goal.returns-clause-err
returns-clause-err g c clean still store =
    let old = c.args.conn.now in
    let mid = c.take_silences.new.tx.conn.now in
    let last = c.commit.new.self.0 in
    let begun = c.transaction-tx.ensures.begun in
    let same : last ≡ c.conn-2-1.given.0 = search rules in
    let clean_last : HasCleanDisk (state g.S.Store last) = subst (λ h. HasCleanDisk (state g.S.Store h)) (sym same) clean in
    let still_last = subst (λ h. IsTrue (state g.S.Store h).is_open) (sym same) still in
    let clean_mid = clean_before (state g.S.Store mid) (state g.S.Store last) _ c.commit.ensures.survives clean_last in
    let kept : KeepsCommit (state g.S.Store old) (state g.S.Store mid) =
    let it = rw begun at (c.in_ok-take_silences.ensures.kept clean_mid) in record { was_open = it.was_open; committed = it.committed } in
    let inside = rw begun at (c.in_ok-take_silences.ensures.inside clean_mid) in
    subst (λ h. OnErr c.commit.result (IsSame (state g.S.Store old) (state g.S.Store h))) same
    (commit_fails (state g.S.Store old) (state g.S.Store mid) (state g.S.Store last) c.commit.result kept
    (c.is_autocommit-settled.ensures.settled (c.is_autocommit-settled.ensures.value ∙ ap not c.requires)) (inside refl) still_last (c.commit.ensures.err clean_last))

pub returns-clause-crash : goal.returns-clause-crash
returns-clause-crash g c =
    let old = c.args.conn.now in
    let mid = c.take_silences.new.tx.conn.now in
    let last = c.commit.new.self.0 in
    let begun = c.transaction-tx.ensures.begun in
    let P = Leaves (RemovesEach c.args.silences.now) (state g.S.Store old) in
    let one : Survives (state g.S.Store old) (state g.S.Store mid) (λ _. ⊥) = survives_begin g.S.Store old (state g.S.Store mid) _ (rw begun at c.take_silences.ensures.survives) in
    let whole = survives_then (state g.S.Store old) (state g.S.Store mid) (state g.S.Store last) (λ _. ⊥) _ P (λ _ db none. absurd none)
    (λ clean db is store.
    (_, rw begun at (c.in_ok-take_silences.ensures.ok (clean_before (state g.S.Store mid) (state g.S.Store last) _ c.commit.ensures.survives clean) (rw begun store)), is)) one c.commit.ensures.survives in
    let same : last ≡ c.conn-2-1.given.0 = search rules in
    subst (λ h. Survives (state g.S.Store old) (state g.S.Store h) P) same whole

pub returns-clause-fails : goal.returns-clause-fails
returns-clause-fails g c clean store =
    let old = c.args.conn.now in
    let mid = c.take_silences.new.tx.conn.now in
    let last = c.commit.new.self.0 in
    let begun = c.transaction-tx.ensures.begun in
    let same : last ≡ c.conn-2-1.given.0 = search rules in
    let clean_last : HasCleanDisk (state g.S.Store last) = subst (λ h. HasCleanDisk (state g.S.Store h)) (sym same) clean in
    let clean_mid = clean_before (state g.S.Store mid) (state g.S.Store last) _ c.commit.ensures.survives clean_last in
    let one : Survives (state g.S.Store old) (state g.S.Store mid) (λ _. ⊥) = survives_begin g.S.Store old (state g.S.Store mid) _ (rw begun at c.take_silences.ensures.survives) in
    let inside = rw begun at (c.in_ok-take_silences.ensures.inside clean_mid) in
    subst (λ h. IfErr c.commit.result (IsExcused (state g.S.Store old) (state g.S.Store h))) same
    (commit_excused (state g.S.Store old) (state g.S.Store mid) (state g.S.Store last) _ _ clean_mid one c.commit.ensures.survives (inside refl) c.commit.result (c.commit.ensures.err clean_last))

pub returns-in_err-take_silences-clause-fails : goal.returns-in_err-take_silences-clause-fails
returns-in_err-take_silences-clause-fails g c clean store =
    let old = c.args.conn.now in
    let mid = c.take_silences.new.tx.conn.now in
    let last = c.drop-tx.new.self.0 in
    let begun = c.transaction-tx.ensures.begun in
    let same : last ≡ c.conn-1.given.0 = search rules in
    let clean_last : HasCleanDisk (state g.S.Store last) = subst (λ h. HasCleanDisk (state g.S.Store h)) (sym same) clean in
    let clean_mid = clean_before (state g.S.Store mid) (state g.S.Store last) _ c.drop-tx.ensures.survives clean_last in
    elim (cases_Bool (state g.S.Store old).is_open) [
      | inl still ↦
          let ready : IsReady (state g.S.Store (record old { in_transaction = true })) = record { store = store; sound = (c.schema-live.ensures.live still).0; inside = refl } in
          let excused : IfErr c.take_silences.result (IsExcused (state g.S.Store old) (state g.S.Store c.conn-1.given.0)) =
          subst (λ h. IfErr c.take_silences.result (IsExcused (state g.S.Store old) (state g.S.Store h))) same
          (excused_before (state g.S.Store old) (state g.S.Store mid) (state g.S.Store last) _ c.drop-tx.ensures.survives c.take_silences.result ((rw begun at c.take_silences.ensures.fails) clean_mid ready)) in
          search rules
      | inr shut ↦ shut_excused (state g.S.Store old) (state g.S.Store c.conn-1.given.0) shut c.from_residual.result
    ]
