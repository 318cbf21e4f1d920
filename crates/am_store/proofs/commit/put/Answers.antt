use Rattle.std.proofs.Common.{◌≡◌, inl, inr, true, refl, not, ap, subst, rules, sym, IfErr, IsTrue, OnErr, ◌∙◌}
use Rattle.std.proofs.lemmas.Bool.{cases_Bool}
use Rattle.std.proofs.lemmas.Result.{IfErr-weaker}
use Rattle.sqlite.specs.Held.{state}
use Rattle.sqlite.specs.State.{HasCleanDisk, KeepsCommit, Survives}
use Rattle.sqlite.proofs.Callers.{survives_begin}
use Rattle.sqlite.proofs.StateLemmas.{survives_then}
use Rattle.am_store.specs.Failing.{IsPutExcused, IsReady}
use Rattle.am_store.specs.Steps.{IsSame, Leaves, Stores}
use Rattle.am_store.specs.Stored.{stored_items}
use Rattle.am_store.proofs.Calls.{clean_before}
use Rattle.am_store.proofs.Commits.{commit_fails}
use Rattle.am_store.proofs.Failing.{commit_excused, shut_excused}
use Rattle.am_store.proofs.Puts.{put_excused_before}
use Rattle.am_store.proofs.commit.put.Goals as goal

pub returns-clause-err : goal.returns-clause-err
returns-clause-err g c clean still store =
    let old = c.args.conn.now in
    let mid = c.put_each.new.tx.conn.now in
    let last = c.commit.new.self.0 in
    let begun = c.transaction-tx.ensures.begun in
    let same : last ≡ c.conn-2-1.given.0 = search rules in
    let clean_last : HasCleanDisk (state g.S.Store last) = subst (λ h. HasCleanDisk (state g.S.Store h)) (sym same) clean in
    let still_last = subst (λ h. IsTrue (state g.S.Store h).is_open) (sym same) still in
    let clean_mid = clean_before (state g.S.Store mid) (state g.S.Store last) _ c.commit.ensures.survives clean_last in
    let kept : KeepsCommit (state g.S.Store old) (state g.S.Store mid) =
    let it = rw begun at (c.in_ok-put_each.ensures.kept clean_mid (rw begun store)) in record { was_open = it.was_open; committed = it.committed } in
    let inside = rw begun at (c.in_ok-put_each.ensures.inside clean_mid (rw begun store)) in
    subst (λ h. OnErr c.commit.result (IsSame (state g.S.Store old) (state g.S.Store h))) same
    (commit_fails (state g.S.Store old) (state g.S.Store mid) (state g.S.Store last) c.commit.result kept
    (c.is_autocommit-settled.ensures.settled (c.is_autocommit-settled.ensures.value ∙ ap not c.requires.idle)) (inside refl) still_last (c.commit.ensures.err clean_last))

pub returns-clause-crash : goal.returns-clause-crash
returns-clause-crash g c =
    let old = c.args.conn.now in
    let mid = c.put_each.new.tx.conn.now in
    let last = c.commit.new.self.0 in
    let begun = c.transaction-tx.ensures.begun in
    let P = Leaves (Stores c.args.tenant.now (stored_items c.args.items.now)) (state g.S.Store old) in
    let one : Survives (state g.S.Store old) (state g.S.Store mid) (λ _. ⊥) = survives_begin g.S.Store old (state g.S.Store mid) _ (rw begun at c.put_each.ensures.survives) in
    let whole = survives_then (state g.S.Store old) (state g.S.Store mid) (state g.S.Store last) (λ _. ⊥) _ P (λ _ db none. absurd none)
    (λ clean db is store.
    (_, rw begun at (c.in_ok-put_each.ensures.ok (clean_before (state g.S.Store mid) (state g.S.Store last) _ c.commit.ensures.survives clean) (rw begun store)), is)) one c.commit.ensures.survives in
    let same : last ≡ c.conn-2-1.given.0 = search rules in
    subst (λ h. Survives (state g.S.Store old) (state g.S.Store h) P) same whole

pub returns-clause-fails : goal.returns-clause-fails
returns-clause-fails g c clean store =
    let old = c.args.conn.now in
    let mid = c.put_each.new.tx.conn.now in
    let last = c.commit.new.self.0 in
    let begun = c.transaction-tx.ensures.begun in
    let xs = stored_items c.args.items.now in
    let same : last ≡ c.conn-2-1.given.0 = search rules in
    let clean_last : HasCleanDisk (state g.S.Store last) = subst (λ h. HasCleanDisk (state g.S.Store h)) (sym same) clean in
    let clean_mid = clean_before (state g.S.Store mid) (state g.S.Store last) _ c.commit.ensures.survives clean_last in
    let one : Survives (state g.S.Store old) (state g.S.Store mid) (λ _. ⊥) = survives_begin g.S.Store old (state g.S.Store mid) _ (rw begun at c.put_each.ensures.survives) in
    let inside = rw begun at (c.in_ok-put_each.ensures.inside clean_mid (rw begun store)) in
    subst (λ h. IfErr c.commit.result (IsPutExcused c.args.tenant.now xs (state g.S.Store old) (state g.S.Store h))) same
    (IfErr-weaker c.commit.result _ _ (λ e excused. inl excused)
    (commit_excused (state g.S.Store old) (state g.S.Store mid) (state g.S.Store last) _ _ clean_mid one c.commit.ensures.survives (inside refl) c.commit.result (c.commit.ensures.err clean_last)))

pub returns-in_err-put_each-clause-fails : goal.returns-in_err-put_each-clause-fails
returns-in_err-put_each-clause-fails g c clean store =
    let old = c.args.conn.now in
    let mid = c.put_each.new.tx.conn.now in
    let last = c.drop-tx.new.self.0 in
    let begun = c.transaction-tx.ensures.begun in
    let t = c.args.tenant.now in
    let xs = stored_items c.args.items.now in
    let same : last ≡ c.conn-1.given.0 = search rules in
    let clean_last : HasCleanDisk (state g.S.Store last) = subst (λ h. HasCleanDisk (state g.S.Store h)) (sym same) clean in
    let clean_mid = clean_before (state g.S.Store mid) (state g.S.Store last) _ c.drop-tx.ensures.survives clean_last in
    elim (cases_Bool (state g.S.Store old).is_open) [
      | inl still ↦
          let ready : IsReady (state g.S.Store (record old { in_transaction = true })) = record { store = store; sound = (c.schema-live.ensures.live still).0; inside = refl } in
          let excused : IfErr c.put_each.result (IsPutExcused t xs (state g.S.Store old) (state g.S.Store c.conn-1.given.0)) =
          subst (λ h. IfErr c.put_each.result (IsPutExcused t xs (state g.S.Store old) (state g.S.Store h))) same
          (put_excused_before (state g.S.Store old) (state g.S.Store mid) (state g.S.Store last) _ t xs c.drop-tx.ensures.survives c.put_each.result ((rw begun at c.put_each.ensures.fails) clean_mid ready)) in
          search rules
      | inr shut ↦
          IfErr-weaker c.from_residual.result _ _ (λ e excused. inl excused) (shut_excused (state g.S.Store old) (state g.S.Store c.conn-1.given.0) shut c.from_residual.result)
    ]
