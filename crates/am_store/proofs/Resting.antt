-- Calls that write nothing.
use Rattle.std.proofs.Common.{◌≡◌, ◌⊎◌, inl, inr, List, ℕ, Result, Ok, Err, IfErr, IfOk, IsTrue, sym, ◌∙◌}
use Rattle.std.specs.Global.{Vec}
use Rattle.sqlite.specs.declared.error.Error.{Error}
use Rattle.sqlite.specs.Listing.{understood}
use Rattle.sqlite.specs.Order.{Row}
use Rattle.sqlite.specs.State.{CommitsShowing, FailsToQuery, HasCleanDisk, IsRolledBack, IsUnchanged, Shown, State, Survives}
use Rattle.sqlite.proofs.Callers.{IsPlain, never_commits}
use Rattle.sqlite.proofs.StateLemmas.{survives_weaker}
use Rattle.am_store.specs.Opening.{Rests}
use Rattle.am_store.specs.Steps.{IsSame}
use Rattle.am_store.proofs.Calls.{both_survive, clean_before, query_fails, shown_unchanged}

pub unchanged_rests : (old new : State) → Survives old new (λ _. ⊥) → (HasCleanDisk new → IsUnchanged old new ⊎ IsRolledBack old new) → Rests old new
unchanged_rests old new s h = record {
  survives = s;
  same = λ clean still. elim (h clean) [
    | inl same ↦ (same.0.was_open, λ settled. (same.0.now_is, same.0.committed_is))
    | inr back ↦ (back.was_open still, λ settled. ((back.undone still).0 ∙ sym settled, (back.undone still).1))
  ];
}

either : (old new : State) (sql : List ℕ) (params : Row) (r : Result (Vec Row) Error) → IsPlain (understood old.now.schema sql)
    → IfOk r (λ rows. Shown sql params old new rows.items) → IfErr r (FailsToQuery sql params old new) → IsUnchanged old new ⊎ IsRolledBack old new
either old new sql params (Ok rows) bare ok err = inl (shown_unchanged old new sql params bare rows.items ok)
either old new sql params (Err e) bare ok err = query_fails old new sql params bare e (inl err)

-- a query that only reads
pub query_rests : (old new : State) (sql : List ℕ) (params : Row) (r : Result (Vec Row) Error) → Survives old new (CommitsShowing sql params old)
    → (HasCleanDisk new → IfOk r (λ rows. Shown sql params old new rows.items)) → (HasCleanDisk new → IfErr r (FailsToQuery sql params old new)) → (HasCleanDisk new → IsPlain (understood old.now.schema sql)) → Rests old new
query_rests old new sql params r s ok err bare =
    unchanged_rests old new (survives_weaker old new (CommitsShowing sql params old) (λ _. ⊥) (λ clean db made. never_commits sql params old db (bare clean) made) s)
    (λ clean. either old new sql params r (bare clean) (ok clean) (err clean))

-- one after the other
pub rests_then : (a b c : State) → Rests a b → Rests b c → Rests a c
rests_then a b c one two = record {
  survives = both_survive a b c one.survives two.survives;
  same = λ clean still.
      let last = two.same clean still in
      let first = one.same (clean_before b c _ two.survives clean) last.0 in (
        first.0,
        λ settled.
            let mid : IsSame a b = first.1 settled in
            let end : IsSame b c = last.1 (mid.0 ∙ settled ∙ sym mid.1) in
            (end.0 ∙ mid.0, end.1 ∙ mid.1),
      );
}

-- what was seen is still seen, where all of it was committed and no failure shut the connection
pub rests_same : (old new : State) → Rests old new → (IsTrue old.is_open → old.now ≡ old.committed) → HasCleanDisk new → IsTrue new.is_open → IsSame old new
rests_same old new rests settled clean still =
    let kept = rests.same clean still in
    kept.1 (settled kept.0)
