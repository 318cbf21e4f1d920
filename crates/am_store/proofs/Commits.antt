-- What a transaction that failed to be committed leaves.
use Rattle.std.proofs.Common.{◌≡◌, inl, inr, Result, Ok, Err, IfErr, OnErr, IsTrue, sym, ◌∙◌}
use Rattle.std.proofs.lemmas.Bool.{both_ways}
use Rattle.sqlite.specs.declared.error.Error.{Error}
use Rattle.sqlite.specs.State.{IsRolledBack, KeepsCommit, State}
use Rattle.sqlite.specs.Steps.{FailsToCommit}
use Rattle.am_store.specs.Steps.{IsSame}

-- a transaction that is undone leaves what was there before it
pub undone_same : (old mid new : State) → KeepsCommit old mid → (IsTrue old.is_open → old.now ≡ old.committed) → IsTrue new.is_open → IsRolledBack mid new → IsSame old new
undone_same old mid new kept settled still undone =
    let was = undone.was_open still in
    let back = undone.undone still in
    let committed = kept.committed was in
    (back.0 ∙ committed ∙ sym (settled (kept.was_open was)), back.1 ∙ committed)

pub commit_fails : {X : Type 0} (old mid new : State) (r : Result X Error) → KeepsCommit old mid → (IsTrue old.is_open → old.now ≡ old.committed) → IsTrue mid.in_transaction → IsTrue new.is_open
    → IfErr r (FailsToCommit mid new) → OnErr r (IsSame old new)
commit_fails old mid new (Ok x) kept settled inside still h = tt
commit_fails old mid new (Err e) kept settled inside still (inl failed) = undone_same old mid new kept settled still failed.3
commit_fails old mid new (Err e) kept settled inside still (inr ended) = absurd (both_ways _ ended.1 inside)
