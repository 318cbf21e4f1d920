-- Causes of what fails.
use Rattle.std.proofs.Common.{◌≡◌, inl, inr, false, Result, Ok, Err, IfErr, IsSome, IsTrue, arith, sym, subst, ◌∙◌}
use Rattle.std.proofs.lemmas.Bool.{both_ways, cases_Bool}
use Rattle.am_text.specs.Outcome.{ForRefused}
use Rattle.am_text.specs.declared.failure.Failure.{Failure}
use Rattle.am_text.specs.declared.failure.Failure.TheVariants.{Refused, OutOfMemory}
use Rattle.sqlite_disk.specs.Disk.{MoreFaults}
use Rattle.sqlite.specs.declared.error.Error.{Error}
use Rattle.sqlite.specs.declared.error.Error.TheVariants.{SqliteFailure}
use Rattle.sqlite.specs.declared.error.ErrorCode.TheVariants as code
use Rattle.sqlite.specs.State.{HasCleanDisk, IsUnchanged, State, Survives}
use Rattle.sqlite.specs.Steps.{FailsToCommit}
use Rattle.sqlite.specs.Tree.{Trees}
use Rattle.am_store.specs.Failing.{FailsForCause, FailsToOpen, IsCaused, IsExcused, IsJudged, MayFail}
use Rattle.am_store.specs.Reading.{GivesValue, RefusesForeign}
use Rattle.am_store.specs.Rows.{IsStore}
use Rattle.am_rows.specs.declared.refusal.StoreRefusal.{StoreRefusal}
use Rattle.am_rows.specs.declared.refusal.StoreRefusal.TheVariants as refusal
use Rattle.am_store.proofs.Asked.{by_cause}

-- an error of the database as it is told
pub told : (old new : State) (e : Error) (failure : Failure StoreRefusal) → (e ≡ SqliteFailure code.OutOfMemory → failure ≡ OutOfMemory)
    → ForRefused failure (λ why. why ≡ refusal.Database) → IsExcused old new e → IsCaused old new failure
told old new e OutOfMemory memory database caused = tt
told old new e (Refused why) memory database (inl out) = absurd (let no = memory out in cc)
told old new e (Refused why) memory database (inr may) = (database, may)

-- what gives a value unless memory runs out
pub given_fails : {X : Type 0} (old new : State) (r : Result X (Failure StoreRefusal)) → GivesValue r → FailsForCause old new r
given_fails old new (Ok x) given = tt
given_fails old new (Err OutOfMemory) given = tt
given_fails old new (Err (Refused why)) given = absurd (let no = given in cc)

-- what judges the rows that were read
pub tested : {X : Type 0} (old new : State) (r : Result X (Failure StoreRefusal)) → RefusesForeign r → (IsStore old.now → GivesValue r) → FailsToOpen old new r
tested old new (Ok x) foreign given = tt
tested old new (Err OutOfMemory) foreign given = tt
tested old new (Err (Refused why)) foreign given = inl (foreign, λ store. let no = given store in cc)

pub caused_judged : (old new : State) (failure : Failure StoreRefusal) → IsCaused old new failure → IsJudged old new failure
caused_judged old new (Refused why) caused = inr caused
caused_judged old new OutOfMemory caused = tt

-- ---- one read after another that changed nothing

module _ (a b c : State) (P : Trees → Type 0) (same : IsUnchanged a b) (s : Survives a b P) where
  may_fail : MayFail b c → MayFail a c
  may_fail (inl faults) = inl (omega (arith, faults, s.counts))
  may_fail (inr (inl shut)) = absurd (let no = sym shut ∙ same.0.is_open in cc)
  may_fail (inr (inr limit)) = inr (inr (subst IsSome s.limit limit))

  pub caused_then : (failure : Failure StoreRefusal) → IsCaused b c failure → IsCaused a c failure
  caused_then (Refused why) is = (is.0, may_fail is.1)
  caused_then OutOfMemory is = tt

  pub judged_then : (failure : Failure StoreRefusal) → IsJudged b c failure → IsJudged a c failure
  judged_then (Refused why) (inl foreign) = inl (foreign.0, λ store. foreign.1 (subst IsStore (sym same.0.now_is) store))
  judged_then (Refused why) (inr caused) = inr (caused.0, may_fail caused.1)
  judged_then OutOfMemory is = tt

  pub opens_then : {X : Type 0} (r : Result X (Failure StoreRefusal)) → FailsToOpen b c r → FailsToOpen a c r
  opens_then (Ok x) h = tt
  opens_then (Err failure) h = judged_then failure h

-- ---- a call within others

-- one that fails behind others
pub excused_after : (a b c : State) (P Q : Trees → Type 0) → HasCleanDisk b → Survives a b P → Survives b c Q → (e : Error) → IsExcused b c e → IsExcused a c e
excused_after a b c P Q clean s t e (inl out) = inl out
excused_after a b c P Q clean s t e (inr (inl faults)) = inr (inl (omega (arith, faults, s.counts)))
excused_after a b c P Q clean s t e (inr (inr (inr limit))) = inr (inr (inr (subst IsSome s.limit limit)))
excused_after a b c P Q clean s t e (inr (inr (inl shut))) = elim (cases_Bool a.is_open) [
  | inl was ↦ elim (s.closes clean was) [
    | inl still ↦ absurd (both_ways _ shut still)
    | inr faults ↦ let more : MoreFaults a.faults b.faults = faults in inr (inl (omega (arith, more, t.counts)))
  ]
  | inr before ↦ inr (inr (inl before))
]

-- one before others
pub excused_before : (a b c : State) (Q : Trees → Type 0) → Survives b c Q → {X : Type 0} (r : Result X Error) → IfErr r (IsExcused a b) → IfErr r (IsExcused a c)
excused_before a b c Q t (Ok x) h = tt
excused_before a b c Q t (Err e) (inl out) = inl out
excused_before a b c Q t (Err e) (inr (inl faults)) = inr (inl (omega (arith, faults, t.counts)))
excused_before a b c Q t (Err e) (inr (inr other)) = inr (inr other)

pub commit_excused : (a b c : State) (P Q : Trees → Type 0) → HasCleanDisk b → Survives a b P → Survives b c Q → IsTrue b.in_transaction
    → {X : Type 0} (r : Result X Error) → IfErr r (FailsToCommit b c) → IfErr r (IsExcused a c)
commit_excused a b c P Q clean s t inside (Ok x) h = tt
commit_excused a b c P Q clean s t inside (Err e) (inl failed) = excused_after a b c P Q clean s t e (by_cause b c ⊥ absurd e failed.0 failed.1 failed.2)
commit_excused a b c P Q clean s t inside (Err e) (inr ended) = absurd (both_ways _ ended.1 inside)

-- what is refused since the connection is shut
pub shut_excused : (a b : State) → a.is_open ≡ false → {X : Type 0} (r : Result X Error) → IfErr r (IsExcused a b)
shut_excused a b shut (Ok x) = tt
shut_excused a b shut (Err e) = inr (inr (inl shut))
