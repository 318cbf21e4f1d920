-- Why a store refuses what it is asked.
use Rattle.std.specs.Prelude.{◌≡◌, ◌⊎◌, ◌+◌, ◌-◌, ◌^◌, ◌≤◌, ℕ, Bool, true, min}
use Rattle.am_rows.specs.declared.refusal.StoreRefusal.{StoreRefusal}
use Rattle.am_rows.specs.declared.refusal.StoreRefusal.TheVariants.{Database, Foreign}
use Rattle.am_text.specs.Outcome.{ForRefused}
use Rattle.am_text.specs.declared.failure.Failure.{Failure}

-- what a store is kept on: how often it failed or refused, at most 2^64 - 1 times, and whether a failure shut the store
pub record Medium : Type 0 where
  pub failures : ℕ
  pub is_shut : Bool

-- what a call may be refused for: the medium failed during it, or a failure before had shut the store
abbrev pub MayRefuse : (old new : Medium) → Type 0
MayRefuse old new = (old.is_shut ≡ true) ⊎ (min (old.failures + 1) (2 ^ 64 - 1) ≤ new.failures)

-- what a call makes of it: no failure is forgotten, and nothing else shuts a store
pub record Wears (old new : Medium) : Type 0 where
  pub counts : old.failures ≤ new.failures
  pub shuts : new.is_shut ≡ true → MayRefuse old new

-- memory ran out; or a call of the database was refused, for this cause
abbrev pub IsCaused : Type 0 → Failure StoreRefusal → Type 0
IsCaused Cause failure = ForRefused failure (λ why. (why ≡ Database) × Cause)

-- .. or it is no store, for this reason
abbrev pub IsJudged : (Reason Cause : Type 0) → Failure StoreRefusal → Type 0
IsJudged Reason Cause failure = ForRefused failure (λ why. ((why ≡ Foreign) × Reason) ⊎ ((why ≡ Database) × Cause))
