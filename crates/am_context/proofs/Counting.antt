-- Whether a count passes the greatest.
use Rattle.std.proofs.Common.{◌≡◌, ℕ, ◌+◌, ◌≤◌, nat_le, Bool, true, false, Ok, IsErrOf, refl, inl, inr, arith}
use Rattle.std.proofs.lemmas.Bool.{cases_Bool}
use Rattle.std.proofs.lemmas.Bool.Decides.{nat_tests}
use Rattle.am_context.specs.Stopping.{StopsPast}
use Rattle.am_item.specs.declared.fault.Fault.{Fault}
use Rattle.am_item.specs.declared.fault.Fault.TheVariants.{CountsExhausted, OutOfMemory, PatternNotBuilt, StoreRefused}

-- it doesn't where it had not reached it
pub fits : (used : ℕ) → (4611686018427387904 ≤ used → ⊥) → nat_le (used + 1) 4611686018427387904 ≡ true
fits used below = elim (cases_Bool (nat_le (used + 1) 4611686018427387904)) [
  | inl is ↦ is
  | inr past ↦ absurd (below (grind (arith, nat_tests)))
]

pub passes : (used : ℕ) → 4611686018427387904 ≤ used → nat_le (used + 1) 4611686018427387904 ≡ false
passes used reached = grind (arith, nat_tests)

-- what went well is no error
pub no_error : {T E : Type 0} (x : T) (e : E) → IsErrOf (Ok x) e → ⊥
no_error x e is = cc

-- a fault is one of a count that passed the greatest, or of memory
pub stops_past : (fits : Bool) (fault : Fault) → (fault ≡ CountsExhausted → fits ≡ false) → (fault ≡ PatternNotBuilt → ⊥)
    → (fault ≡ StoreRefused → ⊥) → StopsPast fits fault
stops_past fits CountsExhausted counts never stored = counts refl
stops_past fits OutOfMemory counts never stored = tt
stops_past fits PatternNotBuilt counts never stored = never refl
stops_past fits StoreRefused counts never stored = stored refl
