-- One call of a store after another: what it makes of the medium, and what a later one is refused for.
use Rattle.std.proofs.Common.{◌≤◌, inl, inr, arith}
use Rattle.am_text.specs.declared.failure.Failure.{Failure}
use Rattle.am_text.specs.declared.failure.Failure.TheVariants.{Refused, OutOfMemory}
use Rattle.am_rows.specs.Refusing.{IsCaused, IsJudged, MayRefuse, Medium, Wears}
use Rattle.am_rows.specs.declared.refusal.StoreRefusal.{StoreRefusal}

pub unworn : (m : Medium) → Wears m m
unworn m = record { counts = omega arith; shuts = λ shut. inl shut }

-- a cause stays one, whatever comes behind it
earlier : (a b c : Medium) → MayRefuse a b → b.failures ≤ c.failures → MayRefuse a c
earlier a b c (inl shut) more = inl shut
earlier a b c (inr failed) more = inr (omega (arith, failed, more))

module _ (a b c : Medium) (first : Wears a b) (last : Wears b c) where
  pub refuses_later : MayRefuse b c → MayRefuse a c
  refuses_later (inl shut) = earlier a b c (first.shuts shut) last.counts
  refuses_later (inr failed) = let more = first.counts in inr (omega (arith, failed, more))

  pub wears_then : Wears a c
  wears_then = record {
    counts = let x = first.counts in let y = last.counts in omega (arith, x, y);
    shuts = λ shut. refuses_later (last.shuts shut);
  }

  pub caused_later : (failure : Failure StoreRefusal) → IsCaused (MayRefuse b c) failure → IsCaused (MayRefuse a c) failure
  caused_later OutOfMemory is = tt
  caused_later (Refused why) is = (is.0, refuses_later is.1)

  pub judged_later : (Reason : Type 0) (failure : Failure StoreRefusal) → IsCaused (MayRefuse b c) failure → IsJudged Reason (MayRefuse a c) failure
  judged_later Reason OutOfMemory is = tt
  judged_later Reason (Refused why) is = inr (is.0, refuses_later is.1)
