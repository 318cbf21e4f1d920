use Rattle.std.proofs.Common.{inl, inr, arith}
use Rattle.am_store.proofs.laws.memory_never_fails.Goals as goal

pub returns : goal.returns
returns c = λ old new may. elim may [ inl shut ↦ let clash = shut in cc | inr failed ↦ omega (arith, failed) ]
