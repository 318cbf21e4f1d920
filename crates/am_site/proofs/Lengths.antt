-- How long a message may be.
use Rattle.std.proofs.Common.{◌≡◌, ℕ, nat_le, nat_lt, true, false, inl, inr, arith}
use Rattle.std.specs.Option.{is_some}
use Rattle.std.proofs.lemmas.Bool.{cases_Bool}
use Rattle.std.proofs.lemmas.Bool.Decides.{nat_tests}
use Rattle.am_wire.specs.Lengths.{in_32_bits}

-- one whose length is told isn't too long
pub short : (n : ℕ) → is_some (in_32_bits n) ≡ true → nat_le n 4294967295 ≡ true
short n some = elim (cases_Bool (nat_lt n 4294967296)) [
  | inl below ↦ grind (arith, nat_tests)
  | inr past ↦ absurd (let never : false ≡ true = rw past at some in cc)
]

-- any other is
pub long : (n : ℕ) → is_some (in_32_bits n) ≡ false → nat_le n 4294967295 ≡ false
long n none = elim (cases_Bool (nat_lt n 4294967296)) [
  | inl below ↦ absurd (let never : true ≡ false = rw below at none in cc)
  | inr past ↦ grind (arith, nat_tests)
]
