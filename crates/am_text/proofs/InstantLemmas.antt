-- What an instant counts as.
use Rattle.std.proofs.Common.{◌≡◌, ◌≢◌, ℕ, ◌<◌, ◌≤◌, Some, None, ℤ, pos, negsuc, ◌<ℤ◌, arith, refl, sym, ap, unsigned_abs, FitsSigned, w64}
use Rattle.std.proofs.lemmas.Bool.Decides.{nat_tests}
use Rattle.std.proofs.lemmas.Int.{ints}
use Rattle.std.specs.Int.{FitsUnsignedBits}
use Rattle.jiff_core.specs.Calendar.{days_from_civil}
use Rattle.jiff_core.proofs.SignedLemmas.{signed_arith}
use Rattle.jiff_core.proofs.CalendarLemmas.{days_from_civil-day_count}
use Rattle.jiff_core.proofs.MarchLemmas.{day_count-early}
use Rattle.am_text.specs.Moment.{greatest_moment, absent_instant, moment_at}

-- the day number of 0001-01-01
first_day : days_from_civil (pos 1) 1 1 ≡ negsuc 719_161
first_day =
    omega (arith, signed_arith, days_from_civil-day_count (pos 1) 1 1, day_count-early (pos 1) 10_000 1 1 refl (omega arith) (omega arith) (omega arith))

-- and its instant
pub absent_is : absent_instant ≡ negsuc 62_135_596_799_999
absent_is = rw first_day refl

-- 0001-01-01T00:00:00Z counts as absent
pub moment_at-absent : (z : ℤ) → z ≡ negsuc 62_135_596_799_999 → moment_at z ≡ Some None
unfolding moment_at
moment_at-absent z e = rw (e, first_day) refl

-- an instant from 1970 to 9999 is a moment
pub moment_at-moment : (n : ℕ) → n ≤ greatest_moment → moment_at (pos n) ≡ Some (Some n)
unfolding moment_at
moment_at-moment n h = rw first_day (grind (arith, ints, nat_tests))

-- a later one is none
pub moment_at-later : (n : ℕ) → greatest_moment < n → moment_at (pos n) ≡ None
unfolding moment_at
moment_at-later n h = rw first_day (grind (arith, ints, nat_tests))

-- nor is another one before 1970
pub moment_at-earlier : (z : ℤ) → z ≢ negsuc 62_135_596_799_999 → z <ℤ pos 0 → moment_at z ≡ None
unfolding moment_at
moment_at-earlier z h k = rw first_day (grind (arith, ints, nat_tests))

-- what a cast to an unsigned number tells of a signed one
pub unsigned_is : (z : ℤ) (n : ℕ) → FitsUnsignedBits 64 z → n ≡ unsigned_abs z → z ≡ pos n
unsigned_is (pos m) n fits e = ap pos (sym e)
unsigned_is (negsuc m) n fits e = absurd fits

-- one that no unsigned number is, is negative
pub negative_is : (z : ℤ) → FitsSigned w64 z → ¬ FitsUnsignedBits 64 z → z <ℤ pos 0
negative_is (pos m) fits h = absurd (h (omega (arith, ints)))
negative_is (negsuc m) fits h = omega (arith, ints)
