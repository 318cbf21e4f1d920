-- Dates that the calendar has.
use Rattle.std.proofs.Common.{◌≡◌, ℕ, Some, ℤ, pos, arith, sym, ap, subst}
use Rattle.std.proofs.lemmas.Bool.Decides.{nat_tests}
use Rattle.jiff_core.specs.declared.civil.date.Date.{Date}
use Rattle.jiff_core.specs.Calendar.{IsCivilDate, days_from_civil}
use Rattle.jiff_core.specs.Date.{epoch_day}
use Rattle.jiff_core.proofs.DateLemmas.{civil}
use Rattle.am_text.specs.Reading.{day_number}

-- a date that the calendar has, has its day number
pub day_number-some : (y m d : ℕ) → IsCivilDate (pos y) m d → day_number y m d ≡ Some (days_from_civil (pos y) m d)
day_number-some y m d (year, month, day) = grind (arith, nat_tests)

-- the same of a date of jiff
pub day_number-date : (date : Date) (y m d : ℕ) (r : ℤ) → date.year ≡ pos y → date.month ≡ m → date.day ≡ d → r ≡ epoch_day date → Some r ≡ day_number y m d
day_number-date date y m d r year month day is =
    let whole = subst (λ (z : ℤ). IsCivilDate z date.month date.day) year (civil date) in
    let same : epoch_day date ≡ days_from_civil (pos y) date.month date.day = ap (λ (z : ℤ). days_from_civil z date.month date.day) year in
    rw (is, same, ← month, ← day) (sym (day_number-some y date.month date.day whole))
