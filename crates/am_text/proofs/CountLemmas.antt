-- Counting off years and months finds the date of a day number.
use Rattle.std.proofs.Common.{◌≡◌, ℕ, zero, suc, ◌+◌, ◌-◌, ◌<◌, ◌≤◌, inl, inr, refl, ◌∙◌, arith, pos}
use Rattle.std.proofs.lemmas.Bool.{cases_lt, lt-ltb, le-ltb}
use Rattle.jiff_core.specs.Calendar.{days_in_year, days_in_month, days_of_months, day_count, days_from_civil, IsCivilDate}
use Rattle.jiff_core.proofs.SignedLemmas.{signed_arith}
use Rattle.jiff_core.proofs.CalendarLemmas.{days_in_year_bounds, day_count-next_year, day_count-later_year, day_count-end, day_count-epoch, day_count-day_of_year, days_of_months-zero, days_of_months_more, days_of_months_all, days_from_civil-day_count}
use Rattle.am_text.specs.Printing.{count_years, count_months, year_of, month_of}

-- r is the year of the day that comes so many days after the first of the year y, and the days before it in that year
record IsYearOf (y days : ℕ) (r : ℕ × ℕ) : Type 0 where
  later : y ≤ r.0
  within : r.1 < days_in_year (pos r.0)
  same : day_count (pos r.0) 1 1 + r.1 ≡ day_count (pos y) 1 1 + days

-- it is what counting off years gives
count_years_is : (more y days : ℕ) → days ≤ more → IsYearOf y days (count_years more y days)
unfolding count_years
count_years_is zero y days h =
    record { later = omega arith; within = omega (arith, days_in_year_bounds (pos y)); same = refl }
count_years_is (suc more) y days h =
    elim (cases_lt days (days_in_year (pos y))) [
      | inl lt ↦ rw (lt-ltb days (days_in_year (pos y)) lt) (record { later = omega arith; within = lt; same = refl })
      | inr le ↦
          let long = days_in_year_bounds (pos y) in
          let next = day_count-next_year (pos y) (pos (y + 1)) (omega (arith, signed_arith)) refl in
          let found = count_years_is more (y + 1) (days - days_in_year (pos y)) (omega arith) in
          rw (le-ltb days (days_in_year (pos y)) le)
          (record { later = omega (arith, found.later); within = found.within; same = omega (arith, found.same) })
    ]

-- r is the month of a day of the year y, and the days before it in that month
record IsMonthOf (y days : ℕ) (r : ℕ × ℕ) : Type 0 where
  first : 1 ≤ r.0
  last : r.0 ≤ 12
  within : r.1 < days_in_month (pos y) r.0
  same : days_of_months (pos y) (r.0 - 1) + r.1 ≡ days

-- it is what counting off months gives
count_months_is : (more y m days : ℕ) → more + m ≡ 13 → 1 ≤ m → days_of_months (pos y) (m - 1) + days < days_in_year (pos y)
    → IsMonthOf y (days_of_months (pos y) (m - 1) + days) (count_months more y m days)
unfolding count_months
count_months_is zero y m days e low h =
    let last : m - 1 ≡ 12 = omega arith in
    let long = rw last at h in
    absurd (omega (arith, long, days_of_months_all (pos y)))
count_months_is (suc more) y m days e low h =
    elim (cases_lt days (days_in_month (pos y) m)) [
      | inl lt ↦ rw (lt-ltb days (days_in_month (pos y) m) lt) (record { first = low; last = omega arith; within = lt; same = refl })
      | inr le ↦
          let back : m + 1 - 1 ≡ m = omega arith in
          let step = days_of_months_more (pos y) m low in
          let sum : days_of_months (pos y) (m + 1 - 1) + (days - days_in_month (pos y) m) ≡ days_of_months (pos y) (m - 1) + days = rw back (omega arith) in
          let found = count_months_is more y (m + 1) (days - days_in_month (pos y) m) (omega arith) (omega arith) (omega arith) in
          rw (le-ltb days (days_in_month (pos y) m) le)
          (record { first = found.first; last = found.last; within = found.within; same = found.same ∙ sum })
    ]

-- the year 10000 and those after it begin past the last day
past : (y : ℕ) → 10_000 ≤ y → 7_304_850 ≤ day_count (pos y) 1 1
past y h =
    elim (cases_lt 10_000 y) [
      | inl lt ↦ omega (arith, day_count-end, day_count-later_year (pos 10_000) (pos y) (omega (arith, signed_arith)) (omega (arith, signed_arith)))
      | inr le ↦ let e : y ≡ 10_000 = omega arith in rw e (omega (arith, day_count-end))
    ]

-- the calendar has the date that is found, and its day number is n
pub date_found : (n : ℕ) → n ≤ 2_932_896 → IsCivilDate (pos (year_of n).0) (month_of n).0 ((month_of n).1 + 1) × (days_from_civil (pos (year_of n).0) (month_of n).0 ((month_of n).1 + 1) ≡ pos n)
unfolding year_of month_of
date_found n h =
    let y = (count_years n 1970 n).0 in
    let days = (count_years n 1970 n).1 in
    let year = count_years_is n 1970 n (omega arith) in
    let zero_days = days_of_months-zero (pos y) in
    let month = count_months_is 12 y 1 days refl (omega arith) (omega (arith, year.within)) in
    let m = (count_months 12 y 1 days).0 in
    let before = (count_months 12 y 1 days).1 in
    let counted = day_count-day_of_year (pos y) m (before + 1) (omega arith) in
    let whole : day_count (pos y) m (before + 1) ≡ 4_371_953 + n = omega (arith, year.same, month.same, day_count-epoch) in
    let high : y ≤ 9999 = elim (cases_lt 9999 y) [
      | inr le ↦ le
      | inl lt ↦ absurd (omega (arith, year.same, day_count-epoch, day_count-end, past y (omega arith)))
    ] in (
      (omega (arith, signed_arith), (month.first, month.last), (omega arith, omega (arith, month.within))),
      omega (arith, signed_arith, days_from_civil-day_count (pos y) m (before + 1)),
    )
