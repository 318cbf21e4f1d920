-- The text that jiff prints of a clock at UTC is that of the moment.
use Rattle.std.proofs.Common.{◌≡◌, ℕ, ◌+◌, ◌*◌, ◌/◌, ◌%◌, ◌≤◌, [], ◌∷◌, ◌++◌, Some, false, refl, sym, ◌∙◌, arith, pos, ◌*ℤ◌, ◌+ℤ◌, ℤ, to_z, w64}
use Rattle.jiff_core.specs.declared.civil.date.Date.{Date}
use Rattle.jiff_core.specs.declared.civil.time.Time.{Time}
use Rattle.jiff_core.specs.declared.civil.datetime.DateTime.{DateTime}
use Rattle.jiff_core.specs.Date.{epoch_day, IsYmd}
use Rattle.jiff_core.specs.Time.{time_nanos}
use Rattle.jiff_core.specs.DateTime.{civil_nanos, IsCivilNanos}
use Rattle.jiff_core.proofs.SignedLemmas.{signed_arith, signed_casts}
use Rattle.jiff_core.proofs.CalendarLemmas.{days_from_civil-day_count, day_count-epoch}
use Rattle.jiff_core.proofs.DateLemmas.{epoch_day_injective}
use Rattle.jiff_core.proofs.DateTimeLemmas.{civil_nanos-parts, time_nanos_bound}
use Rattle.jiff_fmt.specs.Text.{datetime_text, places}
use Rattle.am_text.specs.Moment.{greatest_moment}
use Rattle.am_text.specs.Printing.{year_of, month_of, utc_date_time, moment_text}
use Rattle.am_text.proofs.CountLemmas.{date_found}

-- 1970-01-01T00:00:00 shows no nanoseconds
epoch_nanos : (dt : DateTime) (d : Date) (t : Time) → dt.date ≡ d → dt.time ≡ t → IsYmd (pos 1970) (pos 1) (pos 1) d → time_nanos t ≡ 0 → civil_nanos dt ≡ pos 0
epoch_nanos dt d t date time (year, month, day) midnight =
    let first : d.month ≡ 1 = omega (arith, signed_arith) in
    let also : d.day ≡ 1 = omega (arith, signed_arith) in
    let none : epoch_day d ≡ pos 0 = rw (year, first, also) (omega (arith, signed_arith, days_from_civil-day_count (pos 1970) 1 1, day_count-epoch)) in
    civil_nanos-parts dt ∙ rw (date, time, none, midnight) refl

-- n milliseconds later it shows n milliseconds
pub sum_is : (dt : DateTime) (d : Date) (t : Time) (nanos : ℤ) (r n : ℕ) → dt.date ≡ d → dt.time ≡ t → IsYmd (pos 1970) (pos 1) (pos 1) d → time_nanos t ≡ 0
    → nanos ≡ to_z w64 r *ℤ pos 1_000_000 → r ≡ n → r ≤ greatest_moment → civil_nanos dt +ℤ nanos ≡ pos n *ℤ pos 1_000_000
sum_is dt d t nanos r n date time ymd midnight is same bound =
    let zero_nanos = epoch_nanos dt d t date time ymd midnight in
    omega (arith, signed_casts)

-- and the library has that
pub sum_fits : (sum : ℤ) (n : ℕ) → n ≤ greatest_moment → sum ≡ pos n *ℤ pos 1_000_000 → IsCivilNanos sum
sum_fits sum n bound e = omega (arith, signed_arith)

-- the date with a day number is the one that is found by counting
date_is : (d : Date) (n : ℕ) → n ≤ 2_932_896 → epoch_day d ≡ pos n → (d.year ≡ pos (year_of n).0) × (d.month ≡ (month_of n).0) × (d.day ≡ (month_of n).1 + 1)
date_is d n h e =
    let found = date_found n h in
    let other : Date = record { year = pos (year_of n).0; month = (month_of n).0; day = (month_of n).1 + 1; year_in = found.0.0; month_in = found.0.1; day_in = found.0.2 } in
    epoch_day_injective d other (e ∙ sym found.1)

-- the days and the time of day of a clock that shows n milliseconds
clock_is : (dt : DateTime) (n : ℕ) → civil_nanos dt ≡ pos n *ℤ pos 1_000_000 → (epoch_day dt.date ≡ pos (n / 86_400_000)) × (time_nanos dt.time ≡ n % 86_400_000 * 1_000_000)
clock_is dt n e =
    let whole = sym (civil_nanos-parts dt) ∙ e in
    let within = time_nanos_bound dt.time in
    (omega (arith, signed_arith), omega (arith, signed_arith))

-- its hour, minute, second and milliseconds
time_is : (t : Time) (n : ℕ) → time_nanos t ≡ n % 86_400_000 * 1_000_000 → (t.hour ≡ n / 3_600_000 % 24) × (t.minute ≡ n / 60_000 % 60) × (t.second ≡ n / 1000 % 60) × (t.subsec_nanosecond ≡ n % 1000 * 1_000_000)
time_is t n e = (omega arith, omega arith, omega arith, omega arith)

-- the three places of a fraction
places_are : (n : ℕ) → places 3 1_000_000_000 (n % 1000 * 1_000_000) ≡ (48 + n % 1000 / 100) ∷ (48 + n % 100 / 10) ∷ (48 + n % 10) ∷ []
unfolding places
places_are n =
    let a : n % 1000 * 1_000_000 / 100_000_000 ≡ n % 1000 / 100 = omega arith in
    let b : n % 1000 * 1_000_000 % 100_000_000 / 10_000_000 ≡ n % 100 / 10 = omega arith in
    let c : n % 1000 * 1_000_000 % 100_000_000 % 10_000_000 / 1_000_000 ≡ n % 10 = omega arith in
    rw (a, b, c) refl

-- the text is that of the moment
pub datetime_text-moment_text : (dt : DateTime) (n : ℕ) → n ≤ greatest_moment → civil_nanos dt ≡ pos n *ℤ pos 1_000_000 → datetime_text false 84 (Some 3) dt ++ 90 ∷ [] ≡ moment_text n
unfolding moment_text utc_date_time
datetime_text-moment_text dt n h e =
    let clock = clock_is dt n e in
    let date = date_is dt.date (n / 86_400_000) (omega arith) clock.0 in
    let time = time_is dt.time n clock.1 in
    rw (date.0, date.1, date.2, time.0, time.1, time.2, time.3, places_are n) refl
