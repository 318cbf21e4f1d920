-- The text of a moment, by the date that counting off whole years and then whole months finds.
use Rattle.std.specs.Prelude.{ℕ, zero, suc, ◌+◌, ◌-◌, ◌/◌, ◌%◌, nat_lt, if◌then◌else◌, pos, List, [], ◌∷◌}
use Rattle.jiff_core.specs.Calendar.{days_in_year, days_in_month}
use Rattle.am_text.specs.Moment.{day_length}
use Rattle.am_text.specs.DateTime.{DateTime, utc, date_time_text}

-- the year that holds the day so many days after the first of a year, and the days before it in that year
unfoldable pub count_years : ℕ → ℕ → ℕ → ℕ × ℕ
count_years zero year days = (year, days)
count_years (suc more) year days =
    if nat_lt days (days_in_year (pos year)) then (year, days)
    else count_years more (year + 1) (days - days_in_year (pos year))

-- the same of the months of a year
unfoldable pub count_months : ℕ → ℕ → ℕ → ℕ → ℕ × ℕ
count_months zero year month days = (month, days)
count_months (suc more) year month days =
    if nat_lt days (days_in_month (pos year) month) then (month, days)
    else count_months more year (month + 1) (days - days_in_month (pos year) month)

-- the year of the day so many days after 1970-01-01, and the days before it in that year
unfoldable pub year_of : ℕ → ℕ × ℕ
year_of days = count_years days 1970 days

-- the month of that day, and the days before it in that month
unfoldable pub month_of : ℕ → ℕ × ℕ
month_of days = count_months 12 (year_of days).0 1 (year_of days).1

-- what a clock at UTC shows so many milliseconds after 1970-01-01T00:00:00Z, with three digits of a fraction
unfoldable pub utc_date_time : ℕ → DateTime
utc_date_time n =
    let days = n / day_length in
    record {
      year = (year_of days).0;
      month = (month_of days).0;
      day = (month_of days).1 + 1;
      letter = 84;
      hour = n / 3_600_000 % 24;
      minute = n / 60_000 % 60;
      second = n / 1000 % 60;
      fraction = (48 + n % 1000 / 100) ∷ (48 + n % 100 / 10) ∷ (48 + n % 10) ∷ [];
      offset = utc 90;
    }

-- `2025-06-15T15:06:40.000Z`
unfoldable pub moment_text : ℕ → List ℕ
moment_text n = date_time_text (utc_date_time n)
