-- Moments: milliseconds since 1970-01-01T00:00:00Z. An instant is one too, but may lie before that.
use Rattle.std.specs.Prelude.{ℕ, ◌&&◌, if◌then◌else◌, Option, Some, None, ℤ, pos, ◌*ℤ◌, unsigned_abs, int_le}
use Rattle.std.specs.Ordering.{int_eq}
use Rattle.jiff_core.specs.Calendar.{days_from_civil}

-- 9999-12-31T23:59:59.999Z
abbrev pub greatest_moment : ℕ
greatest_moment = 253_402_300_799_999

-- the milliseconds of a day
abbrev pub day_length : ℕ
day_length = 86_400_000

-- 0001-01-01T00:00:00Z, which is written where there is no moment
abbrev pub absent_instant : ℤ
absent_instant = days_from_civil (pos 1) 1 1 *ℤ pos day_length

-- what an instant counts as: no moment, the absent one, or one from 1970 to 9999
unfoldable pub moment_at : ℤ → Option (Option ℕ)
moment_at instant =
    if int_eq instant absent_instant then Some None
    else (if int_le (pos 0) instant && int_le instant (pos greatest_moment)
    then Some (Some (unsigned_abs instant)) else None)
