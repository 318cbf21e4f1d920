-- The date-time of RFC 3339 section 5.6. Its seconds go to 59, and its fraction has at most nine digits.
use Rattle.std.specs.Prelude.{◌≡◌, ℕ, ◌+◌, ◌-◌, ◌*◌, ◌≤◌, ◌⊎◌, List, [], ◌∷◌, ◌++◌, length, IsTrue, ℤ, pos, neg_ℤ, ◌+ℤ◌, ◌-ℤ◌, ◌*ℤ◌}
use Rattle.std.specs.List.{list_all}
use Rattle.std.specs.Char.{is_ascii_digit}
use Rattle.jiff_core.specs.Calendar.{days_from_civil, IsCivilDate}
use Rattle.jiff_fmt.specs.Text.{pad2, pad4}
use Rattle.am_text.specs.Moment.{day_length}

-- how far local time is from UTC: a letter for not at all, or hours and minutes ahead or behind
pub data Offset : Type 0 where
  utc : ℕ → Offset
  ahead : ℕ → ℕ → Offset
  behind : ℕ → ℕ → Offset

-- a date-time, with the letter before its time and the digits of its fraction as bytes
pub record DateTime : Type 0 where
  pub year : ℕ
  pub month : ℕ
  pub day : ℕ
  pub letter : ℕ
  pub hour : ℕ
  pub minute : ℕ
  pub second : ℕ
  pub fraction : List ℕ
  pub offset : Offset

-- the letter is `Z` or `z`, or the hours and minutes are those of a day
abbrev pub IsOffset : Offset → Type 0
IsOffset (utc letter) = (letter ≡ 90) ⊎ (letter ≡ 122)
IsOffset (ahead hour minute) = (hour ≤ 23) × (minute ≤ 59)
IsOffset (behind hour minute) = (hour ≤ 23) × (minute ≤ 59)

-- the calendar and a clock have it
pub record IsDateTime (d : DateTime) : Type 0 where
  pub date : IsCivilDate (pos d.year) d.month d.day
  pub letter : (d.letter ≡ 84) ⊎ (d.letter ≡ 116)
  pub hour : d.hour ≤ 23
  pub minute : d.minute ≤ 59
  pub second : d.second ≤ 59
  pub digits : IsTrue (list_all is_ascii_digit d.fraction)
  pub places : length d.fraction ≤ 9
  pub offset : IsOffset d.offset

-- a dot and the digits, if there are any
abbrev pub fraction_text : List ℕ → List ℕ
fraction_text [] = []
fraction_text (digit ∷ digits) = 46 ∷ digit ∷ digits

-- `Z`, `+01:00` or `-01:00`
abbrev pub offset_text : Offset → List ℕ
offset_text (utc letter) = letter ∷ []
offset_text (ahead hour minute) = 43 ∷ pad2 hour ++ 58 ∷ pad2 minute
offset_text (behind hour minute) = 45 ∷ pad2 hour ++ 58 ∷ pad2 minute

-- `1985-04-12T23:20:50.52Z`
abbrev pub date_time_text : DateTime → List ℕ
date_time_text d =
    pad4 d.year ++ 45 ∷ pad2 d.month ++ 45 ∷ pad2 d.day ++ d.letter ∷ pad2 d.hour
    ++ 58 ∷ pad2 d.minute ++ 58 ∷ pad2 d.second
    ++ fraction_text d.fraction ++ offset_text d.offset

-- the milliseconds of a fraction: its first three digits, where a missing one is 0
abbrev pub fraction_milliseconds : List ℕ → ℕ
fraction_milliseconds [] = 0
fraction_milliseconds (a ∷ []) = (a - 48) * 100
fraction_milliseconds (a ∷ b ∷ []) = (a - 48) * 100 + (b - 48) * 10
fraction_milliseconds (a ∷ b ∷ c ∷ finer) = (a - 48) * 100 + (b - 48) * 10 + (c - 48)

-- by how many milliseconds local time is ahead of UTC
abbrev pub offset_milliseconds : Offset → ℤ
offset_milliseconds (utc letter) = pos 0
offset_milliseconds (ahead hour minute) = pos ((hour * 60 + minute) * 60_000)
offset_milliseconds (behind hour minute) = neg_ℤ (pos ((hour * 60 + minute) * 60_000))

-- the milliseconds since midnight on the clock that it shows
abbrev pub clock_milliseconds : DateTime → ℕ
clock_milliseconds d =
    (d.hour * 3600 + d.minute * 60 + d.second) * 1000 + fraction_milliseconds d.fraction

-- the instant in milliseconds since 1970-01-01T00:00:00Z
abbrev pub instant : DateTime → ℤ
instant d =
    days_from_civil (pos d.year) d.month d.day *ℤ pos day_length
    +ℤ pos (clock_milliseconds d) -ℤ offset_milliseconds d.offset

-- the text is that of the date-time
abbrev pub Spells : List ℕ → DateTime → Type 0
Spells text d = IsDateTime d × (text ≡ date_time_text d)

-- the form that is printed: `T`, three digits of a fraction and `Z`
pub record IsUtc (d : DateTime) : Type 0 where
  pub letter : d.letter ≡ 84
  pub places : length d.fraction ≡ 3
  pub offset : d.offset ≡ utc 90

-- the text is that of the instant so many milliseconds after 1970-01-01T00:00:00Z, in the form that is printed
abbrev pub IsUtcText : ℕ → List ℕ → Type 0
IsUtcText n text = (d : DateTime) × Spells text d × IsUtc d × (instant d ≡ pos n)
