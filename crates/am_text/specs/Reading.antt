-- Reads a text from left to right: each field gives a value and the text after it.
use Rattle.std.specs.Prelude.{ℕ, ◌+◌, ◌-◌, ◌*◌, ◌&&◌, ◌||◌, ◌==◌, List, [], ◌∷◌, length, take, drop, nat_lt, nat_le, Option, Some, None, if◌then◌else◌, ℤ, pos, neg_ℤ, ◌+ℤ◌, ◌-ℤ◌, ◌*ℤ◌}
use Rattle.std.specs.List.{prefix_len}
use Rattle.std.specs.Char.{is_ascii_digit}
use Rattle.jiff_core.specs.Calendar.{days_from_civil, days_in_month}
use Rattle.am_text.specs.Moment.{moment_at, day_length}
use Rattle.am_text.specs.DateTime.{fraction_milliseconds}

infixl 10 ◌>>=◌
abbrev pub ◌>>=◌ : {A B : Type 0} → Option A → (A → Option B) → Option B
None >>= f = None
(Some x) >>= f = f x

-- two digits
unfoldable pub two_at : List ℕ → Option (ℕ × List ℕ)
two_at (tens ∷ ones ∷ rest) =
    if is_ascii_digit tens && is_ascii_digit ones
    then Some ((tens - 48) * 10 + (ones - 48), rest) else None
two_at _ = None

-- four digits
unfoldable pub four_at : List ℕ → Option (ℕ × List ℕ)
four_at text = do
  century ← two_at text
  year ← two_at century.1
  Some (century.0 * 100 + year.0, year.1)

-- two digits of a number below the limit
unfoldable pub below_at : ℕ → List ℕ → Option (ℕ × List ℕ)
below_at limit text = do
  number ← two_at text
  if nat_lt number.0 limit then Some number else None

-- the text after this byte
abbrev pub after_byte : ℕ → List ℕ → Option (List ℕ)
after_byte byte [] = None
after_byte byte (first ∷ rest) = if first == byte then Some rest else None

-- the text after `T` or `t`
abbrev pub after_letter : List ℕ → Option (List ℕ)
after_letter [] = None
after_letter (first ∷ rest) = if (first == 84) || (first == 116) then Some rest else None

-- the day number of a date that the calendar has
abbrev pub day_number : ℕ → ℕ → ℕ → Option ℤ
day_number year month day =
    if nat_le 1 month && nat_le month 12 && nat_le 1 day && nat_le day (days_in_month (pos year) month)
    then Some (days_from_civil (pos year) month day) else None

-- a date, as its day number
unfoldable pub date_at : List ℕ → Option (ℤ × List ℕ)
date_at text = do
  year ← four_at text
  rest ← after_byte 45 year.1
  month ← two_at rest
  rest ← after_byte 45 month.1
  day ← two_at rest
  number ← day_number year.0 month.0 day.0
  Some (number, day.1)

-- a time of day without its fraction, in seconds
unfoldable pub clock_at : List ℕ → Option (ℕ × List ℕ)
clock_at text = do
  hour ← below_at 24 text
  rest ← after_byte 58 hour.1
  minute ← below_at 60 rest
  rest ← after_byte 58 minute.1
  second ← below_at 60 rest
  Some (hour.0 * 3600 + minute.0 * 60 + second.0, second.1)

-- the digits of a fraction, which are one to nine, as milliseconds
abbrev pub digits_at : List ℕ → Option (ℕ × List ℕ)
digits_at text =
    let places = prefix_len is_ascii_digit text in
    if nat_le 1 places && nat_le places 9
    then Some (fraction_milliseconds (take places text), drop places text) else None

-- the fraction, if a dot stands there, in milliseconds
abbrev pub fraction_at : List ℕ → Option (ℕ × List ℕ)
fraction_at [] = Some (0, [])
fraction_at (first ∷ rest) = if first == 46 then digits_at rest else Some (0, first ∷ rest)

-- hours and minutes with nothing after them, in milliseconds
unfoldable pub distance_of : List ℕ → Option ℕ
distance_of text = do
  hour ← below_at 24 text
  rest ← after_byte 58 hour.1
  minute ← below_at 60 rest
  if length minute.1 == 0 then Some ((hour.0 * 60 + minute.0) * 60_000) else None

-- the offset that is the whole text, in milliseconds
unfoldable pub offset_of : List ℕ → Option ℤ
offset_of [] = None
offset_of (first ∷ rest) =
    if first == 43 then distance_of rest >>= (λ distance. Some (pos distance))
    else (if first == 45 then distance_of rest >>= (λ distance. Some (neg_ℤ (pos distance)))
    else (if ((first == 90) || (first == 122)) && (length rest == 0) then Some (pos 0) else None))

-- the instant of a date-time
unfoldable pub instant_of : List ℕ → Option ℤ
instant_of text = do
  date ← date_at text
  rest ← after_letter date.1
  clock ← clock_at rest
  fraction ← fraction_at clock.1
  offset ← offset_of fraction.1
  Some (date.0 *ℤ pos day_length +ℤ pos (clock.0 * 1000 + fraction.0) -ℤ offset)

-- the moment of a text: none, the absent one, or milliseconds since 1970
unfoldable pub moment_of : List ℕ → Option (Option ℕ)
moment_of text = instant_of text >>= moment_at
