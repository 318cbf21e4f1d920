-- Durations: whole numbers of units, from years down to milliseconds; and why a text is refused as one or as a moment.
use Rattle.std.specs.Prelude.{◌≡◌, ◌<◌, ◌⊎◌, ℕ, ◌+◌, ◌*◌, ◌&&◌, ◌==◌, min, nat_lt, nat_le, not, Bool, List, [], ◌∷◌, ◌++◌, length, take, drop, All, codes, bytes_eq, Result, Ok, Err, if◌then◌else◌}
use Rattle.std.specs.List.{prefix_len}
use Rattle.std.specs.Char.{is_ascii_digit}
use Rattle.std.specs.Str.Parse.{IsNumeral, digits_value}
use Rattle.am_text.specs.declared.duration.TimeUnit.{TimeUnit}
use Rattle.am_text.specs.declared.duration.TimeUnit.TheVariants.{Year, Week, Day, Hour, Minute, Second, Millisecond}
use Rattle.am_text.specs.declared.refusal.TextRefusal.{TextRefusal}
use Rattle.am_text.specs.declared.refusal.TextRefusal.TheVariants.{NotAMoment, NotADuration, OutOfRange}

-- the units, in the order in which they may stand
abbrev pub units : List TimeUnit
units = Year ∷ Week ∷ Day ∷ Hour ∷ Minute ∷ Second ∷ Millisecond ∷ []

-- how a unit is written
abbrev pub letters_of : TimeUnit → List ℕ
letters_of Year = codes "y"
letters_of Week = codes "w"
letters_of Day = codes "d"
letters_of Hour = codes "h"
letters_of Minute = codes "m"
letters_of Second = codes "s"
letters_of Millisecond = codes "ms"

-- how long it is: a year has 365 days, a week 7
abbrev pub milliseconds_of : TimeUnit → ℕ
milliseconds_of Year = 31_536_000_000
milliseconds_of Week = 604_800_000
milliseconds_of Day = 86_400_000
milliseconds_of Hour = 3_600_000
milliseconds_of Minute = 60_000
milliseconds_of Second = 1000
milliseconds_of Millisecond = 1

-- 100 years, the longest that is taken
abbrev pub longest_duration : ℕ
longest_duration = 3_153_600_000_000

-- one number of a duration as it is written: its digits, and the unit
pub record Part : Type 0 where
  pub digits : List ℕ
  pub unit : TimeUnit

-- one digit or more, and nothing else
abbrev pub IsPart : Part → Type 0
IsPart part = IsNumeral 10 part.digits

-- `30m`
abbrev pub part_text : Part → List ℕ
part_text part = part.digits ++ letters_of part.unit

-- `1h30m`
abbrev pub parts_text : List Part → List ℕ
parts_text [] = []
parts_text (part ∷ later) = part_text part ++ parts_text later

-- their milliseconds
abbrev pub milliseconds_in : List Part → ℕ
milliseconds_in [] = 0
milliseconds_in (part ∷ later) = digits_value 10 part.digits * milliseconds_of part.unit + milliseconds_in later

-- their units are some of these, in the same order and each at most once
abbrev pub AreInOrder : List TimeUnit → List Part → Type 0
AreInOrder _ [] = Unit {0}
AreInOrder [] (part ∷ later) = ⊥
AreInOrder (unit ∷ others) (part ∷ later) =
    ((part.unit ≡ unit) × AreInOrder others later) ⊎ AreInOrder others (part ∷ later)

-- the text is that of the parts: one or more, with their units in order
pub record SpellsParts (text : List ℕ) (parts : List Part) : Type 0 where
  pub some : 0 < length parts
  pub digits : All IsPart parts
  pub order : AreInOrder units parts
  pub spelled : text ≡ parts_text parts

-- so many milliseconds, or that they are too many
abbrev pub within_range : ℕ → Result ℕ TextRefusal
within_range n = if nat_le n longest_duration then Ok n else Err OutOfRange

-- how many bytes stand before the first digit
abbrev pub letter_count : List ℕ → ℕ
letter_count text = prefix_len (λ byte. not (is_ascii_digit byte)) text

-- the digits at the front, and what follows them
abbrev pub digits_at : List ℕ → List ℕ × List ℕ
digits_at text = let count = prefix_len is_ascii_digit text in (take count text, drop count text)

-- the bytes up to the next digit, and what follows them
abbrev pub letters_at : List ℕ → List ℕ × List ℕ
letters_at text = (take (letter_count text) text, drop (letter_count text) text)

-- whether a number of this unit stands at the front
abbrev pub has_part : TimeUnit → List ℕ → Bool
has_part unit text =
    nat_lt 0 (length (digits_at text).0) && bytes_eq (letters_at (digits_at text).1).0 (letters_of unit)

-- a number of this unit, if one stands at the front: its milliseconds, and what follows it
unfoldable pub part_at : TimeUnit → List ℕ → ℕ × List ℕ
part_at unit text =
    if has_part unit text
    then (digits_value 10 (digits_at text).0 * milliseconds_of unit, (letters_at (digits_at text).1).1)
    else (0, text)

-- at most one number of each of these units, in their order: their milliseconds, and what follows them
unfoldable pub parts_at : List TimeUnit → List ℕ → ℕ × List ℕ
parts_at [] text = (0, text)
parts_at (unit ∷ later) text =
    let part = part_at unit text in
    (part.0 + (parts_at later part.1).0, (parts_at later part.1).1)

-- the milliseconds of parts that are the whole text
abbrev pub whole : ℕ × List ℕ → Result ℕ TextRefusal
whole parts = if length parts.1 == 0 then within_range parts.0 else Err NotADuration

-- the milliseconds of a duration, or why the text is none
abbrev pub duration : List ℕ → Result ℕ TextRefusal
duration text =
    if bytes_eq text (codes "0") then Ok 0
    else (if length text == 0 then Err NotADuration else whole (parts_at units text))

-- the number, or the greatest of 64 bits where it is greater
abbrev pub at_most_64_bits : ℕ → ℕ
at_most_64_bits n = min n 18_446_744_073_709_551_615

-- the code that a refusal carries
abbrev pub code_of : TextRefusal → List ℕ
code_of NotAMoment = codes "Tx1"
code_of NotADuration = codes "Tx2"
code_of OutOfRange = codes "Tx3"
