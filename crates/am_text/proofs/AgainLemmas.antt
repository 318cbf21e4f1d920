-- What is written is read again, whatever follows it.
use Rattle.std.proofs.Common.{◌≡◌, ℕ, ◌+◌, ◌-◌, ◌*◌, ◌/◌, ◌%◌, ◌<◌, ◌≤◌, ◌⊎◌, inl, inr, ◌&&◌, nat_le, true, List, [], ◌∷◌, ◌++◌, length, take_at, drop_at, Some, refl, arith, pos}
use Rattle.std.proofs.lemmas.Bool.{and_parts, lt-ltb}
use Rattle.std.proofs.lemmas.Bool.Decides.{nat_tests}
use Rattle.std.specs.Char.{is_ascii_digit}
use Rattle.std.specs.List.{list_all, prefix_len}
use Rattle.jiff_core.specs.Calendar.{IsCivilDate, days_from_civil}
use Rattle.jiff_core.proofs.SignedLemmas.{signed_arith}
use Rattle.jiff_core.proofs.CalendarLemmas.{days_in_month_bounds}
use Rattle.jiff_fmt.specs.Text.{pad2, pad4}
use Rattle.am_text.specs.DateTime.{Offset, utc, ahead, behind, DateTime, IsOffset, IsDateTime, fraction_text, offset_text, date_time_text, fraction_milliseconds, offset_milliseconds, instant}
use Rattle.am_text.specs.Reading.{two_at, four_at, below_at, after_letter, date_at, clock_at, fraction_at, distance_of, offset_of, instant_of}
use Rattle.am_text.proofs.CalendarLemmas.{day_number-some}

-- two digits
two_again : (n : ℕ) (rest : List ℕ) → n < 100 → two_at (pad2 n ++ rest) ≡ Some (n, rest)
unfolding two_at
two_again n rest h =
    let digits : (is_ascii_digit (48 + n / 10) && is_ascii_digit (48 + n % 10)) ≡ true = grind (arith, nat_tests) in
    let value : (48 + n / 10 - 48) * 10 + (48 + n % 10 - 48) ≡ n = omega arith in
    rw (digits, value) refl

-- four digits
four_again : (n : ℕ) (rest : List ℕ) → n < 10_000 → four_at (pad4 n ++ rest) ≡ Some (n, rest)
unfolding four_at
four_again n rest h =
    let value : n / 100 * 100 + n % 100 ≡ n = omega arith in
    rw (two_again (n / 100) (pad2 (n % 100) ++ rest) (omega arith), two_again (n % 100) rest (omega arith), value) refl

-- two digits of a number below the limit
below_again : (limit n : ℕ) (rest : List ℕ) → n < limit → limit ≤ 100 → below_at limit (pad2 n ++ rest) ≡ Some (n, rest)
unfolding below_at
below_again limit n rest h k = rw (two_again n rest (omega arith), lt-ltb n limit h) refl

-- a date that the calendar has
date_again : (y m d : ℕ) (rest : List ℕ) → IsCivilDate (pos y) m d → date_at (pad4 y ++ 45 ∷ pad2 m ++ 45 ∷ pad2 d ++ rest) ≡ Some (days_from_civil (pos y) m d, rest)
unfolding date_at
date_again y m d rest date =
    let year : y < 10_000 = omega (arith, signed_arith, date.0) in
    let day : d < 100 = omega (arith, date.2, days_in_month_bounds (pos y) m) in
    let month : m < 100 = omega (arith, date.1) in
    rw (four_again y (45 ∷ pad2 m ++ 45 ∷ pad2 d ++ rest) year, two_again m (45 ∷ pad2 d ++ rest) month, two_again d rest day, day_number-some y m d date) refl

-- a time of day
clock_again : (h m s : ℕ) (rest : List ℕ) → h ≤ 23 → m ≤ 59 → s ≤ 59 → clock_at (pad2 h ++ 58 ∷ pad2 m ++ 58 ∷ pad2 s ++ rest) ≡ Some (h * 3600 + m * 60 + s, rest)
unfolding clock_at
clock_again h m s rest hour minute second =
    rw (below_again 24 h (58 ∷ pad2 m ++ 58 ∷ pad2 s ++ rest) (omega arith) (omega arith), below_again 60 m (58 ∷ pad2 s ++ rest) (omega arith) (omega arith), below_again 60 s rest (omega arith) (omega arith)) refl

-- the letter before a time
letter_again : (letter : ℕ) (rest : List ℕ) → (letter ≡ 84) ⊎ (letter ≡ 116) → after_letter (letter ∷ rest) ≡ Some rest
letter_again letter rest (inl e) = rw e refl
letter_again letter rest (inr e) = rw e refl

-- hours and minutes
distance_again : (h m : ℕ) → h ≤ 23 → m ≤ 59 → distance_of (pad2 h ++ 58 ∷ pad2 m) ≡ Some ((h * 60 + m) * 60_000)
unfolding distance_of
distance_again h m hour minute =
    rw (below_again 24 h (58 ∷ pad2 m) (omega arith) (omega arith), below_again 60 m [] (omega arith) (omega arith)) refl

-- an offset
offset_again : (o : Offset) → IsOffset o → offset_of (offset_text o) ≡ Some (offset_milliseconds o)
unfolding offset_of
offset_again (utc letter) (inl e) = rw e refl
offset_again (utc letter) (inr e) = rw e refl
offset_again (ahead hour minute) h = rw (distance_again hour minute h.0 h.1) refl
offset_again (behind hour minute) h = rw (distance_again hour minute h.0 h.1) refl

-- an offset begins with no digit
no_digit : (o : Offset) → IsOffset o → prefix_len is_ascii_digit (offset_text o) ≡ 0
no_digit (utc letter) (inl e) = rw e refl
no_digit (utc letter) (inr e) = rw e refl
no_digit (ahead hour minute) h = refl
no_digit (behind hour minute) h = refl

-- and with no dot
no_fraction : (o : Offset) → IsOffset o → fraction_at (offset_text o) ≡ Some (0, offset_text o)
no_fraction (utc letter) (inl e) = rw e refl
no_fraction (utc letter) (inr e) = rw e refl
no_fraction (ahead hour minute) h = refl
no_fraction (behind hour minute) h = refl

-- digits before something else are counted
pub digits_counted : (ds rest : List ℕ) → list_all is_ascii_digit ds ≡ true → prefix_len is_ascii_digit rest ≡ 0 → prefix_len is_ascii_digit (ds ++ rest) ≡ length ds
digits_counted [] rest all none = none
digits_counted (d ∷ ds) rest all none =
    let parts = and_parts (is_ascii_digit d) (list_all is_ascii_digit ds) all in
    rw (parts.0, digits_counted ds rest parts.1 none) (omega arith)

-- a fraction, before the offset
fraction_again : (ds : List ℕ) (o : Offset) → list_all is_ascii_digit ds ≡ true → length ds ≤ 9 → IsOffset o → fraction_at (fraction_text ds ++ offset_text o) ≡ Some (fraction_milliseconds ds, offset_text o)
fraction_again [] o all few h = no_fraction o h
fraction_again (d ∷ ds) o all few h =
    let count = digits_counted (d ∷ ds) (offset_text o) all (no_digit o h) in
    let test : (nat_le 1 (length (d ∷ ds)) && nat_le (length (d ∷ ds)) 9) ≡ true = grind (arith, nat_tests) in
    rw (count, test, take_at ds (offset_text o) (length ds) refl, drop_at ds (offset_text o) (length ds) refl) refl

-- the text of a date-time gives its instant
pub instant_again : (d : DateTime) → IsDateTime d → instant_of (date_time_text d) ≡ Some (instant d)
unfolding instant_of
instant_again d h =
    let end = fraction_text d.fraction ++ offset_text d.offset in
    let clock = pad2 d.hour ++ 58 ∷ pad2 d.minute ++ 58 ∷ pad2 d.second ++ end in
    rw (date_again d.year d.month d.day (d.letter ∷ clock) h.date, letter_again d.letter clock h.letter, clock_again d.hour d.minute d.second end h.hour h.minute h.second, fraction_again d.fraction d.offset h.digits h.places h.offset, offset_again d.offset h.offset) refl
