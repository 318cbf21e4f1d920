-- What is printed is read back.
use Rattle.std.proofs.Common.{◌≡◌, ℕ, ◌+◌, ◌/◌, ◌%◌, ◌≤◌, ◌∷◌, [], inl, true, Some, Option, refl, sym, ◌∙◌, arith, ℤ, pos, ok_or, Ok, Result, List}
use Rattle.std.proofs.lemmas.Bool.Decides.{nat_tests}
use Rattle.std.specs.Char.{is_ascii_digit}
use Rattle.std.specs.List.{list_all}
use Rattle.jiff_core.proofs.SignedLemmas.{signed_arith}
use Rattle.am_text.specs.Moment.{greatest_moment, day_length, moment_at}
use Rattle.am_text.specs.DateTime.{DateTime, IsDateTime, IsUtc, IsUtcText, Spells, instant}
use Rattle.am_text.specs.Reading.{instant_of, moment_of}
use Rattle.am_text.specs.Printing.{utc_date_time, moment_text}
use Rattle.am_text.proofs.AgainLemmas.{instant_again}
use Rattle.am_text.proofs.CountLemmas.{date_found}
use Rattle.am_text.proofs.InstantLemmas.{moment_at-moment}
use Rattle.am_text.proofs.TakenLemmas.{instant_taken, then_some}

-- the three digits of a fraction are digits
digits_are : (n : ℕ) → list_all is_ascii_digit ((48 + n % 1000 / 100) ∷ (48 + n % 100 / 10) ∷ (48 + n % 10) ∷ []) ≡ true
digits_are n = grind (arith, nat_tests)

-- the calendar and a clock have what is printed
pub utc_fits : (n : ℕ) → n ≤ greatest_moment → IsDateTime (utc_date_time n)
unfolding utc_date_time
utc_fits n h =
    let found = date_found (n / day_length) (omega arith) in
    record {
      date = found.0;
      letter = inl refl;
      hour = omega arith;
      minute = omega arith;
      second = omega arith;
      digits = digits_are n;
      places = omega arith;
      offset = inl refl;
    }

-- its instant is the moment
pub utc_instant : (n : ℕ) → n ≤ greatest_moment → instant (utc_date_time n) ≡ pos n
unfolding utc_date_time
utc_instant n h =
    let found = date_found (n / day_length) (omega arith) in
    rw found.1 (omega (arith, signed_arith))

-- it is in the form that is printed
pub utc_form : (n : ℕ) → IsUtc (utc_date_time n)
unfolding utc_date_time
utc_form n = record { letter = refl; places = refl; offset = refl }

-- the text of a moment is of the form that is printed
pub moment_text_is : (n : ℕ) → n ≤ greatest_moment → IsUtcText n (moment_text n)
unfolding moment_text
moment_text_is n h = (utc_date_time n, (utc_fits n h, refl), utc_form n, utc_instant n h)

-- and reading it gives the moment
pub moment_of-moment_text : (n : ℕ) → n ≤ greatest_moment → moment_of (moment_text n) ≡ Some (Some n)
unfolding moment_of moment_text
moment_of-moment_text n h =
    rw (instant_again (utc_date_time n) (utc_fits n h), utc_instant n h, moment_at-moment n h) refl

-- the moment of a text is that of the date-time that it spells
pub moment_of-spelled : (text : List ℕ) (d : DateTime) → Spells text d → moment_of text ≡ moment_at (instant d)
unfolding moment_of
moment_of-spelled text d spells = rw (spells.1, instant_again d spells.0) refl

-- what follows for a result that is the moment of the text, or the refusal where it has none
module _ {E : Type 0} (refusal : E) (text : List ℕ) (r : Result (Option ℕ) E) (exact : r ≡ ok_or (moment_of text) refusal) where
  pub spelled_gives : (d : DateTime) → Spells text d → r ≡ ok_or (moment_at (instant d)) refusal
  spelled_gives d spells = exact ∙ rw (moment_of-spelled text d spells) refl

  pub printed_gives : (n : ℕ) → n ≤ greatest_moment → text ≡ moment_text n → r ≡ Ok (Some n)
  printed_gives n h e = exact ∙ rw (e, moment_of-moment_text n h) refl

-- a text without an instant has no moment
pub only_spelled : (text : List ℕ) (z : ℤ) → Some z ≡ instant_of text → (d : DateTime) × Spells text d
only_spelled text z e = let taken = instant_taken text z (sym e) in (taken.0, taken.1)

-- so a text with a moment spells a date-time
pub moment_spelled : (text : List ℕ) (m : Option ℕ) → moment_of text ≡ Some m → (d : DateTime) × Spells text d
unfolding moment_of
moment_spelled text m e = then_some e (λ z instant last. only_spelled text z (sym instant))
