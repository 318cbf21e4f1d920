-- What is read is spelled so.
use Rattle.std.proofs.Common.{◌≡◌, ℕ, suc, ◌+◌, ◌-◌, ◌*◌, ◌/◌, ◌%◌, ◌<◌, ◌≤◌, ◌⊎◌, inl, inr, ◌&&◌, ◌||◌, ◌==◌, nat_lt, nat_le, true, List, [], ◌∷◌, ◌++◌, length, take, drop, Option, Some, None, refl, sym, ap, subst, ◌∙◌, arith, ℤ, pos, neg_ℤ, ◌+ℤ◌, ◌-ℤ◌, ◌*ℤ◌}
use Rattle.std.proofs.lemmas.Bool.{and_parts, and_from, or_cases, cases_Bool, eqb-true, ltb-true, leb-true}
use Rattle.std.proofs.lemmas.Bool.Decides.{nat_tests}
use Rattle.std.proofs.lemmas.List.{take-append-drop, nil_from_length}
use Rattle.std.proofs.lemmas.List.Folds.{length-prefix_len}
use Rattle.std.proofs.lemmas.Option.{cond_some, same_Some}
use Rattle.std.specs.Char.{is_ascii_digit}
use Rattle.std.specs.List.{list_all, prefix_len}
use Rattle.jiff_core.specs.Calendar.{IsCivilDate, days_from_civil, days_in_month}
use Rattle.jiff_core.proofs.SignedLemmas.{signed_arith}
use Rattle.jiff_fmt.specs.Text.{pad2, pad4}
use Rattle.am_text.specs.Moment.{day_length}
use Rattle.am_text.specs.DateTime.{Offset, utc, ahead, behind, DateTime, IsOffset, IsDateTime, Spells, fraction_text, offset_text, date_time_text, fraction_milliseconds, offset_milliseconds, instant}
use Rattle.am_text.specs.Reading.{◌>>=◌, two_at, four_at, below_at, after_byte, after_letter, day_number, date_at, clock_at, fraction_at, distance_of, offset_of, instant_of}

-- the value of a step that gave something
pub then_some : {A B P : Type 0} {o : Option A} {f : A → Option B} {y : B} → (o >>= f) ≡ Some y → ((x : A) → o ≡ Some x → f x ≡ Some y → P) → P
then_some {o = None} e k = absurd cc
then_some {o = Some x} e k = k x refl e

-- what a field is, from the pair that was read
abbrev Field : Type 0 → Type 0
Field A = A × List ℕ

-- two digits
two_taken : (text : List ℕ) (x : Field ℕ) → two_at text ≡ Some x → (text ≡ pad2 x.0 ++ x.1) × (x.0 < 100)
unfolding two_at
two_taken [] x e = absurd cc
two_taken (a ∷ []) x e = absurd cc
two_taken (a ∷ b ∷ rest) x e =
    let parts = cond_some (is_ascii_digit a && is_ascii_digit b) ((a - 48) * 10 + (b - 48), rest) x e in
    let digits = and_parts (is_ascii_digit a) (is_ascii_digit b) parts.0 in
    let high : (48 ≤ a) × (a ≤ 57) = let t = digits.0 in grind (arith, nat_tests) in
    let low : (48 ≤ b) × (b ≤ 57) = let t = digits.1 in grind (arith, nat_tests) in
    let number : (a - 48) * 10 + (b - 48) ≡ x.0 = ap (λ (p : Field ℕ). p.0) parts.1 in
    let after : rest ≡ x.1 = ap (λ (p : Field ℕ). p.1) parts.1 in
    let first : a ≡ 48 + x.0 / 10 = omega arith in
    let second : b ≡ 48 + x.0 % 10 = omega arith in
    (rw (first, second, after) refl, omega arith)

-- one byte
byte_taken : (byte : ℕ) (text rest : List ℕ) → after_byte byte text ≡ Some rest → text ≡ byte ∷ rest
byte_taken byte [] rest e = absurd cc
byte_taken byte (first ∷ left) rest e =
    let parts = cond_some (first == byte) left rest e in
    rw (eqb-true first byte parts.0, parts.1) refl

-- the letter before a time
letter_taken : (text rest : List ℕ) → after_letter text ≡ Some rest → (letter : ℕ) × ((letter ≡ 84) ⊎ (letter ≡ 116)) × (text ≡ letter ∷ rest)
letter_taken [] rest e = absurd cc
letter_taken (first ∷ left) rest e =
    let parts = cond_some ((first == 84) || (first == 116)) left rest e in
    let either = elim (or_cases (first == 84) (first == 116) parts.0) as (λ _. (first ≡ 84) ⊎ (first ≡ 116)) [ inl a ↦ inl (eqb-true first 84 a) | inr b ↦ inr (eqb-true first 116 b) ] in
    (first, either, rw parts.1 refl)

-- four digits
four_taken : (text : List ℕ) (x : Field ℕ) → four_at text ≡ Some x → (text ≡ pad4 x.0 ++ x.1) × (x.0 < 10_000)
unfolding four_at
four_taken text x e =
    then_some e (λ c one left.
    then_some left (λ y two last.
    let century = two_taken text c one in
    let year = two_taken c.1 y two in
    let high : (c.0 * 100 + y.0) / 100 ≡ c.0 = omega arith in
    let low : (c.0 * 100 + y.0) % 100 ≡ y.0 = omega arith in
    subst (λ (z : Field ℕ). (text ≡ pad4 z.0 ++ z.1) × (z.0 < 10_000)) (same_Some (c.0 * 100 + y.0, y.1) x last)
    (rw (high, low) (century.0 ∙ ap (λ (t : List ℕ). pad2 c.0 ++ t) year.0), omega arith)))

-- two digits of a number below the limit
below_taken : (limit : ℕ) (text : List ℕ) (x : Field ℕ) → below_at limit text ≡ Some x → (text ≡ pad2 x.0 ++ x.1) × (x.0 < limit)
unfolding below_at
below_taken limit text x e =
    then_some e (λ n one last.
    let parts = cond_some (nat_lt n.0 limit) n x last in
    let number = two_taken text n one in
    subst (λ (z : Field ℕ). (text ≡ pad2 z.0 ++ z.1) × (z.0 < limit)) parts.1 (number.0, ltb-true n.0 limit parts.0))

-- a day number is that of a date that the calendar has
number_taken : (y m d : ℕ) (z : ℤ) → y < 10_000 → day_number y m d ≡ Some z → IsCivilDate (pos y) m d × (days_from_civil (pos y) m d ≡ z)
number_taken y m d z small e =
    let parts = cond_some (nat_le 1 m && nat_le m 12 && nat_le 1 d && nat_le d (days_in_month (pos y) m)) (days_from_civil (pos y) m d) z e in
    let a = and_parts (nat_le 1 m && nat_le m 12 && nat_le 1 d) (nat_le d (days_in_month (pos y) m)) parts.0 in
    let b = and_parts (nat_le 1 m && nat_le m 12) (nat_le 1 d) a.0 in
    let c = and_parts (nat_le 1 m) (nat_le m 12) b.0 in
    (((omega (arith, signed_arith), omega (arith, signed_arith)), (leb-true 1 m c.0, leb-true m 12 c.1), (leb-true 1 d b.1, leb-true d (days_in_month (pos y) m) a.1)), parts.1)

-- a date and the text after it
record IsDateAt (text : List ℕ) (x : Field ℤ) : Type 0 where
  year : ℕ
  month : ℕ
  day : ℕ
  civil : IsCivilDate (pos year) month day
  number : days_from_civil (pos year) month day ≡ x.0
  spelled : text ≡ pad4 year ++ 45 ∷ pad2 month ++ 45 ∷ pad2 day ++ x.1

date_taken : (text : List ℕ) (x : Field ℤ) → date_at text ≡ Some x → IsDateAt text x
unfolding date_at
date_taken text x e =
    then_some e (λ y one e1.
    then_some e1 (λ r two e2.
    then_some e2 (λ m three e3.
    then_some e3 (λ s four e4.
    then_some e4 (λ d five e5.
    then_some e5 (λ n six last.
    let year = four_taken text y one in
    let first = byte_taken 45 y.1 r two in
    let month = two_taken r m three in
    let second = byte_taken 45 m.1 s four in
    let day = two_taken s d five in
    let number = number_taken y.0 m.0 d.0 n year.1 six in
    let rest : y.1 ≡ 45 ∷ pad2 m.0 ++ 45 ∷ pad2 d.0 ++ d.1 = first ∙ ap (λ (t : List ℕ). 45 ∷ t) (month.0 ∙ ap (λ (t : List ℕ). pad2 m.0 ++ t) (second ∙ ap (λ (t : List ℕ). 45 ∷ t) day.0)) in
    subst (IsDateAt text) (same_Some (n, d.1) x last) (record {
      year = y.0;
      month = m.0;
      day = d.0;
      civil = number.0;
      number = number.1;
      spelled = year.0 ∙ ap (λ (t : List ℕ). pad4 y.0 ++ t) rest;
    })))))))

-- a time of day and the text after it
record IsClockAt (text : List ℕ) (x : Field ℕ) : Type 0 where
  hour : ℕ
  minute : ℕ
  second : ℕ
  hour_in : hour ≤ 23
  minute_in : minute ≤ 59
  second_in : second ≤ 59
  number : hour * 3600 + minute * 60 + second ≡ x.0
  spelled : text ≡ pad2 hour ++ 58 ∷ pad2 minute ++ 58 ∷ pad2 second ++ x.1

clock_taken : (text : List ℕ) (x : Field ℕ) → clock_at text ≡ Some x → IsClockAt text x
unfolding clock_at
clock_taken text x e =
    then_some e (λ h one e1.
    then_some e1 (λ r two e2.
    then_some e2 (λ m three e3.
    then_some e3 (λ q four e4.
    then_some e4 (λ s five last.
    let hour = below_taken 24 text h one in
    let first = byte_taken 58 h.1 r two in
    let minute = below_taken 60 r m three in
    let next = byte_taken 58 m.1 q four in
    let second = below_taken 60 q s five in
    let rest : h.1 ≡ 58 ∷ pad2 m.0 ++ 58 ∷ pad2 s.0 ++ s.1 = first ∙ ap (λ (t : List ℕ). 58 ∷ t) (minute.0 ∙ ap (λ (t : List ℕ). pad2 m.0 ++ t) (next ∙ ap (λ (t : List ℕ). 58 ∷ t) second.0)) in
    subst (IsClockAt text) (same_Some (h.0 * 3600 + m.0 * 60 + s.0, s.1) x last) (record {
      hour = h.0;
      minute = m.0;
      second = s.0;
      hour_in = omega arith;
      minute_in = omega arith;
      second_in = omega arith;
      number = refl;
      spelled = hour.0 ∙ ap (λ (t : List ℕ). pad2 h.0 ++ t) rest;
    }))))))

-- hours and minutes with nothing after them
record IsDistance (text : List ℕ) (n : ℕ) : Type 0 where
  hour : ℕ
  minute : ℕ
  hour_in : hour ≤ 23
  minute_in : minute ≤ 59
  number : (hour * 60 + minute) * 60_000 ≡ n
  spelled : text ≡ pad2 hour ++ 58 ∷ pad2 minute

distance_taken : (text : List ℕ) (n : ℕ) → distance_of text ≡ Some n → IsDistance text n
unfolding distance_of
distance_taken text n e =
    then_some e (λ h one e1.
    then_some e1 (λ r two e2.
    then_some e2 (λ m three last.
    let hour = below_taken 24 text h one in
    let colon = byte_taken 58 h.1 r two in
    let minute = below_taken 60 r m three in
    let parts = cond_some (length m.1 == 0) ((h.0 * 60 + m.0) * 60_000) n last in
    let nothing : m.1 ≡ [] = nil_from_length m.1 (eqb-true (length m.1) 0 parts.0) in
    let rest : h.1 ≡ 58 ∷ pad2 m.0 = colon ∙ ap (λ (t : List ℕ). 58 ∷ t) (minute.0 ∙ ap (λ (t : List ℕ). pad2 m.0 ++ t) nothing) in
    record {
      hour = h.0;
      minute = m.0;
      hour_in = omega arith;
      minute_in = omega arith;
      number = parts.1;
      spelled = hour.0 ∙ ap (λ (t : List ℕ). pad2 h.0 ++ t) rest;
    })))

-- the offset that is the whole text
abbrev IsOffsetOf : List ℕ → ℤ → Type 0
IsOffsetOf text z = (o : Offset) × IsOffset o × (text ≡ offset_text o) × (offset_milliseconds o ≡ z)

offset_taken : (text : List ℕ) (z : ℤ) → offset_of text ≡ Some z → IsOffsetOf text z
unfolding offset_of
offset_taken [] z e = absurd cc
offset_taken (first ∷ rest) z e =
    elim (cases_Bool (first == 43)) [
      | inl plus ↦
          then_some (rw plus at e) (λ n one last.
          let d = distance_taken rest n one in
          (ahead d.hour d.minute, (d.hour_in, d.minute_in), rw (eqb-true first 43 plus) (ap (λ (t : List ℕ). 43 ∷ t) d.spelled), ap pos d.number ∙ same_Some (pos n) z last))
      | inr other ↦ elim (cases_Bool (first == 45)) [
        | inl minus ↦
            then_some (rw (other, minus) at e) (λ n one last.
            let d = distance_taken rest n one in
            (behind d.hour d.minute, (d.hour_in, d.minute_in), rw (eqb-true first 45 minus) (ap (λ (t : List ℕ). 45 ∷ t) d.spelled), ap (λ (k : ℕ). neg_ℤ (pos k)) d.number ∙ same_Some (neg_ℤ (pos n)) z last))
        | inr neither ↦
            let parts = cond_some (((first == 90) || (first == 122)) && (length rest == 0)) (pos 0) z (rw (other, neither) at e) in
            let both = and_parts ((first == 90) || (first == 122)) (length rest == 0) parts.0 in
            let nothing : rest ≡ [] = nil_from_length rest (eqb-true (length rest) 0 both.1) in
            let either = elim (or_cases (first == 90) (first == 122) both.0) as (λ _. (first ≡ 90) ⊎ (first ≡ 122)) [ inl a ↦ inl (eqb-true first 90 a) | inr b ↦ inr (eqb-true first 122 b) ] in
            (utc first, either, rw nothing refl, parts.1)
      ]
    ]

-- what passes from the front on, passes
pub all_taken : (xs : List ℕ) → list_all is_ascii_digit (take (prefix_len is_ascii_digit xs) xs) ≡ true
all_taken [] = refl
all_taken (x ∷ xs) =
    elim (cases_Bool (is_ascii_digit x)) [
      | inl digit ↦
          let more : 1 + prefix_len is_ascii_digit xs ≡ suc (prefix_len is_ascii_digit xs) = omega arith in
          rw (digit, more) (and_from (is_ascii_digit x) _ digit (all_taken xs))
      | inr other ↦ rw other refl
    ]

-- a fraction that has digits begins with a dot
dotted : (ds : List ℕ) → 1 ≤ length ds → fraction_text ds ≡ 46 ∷ ds
dotted [] h = absurd (omega arith)
dotted (d ∷ ds) h = refl

-- the fraction, if there is one, and the text after it
record IsFractionAt (text : List ℕ) (x : Field ℕ) : Type 0 where
  digits : List ℕ
  all : list_all is_ascii_digit digits ≡ true
  places : length digits ≤ 9
  number : fraction_milliseconds digits ≡ x.0
  spelled : text ≡ fraction_text digits ++ x.1

fraction_taken : (text : List ℕ) (x : Field ℕ) → fraction_at text ≡ Some x → IsFractionAt text x
fraction_taken [] x e =
    subst (IsFractionAt []) (same_Some (0, []) x e) (record { digits = []; all = refl; places = omega arith; number = refl; spelled = refl })
fraction_taken (first ∷ rest) x e =
    elim (cases_Bool (first == 46)) [
      | inl dot ↦
          let n = prefix_len is_ascii_digit rest in
          let ds = take n rest in
          let parts = cond_some (nat_le 1 n && nat_le n 9) (fraction_milliseconds ds, drop n rest) x (rw dot at e) in
          let both = and_parts (nat_le 1 n) (nat_le n 9) parts.0 in
          let len : length ds ≡ n = length-prefix_len is_ascii_digit rest in
          let text : fraction_text ds ≡ 46 ∷ ds = dotted ds (omega (arith, leb-true 1 n both.0)) in
          let whole : first ∷ rest ≡ fraction_text ds ++ drop n rest = rw (eqb-true first 46 dot, text) (ap (λ (t : List ℕ). 46 ∷ t) (sym (take-append-drop n rest))) in
          subst (IsFractionAt (first ∷ rest)) parts.1 (record { digits = ds; all = all_taken rest; places = omega (arith, leb-true n 9 both.1); number = refl; spelled = whole })
      | inr other ↦
          subst (IsFractionAt (first ∷ rest)) (same_Some (0, first ∷ rest) x (rw other at e)) (record { digits = []; all = refl; places = omega arith; number = refl; spelled = refl })
    ]

-- a text that has an instant is that of a date-time
pub instant_taken : (text : List ℕ) (z : ℤ) → instant_of text ≡ Some z → (d : DateTime) × Spells text d × (instant d ≡ z)
unfolding instant_of
instant_taken text z e =
    then_some e (λ a one e1.
    then_some e1 (λ r two e2.
    then_some e2 (λ c three e3.
    then_some e3 (λ f four e4.
    then_some e4 (λ o five last.
    let date = date_taken text a one in
    let letter = letter_taken a.1 r two in
    let clock = clock_taken r c three in
    let fraction = fraction_taken c.1 f four in
    let offset = offset_taken f.1 o five in
    let end : c.1 ≡ fraction_text fraction.digits ++ offset_text offset.0 = fraction.spelled ∙ ap (λ (t : List ℕ). fraction_text fraction.digits ++ t) offset.2 in
    let time : a.1 ≡ letter.0 ∷ pad2 clock.hour ++ 58 ∷ pad2 clock.minute ++ 58 ∷ pad2 clock.second ++ fraction_text fraction.digits ++ offset_text offset.0 = letter.2 ∙ ap (λ (t : List ℕ). letter.0 ∷ t) (clock.spelled ∙ ap (λ (t : List ℕ). pad2 clock.hour ++ 58 ∷ pad2 clock.minute ++ 58 ∷ pad2 clock.second ++ t) end) in
    let d : DateTime = record {
      year = date.year;
      month = date.month;
      day = date.day;
      letter = letter.0;
      hour = clock.hour;
      minute = clock.minute;
      second = clock.second;
      fraction = fraction.digits;
      offset = offset.0;
    } in
    let valid : IsDateTime d = record {
      date = date.civil;
      letter = letter.1;
      hour = clock.hour_in;
      minute = clock.minute_in;
      second = clock.second_in;
      digits = fraction.all;
      places = fraction.places;
      offset = offset.1;
    } in
    let spelled : text ≡ date_time_text d = date.spelled ∙ ap (λ (t : List ℕ). pad4 date.year ++ 45 ∷ pad2 date.month ++ 45 ∷ pad2 date.day ++ t) time in
    let number : instant d ≡ a.0 *ℤ pos day_length +ℤ pos (c.0 * 1000 + f.0) -ℤ o = rw (date.number, clock.number, fraction.number, offset.3) refl in
    (d, (valid, spelled), number ∙ same_Some _ _ last)
    )))))
