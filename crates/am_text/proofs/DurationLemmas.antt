-- Numbers of units, each held to what 64 bits hold.
use Rattle.std.proofs.Common.{◌≡◌, ℕ, suc, ◌+◌, ◌-◌, ◌*◌, ◌<◌, ◌≤◌, true, List, length, get_or, take, drop, refl, arith}
use Rattle.std.proofs.Math.Seq.{drop-cons}
use Rattle.std.proofs.lemmas.Bool.Decides.{nat_tests}
use Rattle.std.proofs.lemmas.Int.Digits.{digits_value_more}
use Rattle.std.proofs.lemmas.List.{drop_all}
use Rattle.std.proofs.lemmas.List.Sums.{AllPass-from_list_all}
use Rattle.std.specs.Char.{is_ascii_digit, digit_value}
use Rattle.std.specs.List.{list_all}
use Rattle.std.specs.Str.Parse.{digits_value}
use Rattle.am_text.specs.declared.duration.TimeUnit.{TimeUnit}
use Rattle.am_text.specs.declared.duration.TimeUnit.TheVariants.{Year}
use Rattle.am_text.specs.Duration.{at_most_64_bits, part_at, parts_at}

-- the value of a digit
digit_is : (c : ℕ) → is_ascii_digit c ≡ true → digit_value c ≡ c - 48
digit_is c h = grind (arith, nat_tests)

-- one digit more
pub number_more : (digits : List ℕ) (i n : ℕ) → list_all is_ascii_digit digits ≡ true → i < length digits
    → n ≡ at_most_64_bits (digits_value 10 (take i digits))
    → at_most_64_bits (at_most_64_bits (n * 10) + (get_or digits i 0 - 48)) ≡ at_most_64_bits (digits_value 10 (take (i + 1) digits))
number_more digits i n all h e =
    let digit = digit_is (get_or digits i 0) (AllPass-from_list_all is_ascii_digit digits all i 0 h) in
    omega (arith, digit, digits_value_more 10 digits i h)

-- the part of one unit more
pub parts_more : (units : List TimeUnit) (i : ℕ) (text : List ℕ) → i < length units
    → let part = part_at (get_or units i Year) text in
    parts_at (drop i units) text ≡ (part.0 + (parts_at (drop (i + 1) units) part.1).0, (parts_at (drop (i + 1) units) part.1).1)
unfolding parts_at
parts_more units i text h =
    let next : suc i ≡ i + 1 = omega arith in
    rw (drop-cons units i Year h, ← next) refl

-- of no unit
pub parts_none : (units : List TimeUnit) (i : ℕ) (text : List ℕ) → length units ≤ i → parts_at (drop i units) text ≡ (0, text)
unfolding parts_at
parts_none units i text h = rw (drop_all i units h) refl

-- the sum and the rest, with the part of one unit more
module _ (units : List TimeUnit) (i : ℕ) (text rest : List ℕ) (h : i < length units) (after : rest ≡ (part_at (get_or units i Year) text).1) where
  pub rest_more : (parts_at (drop (i + 1) units) rest).1 ≡ (parts_at (drop i units) text).1
  rest_more = rw (parts_more units i text h, after) refl

  pub sum_more : (sum milliseconds : ℕ) → milliseconds ≡ at_most_64_bits (part_at (get_or units i Year) text).0
      → at_most_64_bits (at_most_64_bits (sum + milliseconds) + (parts_at (drop (i + 1) units) rest).0) ≡ at_most_64_bits (sum + (parts_at (drop i units) text).0)
  sum_more sum milliseconds e = rw (parts_more units i text h, after, e) (omega arith)
