-- Which texts are numbers.
use Rattle.std.proofs.Common.{◌≡◌, ◌≢◌, ℕ, ◌^◌, ◌<◌, Bool, true, false, eqb, List, length, get_or, Some, None, Result, Ok, Err, arith}
use Rattle.std.specs.Str.{all_ascii_digits}
use Rattle.std.specs.Str.Parse.{digits_value, ParsesUnsigned}
use Rattle.std.proofs.lemmas.Bool.Decides.{nat_tests}
use Rattle.std.proofs.lemmas.Str.Parse.{IsNumeralModel, numerals_by_value, tells_all_ascii_digits, parse_plain}
use Rattle.am_scenario.specs.Number.{number_of}

-- digits, and the number that they write
own : IsNumeralModel (λ ds. all_ascii_digits ds ≡ true) (digits_value 10)
own = numerals_by_value _ tells_all_ascii_digits

number_taken : (s : List ℕ) (n : ℕ) → all_ascii_digits s ≡ true → 0 < length s → digits_value 10 s < 2 ^ 64 → n ≡ digits_value 10 s → number_of s ≡ Some n
unfolding number_of
number_taken s n digits some fits e = grind (arith, nat_tests)

number_refused : (s : List ℕ) → ((all_ascii_digits s ≡ true) × (0 < length s) × (digits_value 10 s < 2 ^ 64) → ⊥) → number_of s ≡ None
unfolding number_of
number_refused s not = grind (arith, nat_tests)

-- what `parse` reads of a word without a plus is the word's number
pub number_of-parse : {E : Type 0} (s : List ℕ) (r : Result ℕ E) (n : ℕ) → ParsesUnsigned 64 10 s r → get_or s 0 0 ≢ 43 → r ≡ Ok n → number_of s ≡ Some n
number_of-parse s r n h plain e =
    let k = rw e at (parse_plain own 64 s r h plain) in
    number_taken s n k.0.0 k.0.1 k.0.2 k.1

pub number_of-no_parse : {E : Type 0} (s : List ℕ) (r : Result ℕ E) (f : E) → ParsesUnsigned 64 10 s r → get_or s 0 0 ≢ 43 → r ≡ Err f → number_of s ≡ None
number_of-no_parse s r f h plain e = number_refused s (rw e at (parse_plain own 64 s r h plain))

-- a word that doesn't start with a plus
pub not_plus : (s : List ℕ) (r : Bool) → r ≡ false → r ≡ eqb (get_or s 0 0) 43 → get_or s 0 0 ≢ 43
not_plus s r absent told = grind (arith, nat_tests)
