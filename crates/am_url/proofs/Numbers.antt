-- What `parse` says of digits.
use Rattle.std.proofs.Common.{◌≡◌, ℕ, ◌<◌, ◌^◌, List, true, false, length, arith, rules}
use Rattle.std.specs.Prelude.{Err, nat_le, not, ◌&&◌, ◌==◌}
use Rattle.std.specs.Char.{is_ascii_digit}
use Rattle.std.specs.List.{list_all}
use Rattle.std.specs.Str.Parse.{ParsesUnsigned, digits_value}
use Rattle.std.proofs.lemmas.Str.Parse.{parse_digits, numerals_by_value, IsDigitsTest}
use Rattle.std.proofs.lemmas.Bool.Decides.{nat_tests}
use Rattle.am_url.specs.Urls.{is_number}

tells_digits : IsDigitsTest (λ ds. list_all is_ascii_digit ds ≡ true)
tells_digits = search rules

is_number-outside : (least most v l : ℕ) → most < 2 ^ 16 → ¬ ((0 < l) × (v < 2 ^ 16)) →
    (not (l == 0) && (nat_le least v && nat_le v most)) ≡ false
is_number-outside least most v l fits none = grind (arith, nat_tests, none)

-- digits that are no number of 16 bits are none within smaller bounds
pub is_number-no_parse : {E : Type 0} (least most : ℕ) (ds : List ℕ) (e : E) → list_all is_ascii_digit ds ≡ true → most < 2 ^ 16 →
    ParsesUnsigned 16 10 ds (Err e) → is_number least most ds ≡ false
is_number-no_parse least most ds e digits fits parses =
    rw digits (is_number-outside least most (digits_value 10 ds) (length ds) fits
    (parse_digits (numerals_by_value _ tells_digits) 16 ds (Err e) parses digits))
