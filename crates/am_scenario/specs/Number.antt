-- numbers as the program's user writes them
use Rattle.std.specs.Prelude.{ℕ, ◌^◌, ◌&&◌, nat_lt, if◌then◌else◌, List, length, Option, None, Some}
use Rattle.std.specs.Str.{all_ascii_digits}
use Rattle.std.specs.Str.Parse.{digits_value}

-- the number that decimal digits say, where 64 bits hold it; leading zeros are taken
unfoldable pub number_of : List ℕ → Option ℕ
number_of s =
    if nat_lt 0 (length s) && (all_ascii_digits s && nat_lt (digits_value 10 s) (2 ^ 64))
    then Some (digits_value 10 s)
    else None
