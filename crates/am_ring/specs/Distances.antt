-- How far an instance lies from a place on the ring: the circle of all numbers below 2^32.
use Rattle.std.specs.Prelude.{ℕ, ◌+◌, ◌-◌, ◌%◌, ◌^◌, List, [], ◌∷◌, ◌++◌, codes, decimal, fold, map, min}
use Rattle.am_labels.specs.Hashes.{fnv32}

-- the numbers of an instance's tokens
abbrev pub token_numbers : List ℕ
token_numbers = 0 ∷ 1 ∷ 2 ∷ 3 ∷ 4 ∷ 5 ∷ 6 ∷ 7 ∷ 8 ∷ 9 ∷ 10 ∷ 11 ∷ 12 ∷ 13 ∷ 14 ∷ 15 ∷ []

-- token k of instance i: the 32-bit hash of the text `i/k`
abbrev pub token : ℕ → ℕ → ℕ
token i k = fnv32 (decimal i ++ codes "/" ++ decimal k)

-- all tokens of an instance
abbrev pub tokens : ℕ → List ℕ
tokens i = map (token i) token_numbers

-- how far a token lies behind a place, around the circle: token - place - 1, where -1 is 2^32 - 1
abbrev pub way : ℕ → ℕ → ℕ
way place token = (token + (2 ^ 32 - 1 - place)) % 2 ^ 32

-- the least way to one of an instance's tokens; none is above 2^32 - 1
unfoldable pub distance : ℕ → ℕ → ℕ
distance place i = fold min (2 ^ 32 - 1) (map (way place) (tokens i))
