-- Where the head of a request ends. Lines end at LF.
use Rattle.std.specs.Prelude.{◌≡◌, ℕ, zero, suc, ◌+◌, ◌<◌, ◌≤◌, Bool, true, false, not, ◌||◌, ◌&&◌, length, take, List, [], ◌∷◌, ◌++◌, Option, Some, None, if◌then◌else◌, ◌==◌}
use Rattle.std.specs.Str.{bytes_eq}

-- an empty line holds nothing, or CR alone
abbrev pub is_empty_line : List ℕ → Bool
is_empty_line line = bytes_eq line [] || bytes_eq line (13 ∷ [])

-- the lines of a text, the last one first, where what follows the last LF is a line too: `line` is what came of the
-- present line, and `before` are those before it
abbrev pub lines_after : List ℕ → List (List ℕ) → List ℕ → List (List ℕ)
lines_after line before [] = line ∷ before
lines_after line before (b ∷ bytes) =
    if b == 10 then lines_after [] (line ∷ before) bytes else lines_after (line ++ b ∷ []) before bytes

-- whether lines, the last one first, end with an empty line and its LF, after one that isn't empty
abbrev pub end_a_head : List (List ℕ) → Bool
end_a_head ([] ∷ last ∷ line ∷ before) = is_empty_line last && not (is_empty_line line)
end_a_head _ = false

-- whether a text ends with an empty line after one that isn't empty
abbrev pub ends_head : List ℕ → Bool
ends_head text = end_a_head (lines_after [] [] text)

-- the least of the numbers from n to n + more that passes the test
abbrev pub least : (ℕ → Bool) → ℕ → ℕ → Option ℕ
least test n zero = if test n then Some n else None
least test n (suc more) = if test n then Some n else least test (n + 1) more

-- the length of the head with which the text begins, if it has come to its end: of the least beginning that ends one
abbrev pub head_len : List ℕ → Option ℕ
head_len text = least (λ k. ends_head (take k text)) 0 (length text)

-- n is the length of the least beginning of the text that ends a head, or there is none
abbrev pub IsHeadLen : List ℕ → Option ℕ → Type 0
IsHeadLen text None = (k : ℕ) → k ≤ length text → ends_head (take k text) ≡ false
IsHeadLen text (Some n) =
    (n ≤ length text) × (ends_head (take n text) ≡ true) × ((k : ℕ) → k < n → ends_head (take k text) ≡ false)
