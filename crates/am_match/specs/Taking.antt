-- How matchers are taken from the front of bytes, field by field; the first field that can't be taken decides.
use Rattle.std.specs.Prelude.{ℕ, zero, suc, List, [], ◌∷◌, ◌==◌, nat_le, length, take, drop, Result, Ok, Err, if◌then◌else◌}
use Rattle.std.specs.Str.{is_utf8}
use Rattle.byteorder.specs.Endian.{big_number}
use Rattle.am_text.specs.Outcome.{◌>>=◌}
use Rattle.am_labels.specs.Labels.{is_label_name}
use Rattle.am_match.specs.declared.matcher.Operator.{Operator}
use Rattle.am_match.specs.declared.matcher.Operator.TheVariants.{Equal, NotEqual, Match, NotMatch}
use Rattle.am_match.specs.declared.refusal.TakeRefusal.{TakeRefusal}
use Rattle.am_match.specs.declared.refusal.TakeRefusal.TheVariants.{Short, Bad}
use Rattle.am_match.specs.Matchers.{MatcherText}

-- what was taken and the bytes behind it, or the refusal
abbrev pub Taken : Type 0 → Type 0
Taken A = Result (A × List ℕ) TakeRefusal

-- so many bytes
abbrev pub take_bytes : ℕ → List ℕ → Taken (List ℕ)
take_bytes n bytes = if nat_le n (length bytes) then Ok (take n bytes, drop n bytes) else Err Short

-- a number in so many bytes
abbrev pub take_number : ℕ → List ℕ → Taken ℕ
take_number n bytes = if nat_le n (length bytes) then Ok (big_number n bytes, drop n bytes) else Err Short

-- an operator by its number
abbrev pub take_operator : List ℕ → Taken Operator
take_operator [] = Err Short
take_operator (b ∷ bytes) =
    if b == 0 then Ok (Equal, bytes)
    else if b == 1 then Ok (NotEqual, bytes)
    else if b == 2 then Ok (Match, bytes)
    else if b == 3 then Ok (NotMatch, bytes)
    else Err Bad

-- UTF-8 behind its length
abbrev pub take_text : List ℕ → Taken (List ℕ)
take_text bytes = do
  (n, behind) ← take_number 4 bytes
  (text, rest) ← take_bytes n behind
  if is_utf8 text then Ok (text, rest) else Err Bad

-- a label name behind its length
abbrev pub take_name : List ℕ → Taken (List ℕ)
take_name bytes = do
  (text, rest) ← take_text bytes
  if is_label_name text then Ok (text, rest) else Err Bad

-- an operator, a name and a value
abbrev pub take_matcher : List ℕ → Taken MatcherText
take_matcher bytes = do
  (operator, after) ← take_operator bytes
  (name, behind) ← take_name after
  (value, rest) ← take_text behind
  Ok (record { operator = operator; name = name; value = value }, rest)

-- so many matchers
unfoldable pub take_several : ℕ → List ℕ → Taken (List MatcherText)
take_several zero bytes = Ok ([], bytes)
take_several (suc n) bytes = do
  (m, behind) ← take_matcher bytes
  (ms, rest) ← take_several n behind
  Ok (m ∷ ms, rest)

-- the matchers at the front of the bytes
abbrev pub taken : List ℕ → Taken (List MatcherText)
taken bytes = do
  (n, behind) ← take_number 2 bytes
  take_several n behind
