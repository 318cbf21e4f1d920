-- Numbers, texts, and things one after another: how they are spelled, and how they are read at the front of bytes. Numbers
-- have their greatest byte first.
use Rattle.std.specs.Prelude.{◌≡◌, ℕ, zero, suc, ◌-◌, Bool, true, false, ◌==◌, nat_le, List, [], ◌∷◌, ◌++◌, length, take, drop, Option, Some, None, Result, Ok, Err, if◌then◌else◌}
use Rattle.std.specs.List.{slice_get}
use Rattle.std.specs.Ordering.{is_lt}
use Rattle.std.specs.Str.{is_utf8}
use Rattle.std.specs.declared.cmp.Ordering.{Ordering}
use Rattle.std.specs.declared.cmp.Ordering.TheVariants.{Less}
use Rattle.byteorder.specs.Endian.{big_bytes, big_number}
use Rattle.am_text.specs.Moment.{greatest_moment}
use Rattle.am_text.specs.Outcome.{◌>>=◌}
use Rattle.am_ring.specs.Instances.{is_instance}
use Rattle.am_wire.specs.declared.refusal.WireRefusal.{WireRefusal}
use Rattle.am_wire.specs.declared.refusal.WireRefusal.TheVariants.{FieldPastEnd, BadValue}

-- ---- as they are spelled

-- a number in so many bytes
unfoldable pub number_bytes : ℕ → ℕ → List ℕ
number_bytes n x = big_bytes n x

-- a text behind its length
unfoldable pub text_bytes : List ℕ → List ℕ
text_bytes text = number_bytes 4 (length text) ++ text

-- whether something holds
abbrev pub flag_bytes : Bool → List ℕ
flag_bytes true = 1 ∷ []
flag_bytes false = 0 ∷ []

-- ---- as they are read

-- what stands at the front of bytes and what is left behind it, or the first refusal
abbrev pub Reading : Type 0 → Type 0
Reading A = Result (A × List ℕ) WireRefusal

-- so many bytes
unfoldable pub bytes_at : ℕ → List ℕ → Reading (List ℕ)
bytes_at n bytes = if nat_le n (length bytes) then Ok (take n bytes, drop n bytes) else Err FieldPastEnd

-- a byte
abbrev pub byte_at : List ℕ → Reading ℕ
byte_at [] = Err FieldPastEnd
byte_at (byte ∷ rest) = Ok (byte, rest)

-- a number in so many bytes
unfoldable pub number_at : ℕ → List ℕ → Reading ℕ
number_at n bytes = do
  (field, rest) ← bytes_at n bytes
  Ok (big_number n field, rest)

unfoldable pub flag_at : List ℕ → Reading Bool
flag_at bytes = do
  (byte, rest) ← byte_at bytes
  if byte == 0 then Ok (false, rest) else (if byte == 1 then Ok (true, rest) else Err BadValue)

unfoldable pub instance_at : List ℕ → Reading ℕ
instance_at bytes = do
  (byte, rest) ← byte_at bytes
  if is_instance byte then Ok (byte, rest) else Err BadValue

unfoldable pub moment_at : List ℕ → Reading ℕ
moment_at bytes = do
  (moment, rest) ← number_at 8 bytes
  if nat_le moment greatest_moment then Ok (moment, rest) else Err BadValue

unfoldable pub text_at : List ℕ → Reading (List ℕ)
text_at bytes = do
  (n, behind) ← number_at 4 bytes
  (text, rest) ← bytes_at n behind
  if is_utf8 text then Ok (text, rest) else Err BadValue

-- the last thing of a list, if there is one
abbrev pub last_of : {A : Type 0} → List A → Option A
last_of xs = slice_get xs (length xs - 1)

-- so many things one after another, each told what stands before it, if something does
unfoldable pub several : {A : Type 0} → (Option A → List ℕ → Reading A) → ℕ → Option A → List ℕ → Reading (List A)
several one zero before bytes = Ok ([], bytes)
several one (suc n) before bytes = do
  (first, behind) ← one before bytes
  (others, rest) ← several one n (Some first) behind
  Ok (first ∷ others, rest)

-- each thing of a list with what stands before it, if something does
abbrev pub Chain : {A : Type 0} → (Option A → A → Type 0) → Option A → List A → Type 0
Chain P before [] = Unit {0}
Chain P before (x ∷ xs) = P before x × Chain P (Some x) xs

-- a thing is greater than what stands before it
abbrev pub Rises : {A : Type 0} → (A → A → Ordering) → Option A → A → Type 0
Rises cmp None x = Unit {0}
Rises cmp (Some y) x = cmp y x ≡ Less

-- the same as a test
abbrev pub rises : {A : Type 0} → (A → A → Ordering) → Option A → A → Bool
rises cmp None x = true
rises cmp (Some y) x = is_lt (cmp y x)
