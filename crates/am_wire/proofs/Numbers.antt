-- The bytes of a number that was read are those that were there.
use Rattle.std.proofs.Common.{◌≡◌, ℕ, ◌+◌, List, ◌++◌, length, take, drop, inl, inr, sym, ap, ◌∙◌, arith}
use Rattle.std.specs.Int.{from_be_bytes, w16, w32, w64}
use Rattle.std.proofs.lemmas.Bool.{cases_lt}
use Rattle.std.proofs.lemmas.List.{get_or-drop, get_or-take, get_or_past, length-take}
use Rattle.std.proofs.lemmas.Nat.{be_bytes_2, be_bytes_4, be_bytes_8}
use Rattle.byteorder.specs.Endian.{big_number}
use Rattle.am_wire.specs.Bytes.{AreBytes}
use Rattle.am_wire.specs.Fields.{number_bytes}

-- so is each of what lies behind
pub AreBytes-drop : (n : ℕ) (bytes : List ℕ) → AreBytes bytes → AreBytes (drop n bytes)
AreBytes-drop n bytes are i = rw get_or-drop (are (n + i))

-- and of the front
pub AreBytes-take : (n : ℕ) (bytes : List ℕ) → AreBytes bytes → AreBytes (take n bytes)
AreBytes-take n bytes are i =
    elim (cases_lt i n) [
      | inl inside ↦ rw (get_or-take n bytes i 0 inside) (are i)
      | inr past ↦ rw (get_or_past (take n bytes) i 0 (omega (arith, past, length-take n bytes))) (omega arith)
    ]

module _ (bytes field left : List ℕ) (n : ℕ) (are : AreBytes field) (found : bytes ≡ field ++ left) where
  pub found_2 : length field ≡ 2 → n ≡ big_number 2 field → bytes ≡ number_bytes 2 n ++ left
  unfolding number_bytes
  found_2 long is = found ∙ ap (λ (xs : List ℕ). xs ++ left) (sym (be_bytes_2 field n long are (is ∙ same field)))
    where
      same : (xs : List ℕ) → big_number 2 xs ≡ from_be_bytes w16 xs
      same xs = omega arith

  pub found_4 : length field ≡ 4 → n ≡ big_number 4 field → bytes ≡ number_bytes 4 n ++ left
  unfolding number_bytes
  found_4 long is = found ∙ ap (λ (xs : List ℕ). xs ++ left) (sym (be_bytes_4 field n long are (is ∙ same field)))
    where
      same : (xs : List ℕ) → big_number 4 xs ≡ from_be_bytes w32 xs
      same xs = omega arith

  pub found_8 : length field ≡ 8 → n ≡ big_number 8 field → bytes ≡ number_bytes 8 n ++ left
  unfolding number_bytes
  found_8 long is = found ∙ ap (λ (xs : List ℕ). xs ++ left) (sym (be_bytes_8 field n long are (is ∙ same field)))
    where
      same : (xs : List ℕ) → big_number 8 xs ≡ from_be_bytes w64 xs
      same xs = omega arith
