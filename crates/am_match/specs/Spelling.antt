-- Matchers as bytes: their number in 2 bytes, then each by its operator in 1 byte, its name and its value. A text is its
-- length in 4 bytes and its UTF-8. Numbers have their greatest byte first.
use Rattle.std.specs.Prelude.{◌≡◌, ℕ, ◌<◌, ◌^◌, List, ◌∷◌, ◌++◌, All, length}
use Rattle.std.specs.List.{flat_map}
use Rattle.byteorder.specs.Endian.{big_bytes}
use Rattle.am_match.specs.declared.matcher.Operator.{Operator}
use Rattle.am_match.specs.declared.matcher.Operator.TheVariants.{Equal, NotEqual, Match, NotMatch}
use Rattle.am_match.specs.Matchers.{MatcherText, IsMatcher}

-- the number of an operator
abbrev pub operator_number : Operator → ℕ
operator_number Equal = 0
operator_number NotEqual = 1
operator_number Match = 2
operator_number NotMatch = 3

-- a text behind its length
abbrev pub text_bytes : List ℕ → List ℕ
text_bytes text = big_bytes 4 (length text) ++ text

-- the operator, the name and the value
abbrev pub matcher_bytes : MatcherText → List ℕ
matcher_bytes m = operator_number m.operator ∷ (text_bytes m.name ++ text_bytes m.value)

-- the bytes that spell the matchers
abbrev pub spelling : List MatcherText → List ℕ
spelling ms = big_bytes 2 (length ms) ++ flat_map matcher_bytes ms

-- the lengths fit their 4 bytes
pub record IsShort (m : MatcherText) : Type 0 where
  pub name : length m.name < 2 ^ 32
  pub value : length m.value < 2 ^ 32

-- the number and the lengths fit their bytes
pub record IsSpellable (ms : List MatcherText) : Type 0 where
  pub few : length ms < 2 ^ 16
  pub short : All IsShort ms

-- the bytes spell these matchers
pub record Spells (bytes : List ℕ) (ms : List MatcherText) : Type 0 where
  pub bytes_are : bytes ≡ spelling ms
  pub spellable : IsSpellable ms
  pub valid : All IsMatcher ms
