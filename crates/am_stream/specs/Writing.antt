-- What was written where a writer may fail.
use Rattle.std.specs.Prelude.{◌≡◌, ℕ, List, ◌++◌, Option}
use Rattle.std.specs.Io.KnownBytes.{Appends}

-- a first part of these bytes was appended to known bytes, and this is left of them
pub record AppendsPart (old new : Option (List ℕ)) (bytes : List ℕ) : Type 0 where
  pub first : List ℕ
  pub left : List ℕ
  pub cut : first ++ left ≡ bytes
  pub appends : Appends old new first
