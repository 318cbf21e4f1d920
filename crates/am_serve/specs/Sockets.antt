-- What a read or a write does to known bytes.
use Rattle.std.specs.Prelude.{◌≡◌, ◌≢◌, ℕ, ◌≤◌, List, length, take, Option, Result, Ok, Err}
use Rattle.std.specs.IoError.{error_kind}
use Rattle.std.specs.declared.io.Error.{Error}
use Rattle.std.specs.declared.io.ErrorKind.TheVariants.{WouldBlock, Interrupted as InterruptedKind}
use Rattle.std.specs.Io.KnownBytes.{Appends, Consumes}
use Rattle.am_serve.specs.declared.socket.Moved.{Moved}
use Rattle.am_serve.specs.declared.socket.Moved.TheVariants.{Bytes, Blocked, Interrupted, Broken}

-- how many bytes were moved
abbrev pub count_of : Moved → ℕ
count_of (Bytes n) = n
count_of Blocked = 0
count_of Interrupted = 0
count_of Broken = 0

-- a read consumed the bytes that it put at the front of the buffer
abbrev pub Reads : Option (List ℕ) → Option (List ℕ) → Moved → List ℕ → Type 0
Reads old new moved buffer = (count_of moved ≤ 4096) × (count_of moved ≤ length buffer) × Consumes old new (take (count_of moved) buffer)

-- a write appended a first part of the bytes
abbrev pub Writes : Option (List ℕ) → Option (List ℕ) → Moved → List ℕ → Type 0
Writes old new moved bytes = (count_of moved ≤ length bytes) × Appends old new (take (count_of moved) bytes)

-- what an error says of a call that moved nothing
pub record Misses (error : Error) (moved : Moved) : Type 0 where
  pub blocked : error_kind error ≡ WouldBlock → moved ≡ Blocked
  pub interrupted : error_kind error ≡ InterruptedKind → moved ≡ Interrupted
  pub broken : error_kind error ≢ WouldBlock → error_kind error ≢ InterruptedKind → moved ≡ Broken
  pub none : count_of moved ≡ 0

-- what came of a read or a write, by its answer: none at all is the end
abbrev pub ComesTo : Result ℕ Error → Moved → Type 0
ComesTo (Ok n) moved = (n ≡ 0 → moved ≡ Broken) × (n ≢ 0 → moved ≡ Bytes n)
ComesTo (Err error) moved = Misses error moved
