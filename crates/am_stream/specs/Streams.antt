-- What a source of lines gives, and with which errors a stream fails.
use Rattle.std.specs.Prelude.{◌≡◌, ℕ, List, [], ◌∷◌, ⊤, Option, None, Some}
use Rattle.std.specs.IoError.{error_kind}
use Rattle.std.specs.declared.io.Error.{Error}
use Rattle.std.specs.declared.io.ErrorKind.TheVariants.{OutOfMemory as OutOfMemoryKind}
use Rattle.am_stream.specs.declared.streams.StreamFailure.{StreamFailure}
use Rattle.am_stream.specs.declared.streams.StreamFailure.TheVariants.{OutOfMemory, Stream}

-- what a stream says of an error: whether it may fail with it
abbrev pub ErrorLaw : Type 1
ErrorLaw = Error → Type 0

-- memory ran out, or a stream with this law gave the error
abbrev pub IsFailureOf : ErrorLaw → StreamFailure → Type 0
IsFailureOf fails_with OutOfMemory = ⊤
IsFailureOf fails_with (Stream error) = fails_with error

-- the lines that a source has left, where they are known
abbrev pub KnownLines : Type 0
KnownLines = Option (List (List ℕ))

-- a line came, which is the first of those that were known, and the others are left; none comes only where none is left
abbrev pub GivesLine : KnownLines → Option (List ℕ) → KnownLines → Type 0
GivesLine None line new = ⊤
GivesLine (Some lines) None new = lines ≡ []
GivesLine (Some lines) (Some line) None = ⊥
GivesLine (Some lines) (Some line) (Some left) = lines ≡ line ∷ left

-- as an error of a stream, a failure of memory has that kind
abbrev pub Becomes : StreamFailure → Error → Type 0
Becomes OutOfMemory error = error_kind error ≡ OutOfMemoryKind
Becomes (Stream given) error = error ≡ given
