-- The lines of a reader.
use Rattle.std.specs.Prelude.{ℕ, ◌==◌, List, [], ◌∷◌, Option, option_map, if◌then◌else◌}
use Rattle.std.specs.List.{onto_first}
use Rattle.std.specs.Io.Iter.{split_byte, split_known_bytes}
use Rattle.am_stream.specs.declared.lines.LineReader.{LineReader}
use Rattle.am_stream.specs.Streams.{KnownLines}

-- the pieces that end at this byte; what follows its last one is a piece too, where anything does
abbrev pub pieces_of : ℕ → List ℕ → List (List ℕ)
pieces_of byte [] = []
pieces_of byte (x ∷ xs) = if x == byte then [] ∷ pieces_of byte xs else onto_first x (pieces_of byte xs)

-- the lines: LF ends one
abbrev pub lines_of : List ℕ → List (List ℕ)
lines_of bytes = pieces_of 10 bytes

-- the lines that a reader has left, where its bytes are known
abbrev pub known_lines : {R : Type 0} → (R → Option (List ℕ)) → LineReader R → KnownLines
known_lines remaining reader =
    option_map (pieces_of (split_byte reader.pieces)) (split_known_bytes remaining reader.pieces)
