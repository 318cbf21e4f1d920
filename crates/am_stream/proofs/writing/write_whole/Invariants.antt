use Rattle.std.proofs.Common.{◌≡◌, List, ℕ, ◌++◌}
use Rattle.std.specs.Io.KnownBytes.{Appends}
use Rattle.am_stream.proofs.writing.write_whole.Given as goal

abbrev pub invariant-loop : goal.invariant-loop
invariant-loop g l = (first : List ℕ) × (first ++ l.rest ≡ l.bytes) × Appends (g.W.Write.contents l.fn.writer)
    (g.W.Write.contents l.writer) first
