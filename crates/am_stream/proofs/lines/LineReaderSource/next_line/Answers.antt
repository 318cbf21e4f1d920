use Rattle.std.specs.Io.Iter.{split_byte, split_known_bytes}
use Rattle.am_stream.proofs.LinesLemmas.{gives_piece}
use Rattle.am_stream.proofs.lines.LineReaderSource.next_line.Goals as goal

pub returns-in-Some-Ok-clause-line : goal.returns-in-Some-Ok-clause-line
returns-in-Some-Ok-clause-line g c =
    let piece = rw c.in-Some-Ok.field-0-is at c.in-Some-Ok.ensures.steps.2 in
    rw c.in-Some-Ok.ensures.steps.1 (gives_piece (split_byte c.args.self.now.pieces)
    (split_known_bytes g.R.Read.remaining c.args.self.now.pieces) (split_known_bytes g.R.Read.remaining c.next.new.self)
    c.in-Some-Ok.line.items piece.0 piece.1)
