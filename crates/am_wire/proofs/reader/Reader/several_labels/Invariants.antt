use Rattle.am_wire.specs.LabelFields.{IsLabelAfter, label_at, label_bytes}
use Rattle.am_wire.proofs.Several.{HasRead}
use Rattle.am_wire.proofs.reader.Reader.several_labels.Given as goal

abbrev pub invariant-loop : goal.invariant-loop
invariant-loop l = HasRead (label_at l.may_be_empty) label_bytes (IsLabelAfter l.may_be_empty) l.count l.fn.self l.counter l.labels.items l.self
