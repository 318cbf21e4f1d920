use Rattle.am_wire.specs.LabelFields.{IsSetAfter, label_set_at, labels_bytes}
use Rattle.am_wire.proofs.Several.{HasRead}
use Rattle.am_wire.proofs.reader.Reader.several_sets.Given as goal

abbrev pub invariant-loop : goal.invariant-loop
invariant-loop l = HasRead label_set_at labels_bytes IsSetAfter l.count l.fn.self l.counter l.sets.items l.self
