use Rattle.std.proofs.lemmas.Result.{err_from_is_err_and}
use Rattle.am_wire.specs.LabelFields.{IsLabelAfter, label_at, label_bytes}
use Rattle.am_wire.proofs.Several.{fails, goes_to_end, read_more}
use Rattle.am_wire.proofs.reader.Reader.several_labels.Goals as goal

pub returns-in_err-label-clause-read : goal.returns-in_err-label-clause-read
returns-in_err-label-clause-read c =
    let p = err_from_is_err_and c.from_residual.result c.from_residual.ensures.1 in
    rw (p.1, p.2)
    (fails (label_at c.args.may_be_empty) c.args.count c.args.self.now c.loop.counter c.loop.labels.items c.loop.self c.in_err-label.field-0.0 c.loop-test.true (rw c.deref.ensures.value at c.in_err-label.ensures.read) c.loop.invariant.goes)

pub loop-preserved : goal.loop-preserved
loop-preserved c =
    rw c.in_ok-push.ensures.items
    (read_more (label_at c.args.may_be_empty) label_bytes (IsLabelAfter c.args.may_be_empty) c.args.count c.args.self.now c.loop.counter c.loop.labels.items c.loop.self c.in_ok-label.label c.label.new.self
    c.loop-test.true (rw c.deref.ensures.value at c.in_ok-label.ensures.read) c.in_ok-label.ensures.found (rw c.deref.ensures.value at c.in_ok-label.ensures.valid) c.loop.invariant)

pub returns-clause-read : goal.returns-clause-read
returns-clause-read c =
    goes_to_end (label_at c.args.may_be_empty) c.args.count c.args.self.now c.loop.counter c.loop.labels.items c.loop.self c.loop-test.false c.loop.invariant.goes
