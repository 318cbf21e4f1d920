use Rattle.std.proofs.lemmas.Result.{err_from_is_err_and}
use Rattle.am_wire.specs.LabelFields.{IsSetAfter, label_set_at, labels_bytes}
use Rattle.am_wire.proofs.Several.{fails, goes_to_end, read_more}
use Rattle.am_wire.proofs.reader.Reader.several_sets.Goals as goal

pub returns-in_err-set-clause-read : goal.returns-in_err-set-clause-read
returns-in_err-set-clause-read c =
    let p = err_from_is_err_and c.from_residual.result c.from_residual.ensures.1 in
    rw (p.1, p.2)
    (fails label_set_at c.args.count c.args.self.now c.loop.counter c.loop.sets.items c.loop.self c.in_err-set.field-0.0 c.loop-test.true (rw c.deref.ensures.value at c.in_err-set.ensures.read) c.loop.invariant.goes)

pub loop-preserved : goal.loop-preserved
loop-preserved c =
    rw c.in_ok-push.ensures.items
    (read_more label_set_at labels_bytes IsSetAfter c.args.count c.args.self.now c.loop.counter c.loop.sets.items c.loop.self c.in_ok-set.set c.rising_set.new.self
    c.loop-test.true (rw c.deref.ensures.value at c.in_ok-set.ensures.read) c.in_ok-set.ensures.found (rw c.deref.ensures.value at c.in_ok-set.ensures.valid) c.loop.invariant)

pub returns-clause-read : goal.returns-clause-read
returns-clause-read c =
    goes_to_end label_set_at c.args.count c.args.self.now c.loop.counter c.loop.sets.items c.loop.self c.loop-test.false c.loop.invariant.goes
