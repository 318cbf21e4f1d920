use Rattle.std.proofs.Common.{None}
use Rattle.std.proofs.lemmas.Result.{err_from_is_err_and}
use Rattle.am_wire.specs.ItemFields.{IsItem, item_at, item_bytes}
use Rattle.am_wire.proofs.Several.{all_of_chain, fails, goes_to_end, read_more}
use Rattle.am_wire.proofs.reader.Reader.several_items.Goals as goal

pub returns-in_err-item-clause-read : goal.returns-in_err-item-clause-read
returns-in_err-item-clause-read c =
    let p = err_from_is_err_and c.from_residual.result c.from_residual.ensures.1 in
    rw (p.1, p.2)
    (fails (λ before. item_at) c.args.count c.args.self.now c.loop.counter c.loop.items.items c.loop.self c.in_err-item.field-0.0 c.loop-test.true c.in_err-item.ensures.read c.loop.invariant.goes)

pub loop-preserved : goal.loop-preserved
loop-preserved c =
    rw c.in_ok-push.ensures.items
    (read_more (λ before. item_at) item_bytes (λ before. IsItem) c.args.count c.args.self.now c.loop.counter c.loop.items.items c.loop.self c.in_ok-item.item c.item.new.self
    c.loop-test.true c.in_ok-item.ensures.read c.in_ok-item.ensures.found c.in_ok-item.ensures.valid c.loop.invariant)

pub returns-clause-read : goal.returns-clause-read
returns-clause-read c =
    goes_to_end (λ before. item_at) c.args.count c.args.self.now c.loop.counter c.loop.items.items c.loop.self c.loop-test.false c.loop.invariant.goes

pub returns-clause-valid : goal.returns-clause-valid
returns-clause-valid c = all_of_chain IsItem None c.loop.items.items c.loop.invariant.valid
