use Rattle.std.proofs.Common.{arith}
use Rattle.am_serve.proofs.CallSums.{request-bound, requests-bound, requests-new}
use Rattle.am_serve.proofs.calls.Calls.add.Goals as goal

pub overflow_add-self : goal.overflow_add-self
overflow_add-self g c =
    let table = c.args.self.now in
    omega (
      arith,
      requests-bound table.calls.slots,
      request-bound c.new-call.result.stage,
      c.request_bytes.ensures,
      table.requests,
      table.bounded,
      table.few,
    )

pub invariant_of-self-clause-requests : goal.invariant_of-self-clause-requests
invariant_of-self-clause-requests g c =
    let table = c.args.self.now in
    let inserted = c.insert_reserved.ensures in
    omega (
      arith,
      table.requests,
      c.request_bytes.ensures,
      requests-new table.calls c.insert_reserved.new.self c.insert_reserved.result c.new-call.result inserted.was_vacant inserted.updates,
    )
