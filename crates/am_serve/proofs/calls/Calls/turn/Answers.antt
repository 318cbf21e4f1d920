use Rattle.std.proofs.Common.{arith}
use Rattle.am_serve.proofs.CallSums.{request-bound, requests-bound}
use Rattle.am_serve.proofs.CallTurns.{call_turned, name_kept}
use Rattle.am_serve.proofs.Turns.{get_with}
use Rattle.am_serve.proofs.calls.Calls.turn.Goals as goal

pub returns-in-More-clause-turned : goal.returns-in-More-clause-turned
returns-in-More-clause-turned g c =
    call_turned g.S.Socket.does c.args.self.now.calls _ c.args.key _ c.turn-step.new.self _ c.in_ok-call.ensures.value c.in-More.ensures
    (get_with c.args.self.now.calls c.args.key _ c.turn-step.new.self c.in_ok-call.ensures.value)

pub returns-in-Waits-clause-turned : goal.returns-in-Waits-clause-turned
returns-in-Waits-clause-turned g c =
    call_turned g.S.Socket.does c.args.self.now.calls _ c.args.key _ c.turn-step.new.self _ c.in_ok-call.ensures.value c.in-Waits.ensures
    (get_with c.args.self.now.calls c.args.key _ c.turn-step.new.self c.in_ok-call.ensures.value)

pub returns-in_ok-ended-in-Ended-clause-turned : goal.returns-in_ok-ended-in-Ended-clause-turned
returns-in_ok-ended-in-Ended-clause-turned g c =
    call_turned g.S.Socket.does c.args.self.now.calls c.try_remove.new.self c.args.key _ c.turn-step.new.self _ c.in_ok-call.ensures.value c.in-Ended.ensures (
      c.in_ok-ended-in-Ended.ensures.updates.changed,
      name_kept g.S.Socket.does c.args.self.now.calls c.args.key _ c.turn-step.new.self c.in_ok-ended-in-Ended.ended _ _ c.in_ok-call.ensures.value c.in-Ended.ensures c.in_ok-ended-in-Ended.ensures.value c.into_name-name.ensures,
    )

pub overflow_add-self : goal.overflow_add-self
overflow_add-self g c =
    let table = c.args.self.now in
    omega (
      arith,
      requests-bound table.calls.slots,
      request-bound c.turn-step.new.self.stage,
      c.request_bytes-2.ensures,
      table.requests,
      table.bounded,
      table.few,
    )
