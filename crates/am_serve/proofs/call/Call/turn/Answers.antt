use Rattle.std.proofs.Common.{arith}
use Rattle.am_serve.proofs.Calling.{call_begun, call_goes_on, call_over}
use Rattle.am_serve.proofs.call.Call.turn.Goals as goal

pub loop-init : goal.loop-init
loop-init g c = call_begun g.S.Socket.does _

pub returns-in_default : goal.returns-in_default
returns-in_default g c = call_over g.S.Socket.does _ _ _ _ _ (omega arith) c.in_default.not-More (call_goes_on g.S.Socket.does _ _ _ _ _ c.loop.invariant c.step.ensures)

pub loop-preserved : goal.loop-preserved
loop-preserved g c = call_goes_on g.S.Socket.does _ _ _ _ _ c.loop.invariant c.in-More.ensures
