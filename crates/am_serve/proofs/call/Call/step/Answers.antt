use Rattle.am_serve.proofs.Calling.{call_settled}
use Rattle.am_serve.proofs.call.Call.step.Goals as goal

pub returns-in-Awaiting : goal.returns-in-Awaiting
returns-in-Awaiting g c = call_settled g.S.Socket.does _ _ _ _ c.settle.ensures.moves c.settle.ensures.socket c.hear.ensures

pub returns-in-Asking : goal.returns-in-Asking
returns-in-Asking g c = call_settled g.S.Socket.does _ _ _ _ c.settle.ensures.moves c.settle.ensures.socket c.ask.ensures
