use Rattle.am_serve.specs.Calls.{CallWorks}
use Rattle.am_serve.specs.declared.call.Step.TheVariants.{More}
use Rattle.am_serve.proofs.call.Call.turn.Given as goal

abbrev pub invariant-loop : goal.invariant-loop
invariant-loop g l = CallWorks g.S.Socket.does l.counter l.fn.self l.self More
