use Rattle.std.proofs.Common.{◌≤◌}
use Rattle.am_serve.specs.Clients.{Turned}
use Rattle.am_serve.specs.declared.client.Turn.TheVariants.{More}
use Rattle.am_serve.proofs.client.Client.turn.Given as goal

abbrev pub invariant-loop : goal.invariant-loop
invariant-loop g l = (l.self.held ≤ l.most) × Turned g.S.Socket.does g.H.Host.takes l.counter l.most l.now l.fn.self l.self l.fn.host l.host More
