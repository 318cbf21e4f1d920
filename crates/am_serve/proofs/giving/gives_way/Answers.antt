use Rattle.std.proofs.Common.{arith}
use Rattle.am_serve.proofs.Longest.{gives}
use Rattle.am_serve.proofs.giving.gives_way.Goals as goal

pub returns-clause-some : goal.returns-clause-some
returns-clause-some g c =
    gives c.args.wanted c.args.clients.now c.loop-key.key c.in_ok-key.key c.in_ok-key.field-0-1
    (omega (arith, c.capacity-key-end.ensures.slots, c.loop-key-test.false)) (rw c.in_ok-key.was at c.loop-key.invariant)
