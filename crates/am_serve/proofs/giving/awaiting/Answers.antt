use Rattle.std.proofs.Common.{arith, sym, ◌∙◌}
use Rattle.std.proofs.lemmas.Bool.{false≢true}
use Rattle.am_serve.proofs.Awaiting.{none_at_all, none_more}
use Rattle.am_serve.proofs.giving.awaiting.Goals as goal

pub loop-key-preserved : goal.loop-key-preserved
loop-key-preserved g c =
    none_more c.args.connection c.args.clients.now c.loop-key.key c.loop-key.invariant
    (λ awaits. false≢true (sym c.if-awaits_at.false ∙ c.awaits_at.ensures.1 awaits))

pub returns-clause-none : goal.returns-clause-none
returns-clause-none g c =
    none_at_all c.args.connection c.args.clients.now c.loop-key.key
    (omega (arith, c.capacity-key-end.ensures.slots, c.loop-key-test.false)) c.loop-key.invariant
