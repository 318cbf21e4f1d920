use Rattle.std.proofs.Common.{IfSome, sym, subst, ◌∙◌}
use Rattle.std.proofs.lemmas.Bool.{false≢true}
use Rattle.am_serve.specs.Giving.{Gives, IsEarlier}
use Rattle.am_serve.proofs.Longest.{stays, takes}
use Rattle.am_serve.proofs.giving.longest.Goals as goal
use Rattle.am_serve.proofs.giving.longest.Goals.{else-gives-via-then-gives+else-is_earlier, else-gives-via-else-gives}

pub returns-in_default : goal.returns-in_default
returns-in_default g c =
    stays c.args.wanted c.args.clients.now c.args.key c.args.found
    (subst (λ slot. IfSome slot (λ client. Gives c.args.wanted client → IsEarlier client.moved c.args.found → ⊥)) c.in_default.ensures tt) c.requires

pub returns-then-is_earlier : goal.returns-then-is_earlier
returns-then-is_earlier g c =
    rw c.moved-then-is_earlier.ensures
    (takes c.args.wanted c.args.clients.now c.args.key c.args.found _ (sym c.in-Some.ensures) (c.gives.ensures.0 c.if-gives.true)
    (rw c.moved.ensures at (c.is_earlier.ensures.0 c.if-is_earlier.true)) c.requires)

pub returns-else-gives : goal.returns-else-gives
returns-else-gives g c =
    stays c.args.wanted c.args.clients.now c.args.key c.args.found
    (subst (λ slot. IfSome slot (λ client. Gives c.args.wanted client → IsEarlier client.moved c.args.found → ⊥)) c.in-Some.ensures
    (elim c.else-gives.branch [
      | else-gives-via-then-gives+else-is_earlier w ↦ λ gives earlier. false≢true (sym w.if-is_earlier.false ∙ w.is_earlier.ensures.1 (rw w.moved.ensures earlier))
      | else-gives-via-else-gives w ↦ λ gives earlier. false≢true (sym w.if-gives.false ∙ c.gives.ensures.1 gives)
    ])) c.requires
