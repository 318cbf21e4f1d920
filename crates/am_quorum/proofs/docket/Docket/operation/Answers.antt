use Rattle.std.proofs.Common.{ℕ, ◌==◌, Bool, true, false, Option, Some, None, ◌≡◌, refl, sym, ap, ◌∙◌}
use Rattle.am_quorum.specs.Operations.{of_epoch}
use Rattle.am_quorum.specs.declared.operation.Operation.{Operation}
use Rattle.am_quorum.proofs.Numbered.{found, found_passing, passing}
use Rattle.am_quorum.proofs.docket.Docket.operation.Goals as goal

pub returns-clause-operation : goal.returns-clause-operation
returns-clause-operation c = rw (← c.self.view_is) (c.get.ensures.value ∙ sym (found c.args.number c.self.inside.operations.entries c.self.invariant.numbered))

passes_epoch : (epoch : ℕ) (o : Option Operation) → passing (λ o. o.epoch == epoch) o ≡ of_epoch epoch o
passes_epoch epoch None = refl
passes_epoch epoch (Some o) = refl

pub returns-clause-alone : goal.returns-clause-alone
returns-clause-alone c = rw (← c.self.view_is) (λ epoch.
    let es = c.self.inside.operations.entries in
    found_passing c.args.number (λ o. o.epoch == epoch) es c.self.invariant.rising c.self.invariant.numbered
    ∙ passes_epoch epoch _
    ∙ ap (of_epoch epoch) (sym (found c.args.number es c.self.invariant.numbered)))
