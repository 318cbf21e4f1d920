use Rattle.std.proofs.Common.{◌≡◌, ℕ, refl, sym, subst, ap, ◌∙◌}
use Rattle.am_quorum.specs.Dockets.{Docket}
use Rattle.am_quorum.specs.Operations.{of_epoch, operation_at, operation_of}
use Rattle.am_quorum.proofs.Seen.{no_own, own_docket}
use Rattle.am_quorum.proofs.ops.Ops.get.Goals as goal

pub returns-in-Some-clause-operation : goal.returns-in-Some-clause-operation
returns-in-Some-clause-operation c =
    rw (← c.self.view_is) (c.operation.ensures.operation ∙ sym (ap (λ (d : Docket). operation_at c.args.number d.operations)
    (own_docket c.self.inside.incarnation c.self.inside.dockets c.args.tenant.now c.in-Some.docket.now c.in-Some.ensures.value)))

pub returns-in-None-clause-operation : goal.returns-in-None-clause-operation
returns-in-None-clause-operation c =
    rw (← c.self.view_is) (sym (ap (λ (d : Docket). operation_at c.args.number d.operations)
    (no_own c.self.inside.incarnation c.self.inside.dockets c.args.tenant.now c.in-None.ensures.value)))

pub returns-in-Some-clause-ordered : goal.returns-in-Some-clause-ordered
returns-in-Some-clause-ordered c = rw (← c.self.view_is) c.self.invariant.rising

pub returns-in-None-clause-ordered : goal.returns-in-None-clause-ordered
returns-in-None-clause-ordered c = rw (← c.self.view_is) c.self.invariant.rising

abbrev IsAlone : ℕ → Docket → Type 0
IsAlone number d = (epoch : ℕ) → operation_of number epoch d.operations ≡ of_epoch epoch (operation_at number d.operations)

pub returns-in-Some-clause-alone : goal.returns-in-Some-clause-alone
returns-in-Some-clause-alone c =
    rw (← c.self.view_is) (subst (IsAlone c.args.number)
    (sym (own_docket c.self.inside.incarnation c.self.inside.dockets c.args.tenant.now c.in-Some.docket.now c.in-Some.ensures.value)) c.operation.ensures.alone)

pub returns-in-None-clause-alone : goal.returns-in-None-clause-alone
returns-in-None-clause-alone c =
    rw (← c.self.view_is) (subst (IsAlone c.args.number)
    (sym (no_own c.self.inside.incarnation c.self.inside.dockets c.args.tenant.now c.in-None.ensures.value)) (λ epoch. refl))
