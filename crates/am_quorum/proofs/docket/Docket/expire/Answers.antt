use Rattle.std.proofs.Common.{◌≡◌, ℕ, true, false, Option, Some, None, nat_le, is_some, refl, sym, ap, ◌∙◌}
use Rattle.am_quorum.specs.declared.operation.Operation.{Operation}
use Rattle.am_quorum.specs.Dockets.{with_operations}
use Rattle.am_quorum.specs.Operations.{due_of, late, operation_at, without, without_operation}
use Rattle.am_quorum.proofs.Deadlines.{if_none, if_some, number_at}
use Rattle.am_quorum.proofs.docket.Docket.expire.Goals as goal

late_one : (now : ℕ) (o : Operation) → nat_le (due_of o) now ≡ true → late now (Some o) ≡ Some o
late_one now o h = rw h refl

early_one : (now : ℕ) (o : Operation) → nat_le (due_of o) now ≡ false → late now (Some o) ≡ None
early_one now o h = rw h refl

pub returns-in_default-clause-operation : goal.returns-in_default-clause-operation
returns-in_default-clause-operation c = ap (late c.args.now) c.in_default.ensures.operation

pub returns-in_default-clause-docket : goal.returns-in_default-clause-docket
returns-in_default-clause-docket c =
    ap (λ (o : Option Operation). with_operations (without (late c.args.now o)) c.args.self.now) c.in_default.ensures.operation

pub returns-then-not-is_late-clause-operation : goal.returns-then-not-is_late-clause-operation
returns-then-not-is_late-clause-operation c =
    sym (early_one c.args.now c.in-Some.operation.now (sym c.is_late.ensures ∙ c.if-not-is_late.true)) ∙ ap (late c.args.now) c.in-Some.ensures.operation

pub returns-then-not-is_late-clause-docket : goal.returns-then-not-is_late-clause-docket
returns-then-not-is_late-clause-docket c =
    let none : None ≡ late c.args.now (operation_at c.args.number c.args.self.now.operations) = returns-then-not-is_late-clause-operation c in
    ap (λ (o : Option Operation). with_operations (without o) c.args.self.now) none

pub returns-clause-operation : goal.returns-clause-operation
returns-clause-operation c =
    c.close.ensures.operation ∙ sym c.in-Some.ensures.operation
    ∙ sym (late_one c.args.now c.in-Some.operation.now (sym c.is_late.ensures ∙ c.if-not-is_late.false)) ∙ ap (late c.args.now) c.in-Some.ensures.operation

pub returns-clause-docket : goal.returns-clause-docket
returns-clause-docket c =
    let o = c.in-Some.operation.now in
    let number : o.number ≡ c.args.number = number_at c.args.number o c.args.self.now.operations (sym c.in-Some.ensures.operation) in
    let due : Some o ≡ late c.args.now (operation_at c.args.number c.args.self.now.operations) =
    sym (late_one c.args.now o (sym c.is_late.ensures ∙ c.if-not-is_late.false)) ∙ ap (late c.args.now) c.in-Some.ensures.operation in
    c.close.ensures.docket ∙ ap (λ (n : ℕ). with_operations (without_operation n) c.args.self.now) (sym number)
    ∙ ap (λ (x : Option Operation). with_operations (without x) c.args.self.now) due

pub returns-clause-over : goal.returns-clause-over
returns-clause-over c = if_some c.close.result c.close.ensures.deadlines

pub returns-clause-open : goal.returns-clause-open
returns-clause-open c = if_none _ c.close.result (ap is_some (c.close.ensures.operation ∙ sym c.in-Some.ensures.operation))
