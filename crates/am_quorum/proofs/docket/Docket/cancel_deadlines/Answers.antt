use Rattle.std.proofs.Common.{◌≡◌, ◌∷◌, [], List, sym, ap, ◌∙◌, rules}
use Rattle.am_quorum.specs.Deadlines.{without_deadlines}
use Rattle.am_quorum.specs.declared.operation.Operation.{Operation}
use Rattle.am_quorum.proofs.Timed.{cancelled_more, none_cancelled}
use Rattle.am_quorum.proofs.docket.Docket.cancel_deadlines.Goals as goal

pub loop-operation-preserved : goal.loop-operation-preserved
loop-operation-preserved c =
    let t = c.args.tenant.now in
    let split : c.loop-operation.operation-iterator ≡ c.in-Some.operation.now ∷ c.next.new.self = search rules in
    ap (without_deadlines t c.next.new.self) c.cancel_deadline.ensures
    ∙ cancelled_more t c.in-Some.operation.now c.next.new.self c.loop-operation.timers.timers
    ∙ ap (λ (ops : List Operation). without_deadlines t ops c.loop-operation.timers.timers) (sym split) ∙ c.loop-operation.invariant

pub returns : goal.returns
returns c =
    let none : c.loop-operation.operation-iterator ≡ [] = search rules in
    sym (none_cancelled c.args.tenant.now c.loop-operation.timers.timers)
    ∙ ap (λ (ops : List Operation). without_deadlines c.args.tenant.now ops c.loop-operation.timers.timers) (sym none) ∙ c.loop-operation.invariant
