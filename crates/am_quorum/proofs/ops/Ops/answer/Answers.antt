use Rattle.std.proofs.Common.{◌≡◌, Option, refl, sym, ap, ◌∙◌, arith}
use Rattle.std.proofs.lemmas.Result.{IfOk-weaker, on_err_weaker, on_ok_weaker}
use Rattle.am_quorum.specs.declared.operation.Operation.{Operation}
use Rattle.am_quorum.specs.Dockets.{Docket, answered_in, no_docket, with_operations}
use Rattle.am_quorum.specs.Operations.{answered_by, lists_by, target_in}
use Rattle.am_quorum.proofs.Seen.{each_none, each_same, each_written, no_own, nobody, own_docket, target_here}
use Rattle.am_quorum.proofs.Timed.{is_kept}
use Rattle.am_quorum.proofs.ops.Ops.answer.Goals as goal

pub returns-in_default-clause-decide : goal.returns-in_default-clause-decide
returns-in_default-clause-decide c =
    let i = c.self.inside.incarnation in
    rw (← c.self.view_is) (sym (ap (λ (d : Docket). lists_by c.args.answered (target_in i c.args.target d.operations))
    (no_own i c.self.inside.dockets c.args.tenant.now c.in_default.ensures.value) ∙ ap (lists_by c.args.answered) (nobody i c.args.target)))

pub returns-in_default-clause-each : goal.returns-in_default-clause-each
returns-in_default-clause-each c =
    let i = c.self.inside.incarnation in
    rw (c.get_mut.follows.holds-at-none, ← c.self.view_is)
    (each_none i c.self.inside.dockets c.args.tenant.now (answered_in i c.args.target c.args.answered) c.in_default.ensures.value
    (ap (λ (o : Option Operation). with_operations (answered_by c.args.answered o) no_docket) (nobody i c.args.target)))

pub returns-clause-decide : goal.returns-clause-decide
returns-clause-decide c =
    let i = c.self.inside.incarnation in
    let is : c.args.target.incarnation ≡ c.self.inside.incarnation = omega arith in
    rw (← c.self.view_is) (IfOk-weaker c.answer.result _ _
    (λ decide is_it. is_it ∙ ap (lists_by c.args.answered) (sym (target_here i c.args.target c.in-Some.docket.now.operations is))
    ∙ ap (λ (d : Docket). lists_by c.args.answered (target_in i c.args.target d.operations))
    (sym (own_docket i c.self.inside.dockets c.args.tenant.now c.in-Some.docket.now c.in-Some.ensures.value)))
    c.answer.ensures.decide)

pub returns-clause-each : goal.returns-clause-each
returns-clause-each c =
    let i = c.self.inside.incarnation in
    let now = c.answer.new.self in
    let is : c.args.target.incarnation ≡ c.self.inside.incarnation = omega arith in
    rw (← c.self.view_is) (on_ok_weaker c.answer.result
    (λ it t. each_written i c.self.inside.dockets (c.get_mut.follows.lender now) c.args.tenant.now (answered_in i c.args.target c.args.answered)
    c.in-Some.docket.now now c.in-Some.ensures.value (c.get_mut.follows.holds now)
    (it ∙ ap (λ (o : Option Operation). with_operations (answered_by c.args.answered o) c.in-Some.docket.now)
    (sym (target_here i c.args.target c.in-Some.docket.now.operations is))) t)
    c.answer.ensures.docket)

pub returns-clause-err : goal.returns-clause-err
returns-clause-err c =
    let i = c.self.inside.incarnation in
    let now = c.answer.new.self in
    rw (← c.self.view_is) (on_err_weaker c.answer.result
    (λ it t. each_same i c.self.inside.dockets (c.get_mut.follows.lender now) c.args.tenant.now c.in-Some.docket.now now c.in-Some.ensures.value
    (c.get_mut.follows.holds now) it t)
    c.answer.ensures.err)

pub invariant_of-self-2 : goal.invariant_of-self-2
invariant_of-self-2 c =
    let now = c.answer.new.self in
    is_kept c.self.inside.incarnation c.self.inside.dockets (c.get_mut.follows.lender now) c.args.tenant.now c.in-Some.docket.now now c.in-Some.ensures.value
    (c.get_mut.follows.holds now) c.self.inside.timers.timers c.self.inside.timers.timers c.self.invariant refl c.answer.ensures.deadlines
