use Rattle.std.proofs.Common.{◌≡◌, ◌∙◌, refl, sym, subst}
use Rattle.std.proofs.lemmas.Result.{on_ok_weaker}
use Rattle.std.specs.Prelude.{IfErr, IfOk}
use Rattle.am_agenda.specs.Plan.{flush_due}
use Rattle.am_context.specs.Stopping.{StopsPast}
use Rattle.am_notifier.specs.Flushing.{Says, flushed, flushed_due}
use Rattle.am_notifier.specs.Notifies.{notifies_of}
use Rattle.am_notifier.specs.Steps.{Step}
use Rattle.am_notifier.proofs.Flushable.{has_members, has_route}
use Rattle.am_notifier.proofs.Flushes.{does_as, does_nothing, due_some, flushes_if, passes_over}
use Rattle.am_notifier.proofs.notifier.Notifier.flush_due.Goals as goal

pub returns-then-not-is_due-clause-does : goal.returns-then-not-is_due-clause-does
returns-then-not-is_due-clause-does c =
    does_nothing c.args.tenant.now (flushed_due c.args.context.now c.args.basis.now.config.now c.args.basis.now.held.now c.args.basis.now.muted.now c.args.key.now) c.args.self.now
    (passes_over c.args.context.now c.args.basis.now.config.now c.args.basis.now.held.now c.args.basis.now.muted.now c.args.key.now (notifies_of c.args.tenant.now c.args.self.now)
    (sym (rw c.in_ok-copy.ensures at c.is_due.ensures) ∙ c.if-not-is_due.true))

pub returns-then-not-is_due-clause-says : goal.returns-then-not-is_due-clause-says
returns-then-not-is_due-clause-says c =
    let none = passes_over c.args.context.now c.args.basis.now.config.now c.args.basis.now.held.now c.args.basis.now.muted.now c.args.key.now (notifies_of c.args.tenant.now c.args.self.now)
    (sym (rw c.in_ok-copy.ensures at c.is_due.ensures) ∙ c.if-not-is_due.true) in
    rw none (record { next = c.new.ensures.items; fits = refl })

pub flush-requires-clause-members : goal.flush-requires-clause-members
flush-requires-clause-members c =
    let n = notifies_of c.args.tenant.now c.args.self.now in
    let due = due_some c.args.context.now.moment (flush_due n.plan.paces n.plan.grouped c.args.key.now) (sym (rw c.in_ok-copy.ensures at c.is_due.ensures) ∙ c.if-not-is_due.false) in
    rw c.in_ok-copy.ensures (has_members n.plan.paces n.plan.grouped c.args.key.now due.0 due.1)

pub flush-requires-clause-route : goal.flush-requires-clause-route
flush-requires-clause-route c =
    let n = notifies_of c.args.tenant.now c.args.self.now in
    let due = due_some c.args.context.now.moment (flush_due n.plan.paces n.plan.grouped c.args.key.now) (sym (rw c.in_ok-copy.ensures at c.is_due.ensures) ∙ c.if-not-is_due.false) in
    has_route c.args.basis.now.config.now n.position n.plan.paces n.plan.grouped c.args.key.now due.0 c.requires.planned due.1

pub returns-clause-does : goal.returns-clause-does
returns-clause-does c =
    let n = notifies_of c.args.tenant.now c.args.self.now in
    let is : flushed c.args.context.now c.args.basis.now.config.now c.args.basis.now.held.now c.args.basis.now.muted.now (record { route = c.args.key.now.route; labels = c.in_ok-copy.field-0 }) n
    ≡ flushed_due c.args.context.now c.args.basis.now.config.now c.args.basis.now.held.now c.args.basis.now.muted.now c.args.key.now n =
    rw c.in_ok-copy.ensures (sym (flushes_if c.args.context.now c.args.basis.now.config.now c.args.basis.now.held.now c.args.basis.now.muted.now c.args.key.now n (sym (rw c.in_ok-copy.ensures at c.is_due.ensures) ∙ c.if-not-is_due.false))) in
    on_ok_weaker c.flush.result
    (λ does. does_as c.args.tenant.now (flushed c.args.context.now c.args.basis.now.config.now c.args.basis.now.held.now c.args.basis.now.muted.now (record { route = c.args.key.now.route; labels = c.in_ok-copy.field-0 }))
    (flushed_due c.args.context.now c.args.basis.now.config.now c.args.basis.now.held.now c.args.basis.now.muted.now c.args.key.now) c.args.self.now c.flush.new.self is does) c.flush.ensures.does

pub returns-clause-says : goal.returns-clause-says
returns-clause-says c =
    let n = notifies_of c.args.tenant.now c.args.self.now in
    let is : flushed c.args.context.now c.args.basis.now.config.now c.args.basis.now.held.now c.args.basis.now.muted.now (record { route = c.args.key.now.route; labels = c.in_ok-copy.field-0 }) n
    ≡ flushed_due c.args.context.now c.args.basis.now.config.now c.args.basis.now.held.now c.args.basis.now.muted.now c.args.key.now n =
    rw c.in_ok-copy.ensures (sym (flushes_if c.args.context.now c.args.basis.now.config.now c.args.basis.now.held.now c.args.basis.now.muted.now c.args.key.now n (sym (rw c.in_ok-copy.ensures at c.is_due.ensures) ∙ c.if-not-is_due.false))) in
    subst (λ (s : Step). IfOk c.flush.result (λ next. Says next.items s)) is c.flush.ensures.says

pub returns-clause-fault : goal.returns-clause-fault
returns-clause-fault c =
    let n = notifies_of c.args.tenant.now c.args.self.now in
    let is : flushed c.args.context.now c.args.basis.now.config.now c.args.basis.now.held.now c.args.basis.now.muted.now (record { route = c.args.key.now.route; labels = c.in_ok-copy.field-0 }) n
    ≡ flushed_due c.args.context.now c.args.basis.now.config.now c.args.basis.now.held.now c.args.basis.now.muted.now c.args.key.now n =
    rw c.in_ok-copy.ensures (sym (flushes_if c.args.context.now c.args.basis.now.config.now c.args.basis.now.held.now c.args.basis.now.muted.now c.args.key.now n (sym (rw c.in_ok-copy.ensures at c.is_due.ensures) ∙ c.if-not-is_due.false))) in
    subst (λ (s : Step). IfErr c.flush.result (λ fault. StopsPast s.fits fault)) is c.flush.ensures.fault
