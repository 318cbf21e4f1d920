use Rattle.std.proofs.Common.{◌≡◌, ◌∙◌, ◌∷◌, [], true, false, Err, refl, rules, sym, ap}
use Rattle.am_agenda.specs.Plan.{with_desk}
use Rattle.am_agenda.specs.Planned.{plan_of}
use Rattle.am_context.proofs.Changes.{one_changes, other, own}
use Rattle.am_context.proofs.Counting.{fits, no_error, passes, stops_past}
use Rattle.am_item.specs.declared.fault.Fault.TheVariants.{CountsExhausted}
use Rattle.am_limit.specs.Allowances.{allowance_of, asked}
use Rattle.am_limit.specs.Limits.{has_room, with_limit}
use Rattle.am_notifier.specs.Delivery.{notified}
use Rattle.am_notifier.specs.Notifies.{notifies_of}
use Rattle.am_notifier.specs.Steps.{Step}
use Rattle.am_notifier.specs.declared.next.Next.TheVariants.{Try}
use Rattle.am_notifier.proofs.Counting.{not_started, started}
use Rattle.am_notifier.proofs.Parts.{both}
use Rattle.am_outlet.specs.Attempts.{added}
use Rattle.am_notifier.proofs.notifier.Notifier.notify.Goals as goal

pub start-requires : goal.start-requires
unfolding notifies_of
start-requires c = c.requires

pub returns-then-not-branch-clause-does : goal.returns-then-not-branch-clause-does
unfolding notifies_of notified
returns-then-not-branch-clause-does c =
    let s = c.args.tenant.now in
    let r = c.args.self.now in
    let room = has_room (with_limit (allowance_of s r.allowances) c.args.context.now.limits.notices) c.args.context.now.moment in
    let none : room ≡ false = sym c.in_ok-take.ensures.answer ∙ search rules in
    one_changes s (λ n. (notified c.args.context.now c.args.notice n).notifies) (λ t. notifies_of t r) _
    (both (plan_of s r.agenda) _ (allowance_of s c.take.new.self) (asked c.args.context.now.limits.notices c.args.context.now.moment (allowance_of s r.allowances))
    refl (own s _ _ _ (c.in_ok-take.ensures.each s))
    ∙ ap (λ (x : Step). x.notifies) (sym (not_started room c.args.notice _ none)))
    (λ t apart. both (plan_of t r.agenda) _ (allowance_of t c.take.new.self) (allowance_of t r.allowances) refl
    (other t s _ _ _ apart (c.in_ok-take.ensures.each t)))

pub returns-then-not-branch-clause-next : goal.returns-then-not-branch-clause-next
unfolding notifies_of notified
returns-then-not-branch-clause-next c =
    let room = has_room (with_limit (allowance_of c.args.tenant.now c.args.self.now.allowances) c.args.context.now.limits.notices) c.args.context.now.moment in
    let none : room ≡ false = sym c.in_ok-take.ensures.answer ∙ search rules in
    ap (λ (x : Step). x.next) (sym (not_started room c.args.notice _ none))

pub returns-then-not-branch-clause-fits : goal.returns-then-not-branch-clause-fits
unfolding notifies_of notified
returns-then-not-branch-clause-fits c =
    let room = has_room (with_limit (allowance_of c.args.tenant.now c.args.self.now.allowances) c.args.context.now.limits.notices) c.args.context.now.moment in
    let none : room ≡ false = sym c.in_ok-take.ensures.answer ∙ search rules in
    ap (λ (x : Step). x.fits) (not_started room c.args.notice _ none)

pub returns-in-Ok-clause-does : goal.returns-in-Ok-clause-does
unfolding notifies_of notified
returns-in-Ok-clause-does c =
    let s = c.args.tenant.now in
    let r = c.args.self.now in
    let plan = plan_of s r.agenda in
    let room = has_room (with_limit (allowance_of s r.allowances) c.args.context.now.limits.notices) c.args.context.now.moment in
    let some : room ≡ true = sym c.in_ok-take.ensures.answer ∙ search rules in
    one_changes s (λ n. (notified c.args.context.now c.args.notice n).notifies) (λ t. notifies_of t r) _
    (both (plan_of s c.start.new.self) (with_desk (added c.args.notice plan.desk) plan) (allowance_of s c.take.new.self)
    (asked c.args.context.now.limits.notices c.args.context.now.moment (allowance_of s r.allowances))
    (own s _ _ _ (c.in-Ok.ensures.started s)) (own s _ _ _ (c.in_ok-take.ensures.each s))
    ∙ ap (λ (x : Step). x.notifies) (sym (started room c.args.notice _ some)))
    (λ t apart. both (plan_of t c.start.new.self) (plan_of t r.agenda) (allowance_of t c.take.new.self) (allowance_of t r.allowances)
    (other t s _ _ _ apart (c.in-Ok.ensures.started t)) (other t s _ _ _ apart (c.in_ok-take.ensures.each t)))

pub returns-in-Ok-clause-next : goal.returns-in-Ok-clause-next
unfolding notifies_of notified
returns-in-Ok-clause-next c =
    let room = has_room (with_limit (allowance_of c.args.tenant.now c.args.self.now.allowances) c.args.context.now.limits.notices) c.args.context.now.moment in
    let some : room ≡ true = sym c.in_ok-take.ensures.answer ∙ search rules in
    ap (λ sending. Try sending ∷ []) c.in-Ok.ensures.sending ∙ ap (λ (x : Step). x.next) (sym (started room c.args.notice _ some))

pub returns-in-Ok-clause-fits : goal.returns-in-Ok-clause-fits
unfolding notifies_of notified
returns-in-Ok-clause-fits c =
    let plan = plan_of c.args.tenant.now c.args.self.now.agenda in
    let room = has_room (with_limit (allowance_of c.args.tenant.now c.args.self.now.allowances) c.args.context.now.limits.notices) c.args.context.now.moment in
    let some : room ≡ true = sym c.in_ok-take.ensures.answer ∙ search rules in
    ap (λ (x : Step). x.fits) (started room c.args.notice _ some) ∙ fits plan.desk.used (λ le. no_error c.in-Ok.sending CountsExhausted (c.in-Ok.ensures.fault.1 le))

pub returns-in-Err-clause-fault : goal.returns-in-Err-clause-fault
unfolding notifies_of notified
returns-in-Err-clause-fault c =
    let plan = plan_of c.args.tenant.now c.args.self.now.agenda in
    let room = has_room (with_limit (allowance_of c.args.tenant.now c.args.self.now.allowances) c.args.context.now.limits.notices) c.args.context.now.moment in
    let some : room ≡ true = sym c.in_ok-take.ensures.answer ∙ search rules in
    stops_past (notified c.args.context.now c.args.notice (notifies_of c.args.tenant.now c.args.self.now)).fits c.in-Err.fault
    (λ counts. ap (λ (x : Step). x.fits) (started room c.args.notice _ some) ∙ passes plan.desk.used (c.in-Err.ensures.fault.0 (ap Err counts)))
    (λ never. c.in-Err.ensures.no_pattern (ap Err never)) (λ never. c.in-Err.ensures.no_store (ap Err never))
