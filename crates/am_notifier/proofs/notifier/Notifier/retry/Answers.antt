use Rattle.std.proofs.Common.{refl}
use Rattle.std.proofs.lemmas.Result.{on_ok_weaker}
use Rattle.am_agenda.specs.Planned.{plan_of}
use Rattle.am_context.proofs.Changes.{one_changes, other, own}
use Rattle.am_limit.specs.Allowances.{allowance_of}
use Rattle.am_notifier.specs.Delivery.{with_retry}
use Rattle.am_notifier.specs.Notifies.{notifies_of}
use Rattle.am_notifier.proofs.Parts.{both}
use Rattle.am_notifier.proofs.notifier.Notifier.retry.Goals as goal

pub returns-clause-does : goal.returns-clause-does
unfolding notifies_of
returns-clause-does c =
    let s = c.args.tenant.now in
    let r = c.args.self.now in
    on_ok_weaker c.retry.result
    (λ tried. one_changes s (with_retry c.args.number c.args.moment) (λ t. notifies_of t r) _
    (both _ _ (allowance_of s r.allowances) _ (own s _ _ _ (tried s)) refl)
    (λ t apart. both _ (plan_of t r.agenda) (allowance_of t r.allowances) _ (other t s _ _ _ apart (tried t)) refl))
    c.retry.ensures.each

pub returns-clause-sending : goal.returns-clause-sending
unfolding notifies_of
returns-clause-sending c = c.retry.ensures.sending
