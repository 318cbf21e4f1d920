use Rattle.std.proofs.Common.{◌∙◌, ap, refl}
use Rattle.am_agenda.specs.Plan.{Plan, with_desk, with_flush}
use Rattle.am_agenda.specs.Planned.{plan_of}
use Rattle.am_context.proofs.Changes.{one_changes, other, own}
use Rattle.am_limit.specs.Allowances.{allowance_of}
use Rattle.am_notifier.specs.Flushing.{begun, without_keys}
use Rattle.am_notifier.specs.Notifies.{notifies_of}
use Rattle.am_notifier.proofs.Parts.{both}
use Rattle.am_notifier.proofs.notifier.Notifier.begin.Goals as goal

pub flush_at-requires : goal.flush_at-requires
unfolding notifies_of
flush_at-requires c = c.requires.members

pub returns : goal.returns
unfolding notifies_of
returns c =
    let s = c.args.tenant.now in
    let r = c.args.self.now in
    let group = c.args.group.now in
    let moment = c.args.moment in
    let plan = plan_of s r.agenda in
    one_changes s (begun moment c.args.config.now group) (λ t. notifies_of t r) _
    (both (plan_of s c.drop_attempts.new.agenda) _ (allowance_of s r.allowances) _
    (own s (with_desk (without_keys c.in_ok-keys.keys.items (plan_of s c.flush_at.new.self).desk) (plan_of s c.flush_at.new.self)) (plan_of s c.flush_at.new.self) _ (c.drop_attempts.ensures s)
    ∙ ap (λ (p : Plan). with_desk (without_keys c.in_ok-keys.keys.items p.desk) p) (own s (with_flush group moment plan) plan _ (c.in_ok-flush_at.ensures.plans s))
    ∙ ap (λ ks. with_desk (without_keys ks plan.desk) (with_flush group moment plan)) c.in_ok-keys.ensures)
    refl)
    (λ t apart. both (plan_of t c.drop_attempts.new.agenda) (plan_of t r.agenda) (allowance_of t r.allowances) _
    (other t s _ _ _ apart (c.drop_attempts.ensures t) ∙ other t s _ _ _ apart (c.in_ok-flush_at.ensures.plans t)) refl)
