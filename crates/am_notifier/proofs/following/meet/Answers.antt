use Rattle.std.proofs.Common.{◌≡◌, ℕ, List, false, sym, ap, ◌∙◌, subst}
use Rattle.std.specs.List.{list_any}
use Rattle.std.specs.Map.{keys_of}
use Rattle.std.proofs.lemmas.Result.{on_ok_weaker}
use Rattle.am_labels.specs.declared.Label.{Label}
use Rattle.am_members.specs.Grouped.{put_all}
use Rattle.am_planning.specs.Planning.{planned_alerts}
use Rattle.am_agenda.specs.Plan.{Plan, with_alerts}
use Rattle.am_agenda.specs.Planned.{plan_of}
use Rattle.am_notifier.specs.Following.{all_sooner, is_known, met, with_met}
use Rattle.am_notifier.proofs.Coming.{none_known}
use Rattle.am_context.proofs.Changes.{other, own, one_changes}
use Rattle.am_notifier.proofs.following.meet.Goals as goal

pub plan_new-requires : goal.plan_new-requires
plan_new-requires c =
    let s = c.args.tenant.now in
    let m = c.args.moment in
    let sets = keys_of c.args.came.items in
    let plan = plan_of s c.args.agenda.now in
    let after : plan_of s c.meet_known.new.agenda ≡ with_alerts (all_sooner m sets plan.grouped.alerts) plan = own s _ _ _ (c.in_ok-unknown.ensures.plans s) in
    subst (λ (p : Plan). list_any (λ a. is_known a.0 p.grouped.alerts) c.in_ok-unknown.unknown.items ≡ false) (sym after)
    (subst (λ (us : List (List Label × ℕ)). list_any (λ a. is_known a.0 (all_sooner m sets plan.grouped.alerts)) us ≡ false) (sym c.in_ok-unknown.ensures.unknown)
    (none_known m sets sets plan.grouped.alerts))

pub returns-clause-plans : goal.returns-clause-plans
unfolding met
returns-clause-plans c =
    let s = c.args.tenant.now in
    let m = c.args.moment in
    let k = c.args.config.now in
    let sets = keys_of c.args.came.items in
    let plan = plan_of s c.args.agenda.now in
    let known = all_sooner m sets plan.grouped.alerts in
    let after : plan_of s c.meet_known.new.agenda ≡ with_alerts known plan = own s _ _ _ (c.in_ok-unknown.ensures.plans s) in
    on_ok_weaker c.plan_new.result
    (λ put.
    one_changes s (with_met k m sets) (λ t. plan_of t c.args.agenda.now) (λ t. plan_of t c.plan_new.new.agenda)
    (own s _ _ _ (put s)
    ∙ ap (λ (p : Plan). with_alerts (put_all (planned_alerts k c.in_ok-unknown.unknown.items) p.grouped.alerts) p) after
    ∙ ap (λ (us : List (List Label × ℕ)). with_alerts (put_all (planned_alerts k us) known) plan) c.in_ok-unknown.ensures.unknown)
    (λ t apart. other t s _ _ _ apart (put t) ∙ other t s _ _ _ apart (c.in_ok-unknown.ensures.plans t)))
    c.plan_new.ensures.plans

pub returns-clause-failure : goal.returns-clause-failure
returns-clause-failure c = rw c.in_ok-unknown.ensures.unknown at c.plan_new.ensures.failure
