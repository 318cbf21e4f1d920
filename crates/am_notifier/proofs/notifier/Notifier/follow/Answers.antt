use Rattle.std.proofs.Common.{◌≡◌, ◌<◌, ◌⊎◌, ℕ, true, List, length, ap, refl, subst, inl, inr, ◌∙◌}
use Rattle.std.specs.Map.{keys_of}
use Rattle.std.specs.Option.{option_map}
use Rattle.std.proofs.lemmas.Result.{err_from_is_err_and, on_ok_weaker}
use Rattle.am_agenda.specs.Plan.{Plan}
use Rattle.am_agenda.specs.Planned.{plan_of}
use Rattle.am_config.specs.Configuration.{Configuration}
use Rattle.am_context.proofs.Changes.{other, own, one_changes}
use Rattle.am_labels.specs.declared.Label.{Label}
use Rattle.am_limit.specs.Allowances.{allowance_of}
use Rattle.am_notifier.specs.Following.{all_came, follows, met, planned_by, sinces_in, unknown_of}
use Rattle.am_notifier.specs.Notifies.{notifies_of}
use Rattle.am_notifier.specs.Positions.{number_of}
use Rattle.am_notifier.proofs.Followed.{met_anew, met_by}
use Rattle.am_notifier.proofs.Parts.{both}
use Rattle.am_notifier.proofs.Reasons.{all_by_either, by_either, met_some}
use Rattle.am_notifier.proofs.notifier.Notifier.follow.Goals as goal

pub meet-requires : goal.meet-requires
unfolding notifies_of
meet-requires c = record { rising = c.requires.rising; new = c.requires.new }

pub returns-then-is_configured-clause-plans : goal.returns-then-is_configured-clause-plans
unfolding notifies_of
returns-then-is_configured-clause-plans c =
    let s = c.args.tenant.now in
    let r = c.args.self.now in
    let m = c.args.moment in
    let k = c.args.config.now in
    let sets = keys_of c.args.came.sets.items in
    let position = option_map number_of c.of-position.result in
    on_ok_weaker c.plan_all.result
    (λ all.
    one_changes s (follows k m sets) (λ t. notifies_of t r) _
    (both _ _ (allowance_of s r.allowances) _
    (own s _ _ _ (all s) ∙ ap (λ (p : Plan). planned_by k position (sinces_in p) p) (own s _ _ _ (c.in_ok-meet.ensures.plans s)) ∙ met_anew k position m sets (plan_of s r.agenda) c.requires.rising
    ∙ ap (λ at. planned_by k (option_map number_of at) (all_came m sets (sinces_in (plan_of s r.agenda))) (plan_of s r.agenda)) c.of-position.ensures) refl)
    (λ t apart. both _ (plan_of t r.agenda) (allowance_of t r.allowances) _ (other t s _ _ _ apart (all t) ∙ other t s _ _ _ apart (c.in_ok-meet.ensures.plans t)) refl))
    c.plan_all.ensures.plans

pub returns-else-is_configured-clause-plans : goal.returns-else-is_configured-clause-plans
unfolding notifies_of
returns-else-is_configured-clause-plans c =
    let s = c.args.tenant.now in
    let r = c.args.self.now in
    let m = c.args.moment in
    let k = c.args.config.now in
    let sets = keys_of c.args.came.sets.items in
    one_changes s (follows k m sets) (λ t. notifies_of t r) _
    (both _ _ (allowance_of s r.allowances) _
    (own s _ _ _ (c.in_ok-meet.ensures.plans s) ∙ met_by k _ m sets (plan_of s r.agenda) c.requires.rising (c.requires.planned c.if-is_configured.false)) refl)
    (λ t apart. both _ (plan_of t r.agenda) (allowance_of t r.allowances) _ (other t s _ _ _ apart (c.in_ok-meet.ensures.plans t)) refl)

pub returns-in_err-meet-clause-failure : goal.returns-in_err-meet-clause-failure
unfolding notifies_of
returns-in_err-meet-clause-failure c =
    let p = err_from_is_err_and c.from_residual.result c.from_residual.ensures.1 in
    rw (p.1, p.2) (by_either _ _ _ _ (λ some. inl some) c.in_err-meet.ensures.failure)

pub returns-then-is_configured-clause-failure : goal.returns-then-is_configured-clause-failure
unfolding notifies_of
returns-then-is_configured-clause-failure c =
    let s = c.args.tenant.now in
    let m = c.args.moment in
    let k = c.args.config.now in
    let sets = keys_of c.args.came.sets.items in
    let plan = plan_of s c.args.self.now.agenda in
    all_by_either _ _ _ c.plan_all.result
    (λ (some : 0 < length (plan_of s c.meet.new.agenda).grouped.alerts).
    either k m sets plan (subst (λ (p : Plan). 0 < length p.grouped.alerts) (own s _ _ _ (c.in_ok-meet.ensures.plans s)) some))
    c.plan_all.ensures.failure
  where
    either : (k : Configuration) (m : ℕ) (sets : List (List Label)) (plan : Plan) → 0 < length (met k m sets plan.grouped.alerts) →
        (0 < length (unknown_of m sets plan.grouped.alerts)) ⊎ ((c.args.came.is_configured ≡ true) × (0 < length plan.grouped.alerts))
    either k m sets plan some = elim (met_some k m sets plan.grouped.alerts some) [ inl new ↦ inl new | inr old ↦ inr (c.if-is_configured.true, old) ]
