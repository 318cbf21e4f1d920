use Rattle.std.proofs.Common.{◌≡◌, ◌∷◌, ◌++◌, [], List, IfSome, sym, ap, ◌∙◌, subst}
use Rattle.std.specs.Map.{lookup}
use Rattle.std.proofs.lemmas.Iterator.Adapters.{YieldsList-from_vec}
use Rattle.std.proofs.lemmas.Iterator.Consumers.{YieldsList-turn}
use Rattle.std.proofs.lemmas.Result.{err_from_is_err_and}
use Rattle.am_labels.specs.declared.Label.{Label}
use Rattle.am_members.specs.declared.known.Known.{Known}
use Rattle.am_members.specs.Grouped.{put_all}
use Rattle.am_members.specs.Names.{is_set}
use Rattle.am_agenda.specs.Plan.{Plan, with_alert, with_alerts}
use Rattle.am_agenda.specs.Planned.{plan_of}
use Rattle.am_notifier.proofs.ByRoutes.{by_more, next_by, next_may, put_more}
use Rattle.am_notifier.proofs.Coming.{Alerts}
use Rattle.am_context.proofs.Changes.{other, own, one_changes}
use Rattle.am_notifier.proofs.following.plan_new.Goals as goal

pub put-requires : goal.put-requires
put-requires c =
    let s = c.args.tenant.now in
    let plan = plan_of s c.args.agenda.now in
    let all = c.in_ok-planned.planned.items in
    let p : List Label × Known = (c.in-Some.labels, c.in-Some.known) in
    let gives = c.into_iter-labels-iterator.ensures.into_iter_gives in
    let turn =
    YieldsList-turn (YieldsList-from_vec {s = c.into_iter-labels-iterator.result} all gives.0 (gives.1 ∙ c.in_ok-planned.planned.ok.0))
    c.loop-labels.yielded c.loop-labels.labels-iterator c.loop-labels.yielded_by c.next.result c.next.new.self p c.in-Some.is c.next.ensures.steps in
    subst (λ (q : Plan). IfSome (lookup (is_set p.0) q.grouped.alerts) (λ held. held.groups ≡ p.1.groups)) (sym (own s _ _ _ (c.loop-labels.invariant.plans s)))
    (next_may c.args.config.now c.args.unknown.items plan.grouped.alerts all c.in_ok-planned.ensures.planned c.requires c.loop-labels.yielded p turn.0 turn.1 c.loop-labels.invariant.by)

pub loop-labels-preserved : goal.loop-labels-preserved
loop-labels-preserved c =
    let s = c.args.tenant.now in
    let plan = plan_of s c.args.agenda.now in
    let all = c.in_ok-planned.planned.items in
    let ys = c.loop-labels.yielded in
    let p : List Label × Known = (c.in-Some.labels, c.in-Some.known) in
    let gives = c.into_iter-labels-iterator.ensures.into_iter_gives in
    let turn =
    YieldsList-turn (YieldsList-from_vec {s = c.into_iter-labels-iterator.result} all gives.0 (gives.1 ∙ c.in_ok-planned.planned.ok.0))
    ys c.loop-labels.labels-iterator c.loop-labels.yielded_by c.next.result c.next.new.self p c.in-Some.is c.next.ensures.steps in
    record {
      plans =
          one_changes s (λ (q : Plan). with_alerts (put_all (ys ++ p ∷ []) q.grouped.alerts) q) (λ t. plan_of t c.args.agenda.now) (λ t. plan_of t c.put.new.self)
          (own s _ _ _ (c.in_ok-put.ensures.plans s) ∙ ap (with_alert p.0 p.1) (own s _ _ _ (c.loop-labels.invariant.plans s))
          ∙ ap (λ (xs : Alerts). with_alerts xs plan) (put_more ys p plan.grouped.alerts))
          (λ t apart. other t s _ _ _ apart (c.in_ok-put.ensures.plans t) ∙ other t s _ _ _ apart (c.loop-labels.invariant.plans t));
      by =
          by_more c.args.config.now ys p c.loop-labels.invariant.by
          (next_by c.args.config.now c.args.unknown.items plan.grouped.alerts all c.in_ok-planned.ensures.planned c.requires ys p turn.0 turn.1);
    }

pub returns-in_err-planned-clause-failure : goal.returns-in_err-planned-clause-failure
returns-in_err-planned-clause-failure c =
    let p = err_from_is_err_and c.from_residual.result c.from_residual.ensures.1 in
    rw (p.1, p.2) c.in_err-planned.ensures.failure
