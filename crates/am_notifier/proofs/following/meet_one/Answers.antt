use Rattle.std.proofs.Common.{◌≡◌, ◌∷◌, [], Some, None, min, true, refl, sym, ap, ◌∙◌}
use Rattle.std.specs.Map.{lookup}
use Rattle.am_members.specs.declared.known.Known.{Known}
use Rattle.am_members.specs.Grouped.{put_in}
use Rattle.am_members.specs.Names.{is_set}
use Rattle.am_agenda.specs.Plan.{Plan, with_alerts}
use Rattle.am_agenda.specs.Planned.{plan_of}
use Rattle.am_notifier.specs.Following.{all_sooner, sooner}
use Rattle.am_notifier.proofs.Coming.{Alerts, above_least, below_least, known_sooner, known_stays, unknown_stays}
use Rattle.am_context.proofs.Changes.{other, own, one_changes}
use Rattle.am_notifier.proofs.following.meet_one.Goals as goal

pub returns-in_default-clause-plans : goal.returns-in_default-clause-plans
returns-in_default-clause-plans c =
    let s = c.args.tenant.now in
    let l = c.args.labels.now in
    let plan = plan_of s c.args.agenda.now in
    let alerts = plan.grouped.alerts in
    let absent : lookup (is_set l) alerts ≡ None = sym c.in_default.ensures in
    one_changes s (λ (p : Plan). with_alerts (all_sooner c.args.moment (l ∷ []) p.grouped.alerts) p) (λ t. plan_of t c.args.agenda.now) (λ t. plan_of t c.args.agenda.now)
    (ap (λ (xs : Alerts). with_alerts xs plan) (unknown_stays c.args.moment l alerts c.requires.rising absent)) (λ t apart. refl)

pub returns-in_ok-put-clause-plans : goal.returns-in_ok-put-clause-plans
returns-in_ok-put-clause-plans c =
    let s = c.args.tenant.now in
    let l = c.args.labels.now in
    let m = c.args.moment in
    let k = c.in-Some.known.now in
    let plan = plan_of s c.args.agenda.now in
    let alerts = plan.grouped.alerts in
    let there : lookup (is_set l) alerts ≡ Some k = sym c.in-Some.ensures in
    let groups : c.in_ok-groups.groups ≡ k.groups = c.in_ok-groups.ensures ∙ c.as_slice.ensures in
    let least : m ≡ min m k.since = below_least m k.since (sym c.if-lt.true ∙ c.lt.ensures) in
    let made : record { since = m; groups = c.in_ok-groups.groups } ≡ sooner m true k =
    ap (λ gs. let j : Known = record { since = m; groups = gs } in j) groups ∙ ap (λ n. let j : Known = record { since = n; groups = k.groups } in j) least in
    one_changes s (λ (p : Plan). with_alerts (all_sooner m (l ∷ []) p.grouped.alerts) p) (λ t. plan_of t c.args.agenda.now) (λ t. plan_of t c.put.new.self)
    (own s _ _ _ (c.in_ok-put.ensures.plans s)
    ∙ ap (λ j. with_alerts (put_in l j alerts) plan) made
    ∙ ap (λ (xs : Alerts). with_alerts xs plan) (known_sooner m l k alerts c.requires.rising there))
    (λ t apart. other t s _ _ _ apart (c.in_ok-put.ensures.plans t))

pub returns-else-lt-clause-plans : goal.returns-else-lt-clause-plans
returns-else-lt-clause-plans c =
    let s = c.args.tenant.now in
    let l = c.args.labels.now in
    let plan = plan_of s c.args.agenda.now in
    let alerts = plan.grouped.alerts in
    one_changes s (λ (p : Plan). with_alerts (all_sooner c.args.moment (l ∷ []) p.grouped.alerts) p) (λ t. plan_of t c.args.agenda.now) (λ t. plan_of t c.args.agenda.now)
    (ap (λ (xs : Alerts). with_alerts xs plan) (known_stays c.args.moment l c.in-Some.known.now alerts c.requires.rising (sym c.in-Some.ensures)
    (above_least c.args.moment c.in-Some.known.now.since (sym c.if-lt.false ∙ c.lt.ensures)))) (λ t apart. refl)
