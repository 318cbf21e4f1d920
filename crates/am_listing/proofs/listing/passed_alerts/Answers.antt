use Rattle.std.proofs.lemmas.List.Elements.{Contains-append_left, Contains-append_right}
use Rattle.std.proofs.lemmas.Result.{IfErr-weaker, IfOk-weaker, on_err_weaker, err_from_is_err_and}
use Rattle.am_match.specs.Matchers.{patterns_of}
use Rattle.am_listing.proofs.Failures.{within_all, unanswered_among}
use Rattle.am_listing.proofs.Steps.{all_are}
use Rattle.am_muting.specs.Failing.{patterns_muting}
use Rattle.am_route.specs.Asked.{route_matchers}
use Rattle.am_muting.proofs.Failures.{adds_among, adds_behind}
use Rattle.am_listing.proofs.listing.passed_alerts.Goals as goal

pub returns-in_err-muted-clause-failure : goal.returns-in_err-muted-clause-failure
returns-in_err-muted-clause-failure c =
    let p = err_from_is_err_and c.from_residual.result c.from_residual.ensures.1 in
    rw (p.1, p.2)
    (unanswered_among _ _ _ _ _ _ (λ text there. there) (λ text there. Contains-append_right _ _ text there) c.in_err-muted.ensures.failure)

pub returns-clause-passed : goal.returns-clause-passed
returns-clause-passed c =
    IfOk-weaker c.routed_alerts.result _ _
    (λ v is. all_are c.args.config.now c.args.query.now c.args.moment c.args.held.now c.in_ok-muted.muted.items v.items c.in_ok-muted.ensures.passed is)
    c.routed_alerts.ensures.routed

pub returns-clause-failure : goal.returns-clause-failure
returns-clause-failure c =
    IfErr-weaker c.routed_alerts.result _ _
    (λ failure known. unanswered_among _ _ _ _ _ failure (λ text there. there) (λ text there. Contains-append_left _ _ text there) known)
    (c.routed_alerts.ensures.failure (patterns_of c.args.query.now.matchers))

pub returns-in_err-muted-clause-adds : goal.returns-in_err-muted-clause-adds
returns-in_err-muted-clause-adds c =
    rw (err_from_is_err_and c.from_residual.result c.from_residual.ensures.1).1
    (adds_among _ _ _ _ (λ text there.
    within_all (patterns_of c.args.query.now.matchers) (patterns_of (route_matchers c.args.config.now.routes))
    (patterns_muting c.args.config.now c.args.moment c.args.held.now) text there) c.in_err-muted.ensures.adds)

pub returns-clause-adds : goal.returns-clause-adds
returns-clause-adds c =
    on_err_weaker c.routed_alerts.result
    (λ adds. adds_behind _ _ _ _ c.in_ok-muted.ensures.asked
    (adds_among _ _ _ _ (λ text there. Contains-append_right _ _ text (Contains-append_left _ _ text there)) adds))
    c.routed_alerts.ensures.adds
