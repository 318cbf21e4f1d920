use Rattle.std.proofs.Common.{ap, map, ◌∙◌}
use Rattle.std.proofs.lemmas.List.Elements.{Contains-append_left, Contains-append_right}
use Rattle.std.proofs.lemmas.Result.{IfErr-weaker, IfOk-weaker, on_err_weaker, err_from_is_err_and}
use Rattle.am_listing.specs.Failing.{patterns_in_use}
use Rattle.am_listing.specs.Listed.{routed}
use Rattle.am_listing.proofs.Failures.{left_more, right_more, unanswered_among}
use Rattle.am_listing.proofs.Steps.{shown_are}
use Rattle.std.specs.Option.{option_to_list}
use Rattle.am_match.specs.Matchers.{patterns_of}
use Rattle.am_muting.proofs.Failures.{adds_among, adds_behind}
use Rattle.am_listing.proofs.listing.shown_alerts.Goals as goal

pub returns-in_err-passed-clause-failure : goal.returns-in_err-passed-clause-failure
returns-in_err-passed-clause-failure c =
    let p = err_from_is_err_and c.from_residual.result c.from_residual.ensures.1 in
    rw (p.1, p.2)
    (unanswered_among _ _ _ _ _ _ (λ text there. Contains-append_left _ _ text there) (λ text there. there) c.in_err-passed.ensures.failure)

pub returns-clause-shown : goal.returns-clause-shown
returns-clause-shown c =
    IfOk-weaker c.asked_alerts.result _ _
    (λ v is. ap (map routed) is
    ∙ shown_are c.args.config.now c.args.query.now c.args.moment c.args.held.now c.in_ok-passed.passed.items c.in_ok-passed.ensures.passed)
    c.asked_alerts.ensures.shown

pub returns-clause-failure : goal.returns-clause-failure
returns-clause-failure c =
    IfErr-weaker c.asked_alerts.result _ _
    (λ failure known. unanswered_among _ _ _ _ _ failure (λ text there. Contains-append_right _ _ text there) (λ text there. there) known)
    (c.asked_alerts.ensures.failure (patterns_in_use c.args.config.now c.args.moment c.args.held.now))

pub returns-in_err-passed-clause-adds : goal.returns-in_err-passed-clause-adds
returns-in_err-passed-clause-adds c =
    rw (err_from_is_err_and c.from_residual.result c.from_residual.ensures.1).1
    (adds_among _ _ _ _ (λ text there.
    left_more (patterns_of c.args.query.now.matchers) (option_to_list c.args.query.now.receiver)
    (patterns_in_use c.args.config.now c.args.moment c.args.held.now) text there) c.in_err-passed.ensures.adds)

pub returns-clause-adds : goal.returns-clause-adds
returns-clause-adds c =
    on_err_weaker c.asked_alerts.result
    (λ adds. adds_behind _ _ _ _ c.in_ok-passed.ensures.asked
    (adds_among _ _ _ _ (λ text there.
    right_more (patterns_of c.args.query.now.matchers) (option_to_list c.args.query.now.receiver)
    (patterns_in_use c.args.config.now c.args.moment c.args.held.now) text there) adds))
    c.asked_alerts.ensures.adds
