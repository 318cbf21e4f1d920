use Rattle.std.proofs.Common.{◌∙◌, ap, length}
use Rattle.std.proofs.lemmas.List.FromFn.{length-map-range_with_len}
use Rattle.std.proofs.lemmas.List.Elements.{Contains-append_left, Contains-append_right}
use Rattle.std.proofs.lemmas.Result.{err_from_is_err_and}
use Rattle.std.specs.Option.{option_to_list}
use Rattle.am_match.specs.Matchers.{patterns_of}
use Rattle.am_muting.proofs.Failures.{adds_among, adds_behind}
use Rattle.am_listing.proofs.Failures.{left_more, right_more, unanswered_among}
use Rattle.am_listing.specs.Failing.{patterns_in_use}
use Rattle.am_group_list.proofs.Under.{sorted_places}
use Rattle.am_group_list.proofs.Steps.{text_listed}
use Rattle.am_group_list.proofs.listing.list_groups.Goals as goal

pub grouped-requires-clause-flags : goal.grouped-requires-clause-flags
grouped-requires-clause-flags c = ap length (c.deref.ensures.value ∙ c.in_ok-asked.ensures.flags) ∙ length-map-range_with_len _ 0 _

pub returns-in_err-alerts-clause-failure : goal.returns-in_err-alerts-clause-failure
returns-in_err-alerts-clause-failure c =
    let p = err_from_is_err_and c.from_residual.result c.from_residual.ensures.1 in
    rw (p.1, p.2)
    (unanswered_among _ _ _ _ _ _ (λ text there. Contains-append_left _ _ text there) (λ text there. there) c.in_err-alerts.ensures.failure)

pub returns-in_err-asked-clause-failure : goal.returns-in_err-asked-clause-failure
returns-in_err-asked-clause-failure c =
    let p = err_from_is_err_and c.from_residual-in_err-asked.result c.from_residual-in_err-asked.ensures.1 in
    rw (p.1, p.2)
    (unanswered_among _ _ _ _ _ _ (λ text there. Contains-append_right _ _ text there) (λ text there. there)
    (c.in_err-asked.ensures.failure (patterns_in_use c.args.config.now c.args.moment c.args.held.now)))

pub returns-in_err-alerts-clause-adds : goal.returns-in_err-alerts-clause-adds
returns-in_err-alerts-clause-adds c =
    rw (err_from_is_err_and c.from_residual.result c.from_residual.ensures.1).1
    (adds_among _ _ _ _ (λ text there.
    left_more (patterns_of c.args.query.now.matchers) (option_to_list c.args.query.now.receiver)
    (patterns_in_use c.args.config.now c.args.moment c.args.held.now) text there) c.in_err-alerts.ensures.adds)

pub returns-in_err-asked-clause-adds : goal.returns-in_err-asked-clause-adds
returns-in_err-asked-clause-adds c =
    rw (err_from_is_err_and c.from_residual-in_err-asked.result c.from_residual-in_err-asked.ensures.1).1
    (adds_behind _ _ _ _ c.in_ok-alerts.ensures.asked
    (adds_among _ _ _ _ (λ text there.
    right_more (patterns_of c.args.query.now.matchers) (option_to_list c.args.query.now.receiver)
    (patterns_in_use c.args.config.now c.args.moment c.args.held.now) text there) c.in_err-asked.ensures.adds))

pub returns-clause-text : goal.returns-clause-text
returns-clause-text c =
    c.in_ok-body.ensures.text
    ∙ text_listed c.args.config.now c.args.query.now c.args.moment c.args.held.now c.in_ok-asked.asked.items c.in_ok-alerts.alerts.items _
    c.in_ok-alerts.ensures.passed c.in_ok-alerts.ensures.routes c.in_ok-asked.ensures.flags (sorted_places _ c.in_ok-body.ensures.ordered)
    (rw (c.deref.ensures.value, c.deref-2.ensures.value) at c.in_ok-groups.ensures)
