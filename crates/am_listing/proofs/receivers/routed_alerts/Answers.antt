use Rattle.std.proofs.Common.{List, ℕ, All, ◌<◌, length, subst, sym, ap, map, ◌∙◌}
use Rattle.std.specs.List.{zip}
use Rattle.std.proofs.lemmas.Result.{err_from_is_err_and}
use Rattle.am_listing.specs.Listed.{made_routed}
use Rattle.am_listing.specs.declared.receivers.RoutedAlert.{RoutedAlert}
use Rattle.am_listing.proofs.Chosen.{routed_are, routes_all}
use Rattle.am_listing.proofs.receivers.routed_alerts.Goals as goal

pub returns-in_err-routes-clause-failure : goal.returns-in_err-routes-clause-failure
returns-in_err-routes-clause-failure c =
    let p = err_from_is_err_and c.from_residual-in_err-routes.result c.from_residual-in_err-routes.ensures.1 in
    λ own. rw (p.1, p.2) (c.in_err-routes.ensures.failure own)

pub returns-clause-routed : goal.returns-clause-routed
returns-clause-routed c =
    routed_are c.args.config.now _ _ c.in_ok-sets.sets.items c.in_ok-routes.routes.items _ (rw c.deref.ensures.value at c.in_ok-sets.ensures)
    (rw c.deref-2.ensures.value at c.in_ok-routes.ensures.routes) c.in_ok-pairs.ensures c.in_ok-routed.ensures

pub returns-clause-routes : goal.returns-clause-routes
returns-clause-routes c =
    let below : List ℕ → Type 0 = λ ids. All (λ id. id < length c.args.config.now.routes) ids in
    subst (λ (found : List RoutedAlert). All (λ (r : RoutedAlert). below r.routes) found)
    (sym (c.in_ok-routed.ensures ∙ ap (λ pairs. map made_routed (zip c.args.alerts.items pairs)) c.in_ok-pairs.ensures))
    (routes_all below c.args.config.now c.args.alerts.items c.in_ok-routes.routes.items c.in_ok-routes.ensures.places)

pub returns-in_err-routes-clause-adds : goal.returns-in_err-routes-clause-adds
returns-in_err-routes-clause-adds c =
    rw (err_from_is_err_and c.from_residual-in_err-routes.result c.from_residual-in_err-routes.ensures.1).1
    (c.in_err-routes.ensures.adds)
