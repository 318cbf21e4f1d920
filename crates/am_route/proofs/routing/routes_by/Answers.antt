use Rattle.std.proofs.Common.{◌∙◌, sym}
use Rattle.am_route.proofs.AskedLemmas.{asked_of_tree, patterns_asked_at}
use Rattle.am_match.specs.Asking.{IsFailureAmong}
use Rattle.am_match.proofs.FailureLemmas.{handed_on}
use Rattle.am_table.proofs.NarrowLemmas.{memory_alone}
use Rattle.am_route.proofs.FailureLemmas.{patterns_had}
use Rattle.am_route.proofs.KnownLemmas.{rest_known}
use Rattle.am_route.proofs.PlacesLemmas.{places_at, some_at}
use Rattle.am_route.proofs.RoutesLemmas.{no_empty_tree, routes_of_tree}
use Rattle.am_route.proofs.routing.routes_by.Goals as goal
use Rattle.am_route.proofs.routing.routes_by.Goals.{in-Some+in_ok-enter, in_default}
use Rattle.am_route.specs.Asked.{asked_at}

pub enter-requires-clause-known : goal.enter-requires-clause-known
enter-requires-clause-known c =
    let first = sym c.routes.ensures.routes ∙ c.in-Some.ensures.cases.0 in
    rest_known c.args.labels.now c.args.config.now.routes 0 c.args.known.now c.in-Some._root.now c.in-Some.within.now first c.requires.known

pub returns-clause-routes : goal.returns-clause-routes
returns-clause-routes c =
    elim c.match-split_first.branch [
      | in-Some+in_ok-enter w ↦
          let first = sym c.routes.ensures.routes ∙ w.in-Some.ensures.cases.0 in
          rw (w.found-is, w.in_ok-enter.ensures.routes, c.new-found.ensures.items)
          (routes_of_tree c.args.labels.now c.args.config.now.routes w.in-Some._root.now w.in-Some.within.now first c.routes.ensures.tree)
      | in_default w ↦
          absurd (no_empty_tree c.args.config.now.routes (rw c.routes.ensures.routes at w.in_default.ensures.cases) c.routes.ensures.tree)
    ]

pub returns-clause-places : goal.returns-clause-places
returns-clause-places c =
    rw (returns-clause-routes c) (places_at c.args.labels.now c.args.config.now.routes c.routes.ensures.tree)

pub returns-clause-some : goal.returns-clause-some
returns-clause-some c =
    rw (returns-clause-routes c) (some_at c.args.labels.now c.args.config.now.routes c.routes.ensures.tree)

-- what is asked below the root is all that is asked
failure_is : (c : goal.After-drop-found) → IsFailureAmong (asked_at c.args.labels.now c.args.config.now.routes) c.args.cache.now c.enter.new.cache c.in_err-enter.field-0.0
failure_is c =
    let first = sym c.routes.ensures.routes ∙ c.in-Some.ensures.cases.0 in
    rw (← asked_of_tree c.args.labels.now c.args.config.now.routes c.in-Some._root.now c.in-Some.within.now first c.routes.ensures.tree)
    c.in_err-enter.ensures.failure

pub returns-in_err-enter-clause-failure : goal.returns-in_err-enter-clause-failure
returns-in_err-enter-clause-failure c =
    handed_on _ c.from_residual.result c.in_err-enter.field-0.0 c.from_residual.ensures.1 (failure_is c)

pub returns-in_err-enter-clause-meaning : goal.returns-in_err-enter-clause-meaning
returns-in_err-enter-clause-meaning c rightly =
    let asked = asked_at c.args.labels.now c.args.config.now.routes in
    handed_on _ c.from_residual.result c.in_err-enter.field-0.0 c.from_residual.ensures.1
    (memory_alone asked c.args.cache.now c.enter.new.cache c.in_err-enter.field-0.0 (failure_is c)
    (patterns_had asked (patterns_asked_at c.args.labels.now c.args.config.now.routes c.routes.ensures.tree c.routes.ensures.configured.patterns)) rightly)
