use Rattle.std.proofs.Common.{◌<◌, ◌∙◌, ◌++◌, ◌∷◌, [], ℕ, List, All, Bool, Bor, Global, IsSome, Vec, ap, false, get_or, length, map, subst, sym, take, arith}
use Rattle.std.proofs.lemmas.List.{map_more}
use Rattle.am_labels.specs.declared.label_set.LabelSet.{LabelSet}
use Rattle.am_pattern.specs.Cache.{Cache}
use Rattle.am_pattern.proofs.AskingLemmas.{grows-stays, grows-trans, stays-trans}
use Rattle.am_match.specs.Asking.{IsFailureAmong}
use Rattle.am_route.specs.Asked.{asked_at, route_matchers}
use Rattle.am_route.specs.Routes.{routes_at}
use Rattle.am_route.proofs.AskedLemmas.{asked_in_routes}
use Rattle.am_match.proofs.FailureLemmas.{asked_on, failure_of_part, handed_on}
use Rattle.am_table.proofs.NarrowLemmas.{memory_alone}
use Rattle.am_route.proofs.FailureLemmas.{patterns_had, route_patterns}
use Rattle.am_route.proofs.PlacesLemmas.{places_at, some_at}
use Rattle.am_route.proofs.TableLemmas.{all_of_each, all_told, column_known, rows_reach}
use Rattle.am_route.proofs.routing.routes_of_each.Goals as goal

pub returns-in_err-table-clause-meaning : goal.returns-in_err-table-clause-meaning
returns-in_err-table-clause-meaning c rightly =
    let asked = route_matchers c.args.config.now.routes in
    handed_on _ c.from_residual.result c.in_err-table.field-0.0 c.from_residual.ensures.1
    (memory_alone asked c.args.cache.now c.answers_of.new.cache c.in_err-table.field-0.0 (rw c.routes.ensures.routes at c.in_err-table.ensures.failure)
    (patterns_had asked (route_patterns c.args.config.now.routes c.routes.ensures.configured.patterns)) rightly)

pub known_at-requires : goal.known_at-requires
known_at-requires c =
    rw c.deref.ensures.value
    (rows_reach (λ set. set.now) c.args.sets.now c.loop-place.place c.loop-place-test.true c.routes.result.now c.in_ok-table.table.items c.in_ok-table.ensures.table)

pub returns-in_err-known-clause-asked : goal.returns-in_err-known-clause-asked
returns-in_err-known-clause-asked c =
    asked_on c.from_residual-in_err-known.result _ c.args.cache.now c.loop-place.cache c.from_residual-in_err-known.ensures.1
    (grows-stays c.args.cache.now c.loop-place.cache c.loop-place.invariant.0)

pub routes_by-requires : goal.routes_by-requires
routes_by-requires c = record {
  known =
      rw (← c.routes.ensures.routes, c.deref-in-loop-place.ensures.value)
      (column_known (λ set. set.now) c.args.sets.now c.loop-place.place c.index-sets-place.result c.loop-place-test.true c.index-sets-place.is
      c.routes.result.now c.in_ok-table.table.items c.in_ok-table.ensures.table c.in_ok-known.known.items
      (rw c.deref.ensures.value at c.in_ok-known.ensures));
}

pub returns-in_err-routes-clause-asked : goal.returns-in_err-routes-clause-asked
returns-in_err-routes-clause-asked c =
    asked_on c.from_residual-in_err-routes.result c.in_err-routes.field-0.0 c.args.cache.now c.routes_by.new.cache c.from_residual-in_err-routes.ensures.1
    (grows-trans c.args.cache.now c.loop-place.cache c.routes_by.new.cache
    (grows-stays c.args.cache.now c.loop-place.cache c.loop-place.invariant.0) c.in_err-routes.ensures.asked)

-- a matcher that is asked on the way is one of the routes'
failure_is : (c : goal.After-drop-table-in_err-routes) → IsFailureAmong (route_matchers c.args.config.now.routes) c.args.cache.now c.routes_by.new.cache c.in_err-routes.field-0.0
failure_is c =
    let labels = c.index-sets-place.result.now in
    let routes = c.args.config.now.routes in
    failure_of_part (asked_at labels routes) (route_matchers routes) c.args.cache.now c.loop-place.cache c.routes_by.new.cache c.in_err-routes.field-0.0
    (asked_in_routes labels routes c.routes.ensures.tree) c.loop-place.invariant.0 c.in_err-routes.ensures.failure

pub returns-in_err-routes-clause-failure : goal.returns-in_err-routes-clause-failure
returns-in_err-routes-clause-failure c =
    handed_on _ c.from_residual-in_err-routes.result c.in_err-routes.field-0.0 c.from_residual-in_err-routes.ensures.1 (failure_is c)

pub returns-in_err-routes-clause-meaning : goal.returns-in_err-routes-clause-meaning
returns-in_err-routes-clause-meaning c rightly =
    let asked = route_matchers c.args.config.now.routes in
    handed_on _ c.from_residual-in_err-routes.result c.in_err-routes.field-0.0 c.from_residual-in_err-routes.ensures.1
    (memory_alone asked c.args.cache.now c.routes_by.new.cache c.in_err-routes.field-0.0 (failure_is c)
    (patterns_had asked (route_patterns c.args.config.now.routes c.routes.ensures.configured.patterns)) rightly)

pub returns-in_err-push-clause-asked : goal.returns-in_err-push-clause-asked
returns-in_err-push-clause-asked c =
    asked_on c.from_residual-in_err-push.result _ c.args.cache.now c.routes_by.new.cache c.from_residual-in_err-push.ensures.1
    (grows-stays c.args.cache.now c.routes_by.new.cache
    (stays-trans c.args.cache.now c.loop-place.cache c.routes_by.new.cache c.loop-place.invariant.0 c.in_ok-routes.ensures.asked))

-- what holds of all routes of labels
pub returns-clause-places : goal.returns-clause-places
returns-clause-places c =
    all_of_each (λ set. set.now) (λ (found : List ℕ). All (λ id. id < length c.args.config.now.routes) found) (λ labels. routes_at labels c.args.config.now.routes)
    c.args.sets.now c.loop-place.place c.loop-place.found.items c.loop-place.invariant.1
    (λ labels. places_at labels c.args.config.now.routes c.routes.ensures.tree)

pub returns-clause-some : goal.returns-clause-some
returns-clause-some c =
    all_of_each (λ set. set.now) (λ (found : List ℕ). 0 < length found) (λ labels. routes_at labels c.args.config.now.routes)
    c.args.sets.now c.loop-place.place c.loop-place.found.items c.loop-place.invariant.1
    (λ labels. some_at labels c.args.config.now.routes c.routes.ensures.tree)

pub returns-in_err-routes-clause-misses : goal.returns-in_err-routes-clause-misses
returns-in_err-routes-clause-misses c =
    let known = c.deref-in-loop-place.ensures.value ∙ c.in_ok-known.ensures in
    let told : All IsSome c.deref-in-loop-place.result.now =
    subst (All IsSome) (sym known) (all_told (λ (row : Vec Bool Global). get_or row.items c.loop-place.place false) c.deref.result.now) in
    let same = ap (λ (cache : Cache). cache.misses) (c.in_err-routes.ensures.untouched told ∙ c.loop-place.invariant.2) in
    let misses = rw c.routes.ensures.routes at c.in_ok-table.ensures.misses in
    omega (arith, same, misses)

pub returns-in_err-push-clause-misses : goal.returns-in_err-push-clause-misses
returns-in_err-push-clause-misses c =
    let known = c.deref-in-loop-place.ensures.value ∙ c.in_ok-known.ensures in
    let told : All IsSome c.deref-in-loop-place.result.now =
    subst (All IsSome) (sym known) (all_told (λ (row : Vec Bool Global). get_or row.items c.loop-place.place false) c.deref.result.now) in
    let same = ap (λ (cache : Cache). cache.misses) (c.in_ok-routes.ensures.untouched told ∙ c.loop-place.invariant.2) in
    let misses = rw c.routes.ensures.routes at c.in_ok-table.ensures.misses in
    omega (arith, same, misses)

pub loop-place-preserved : goal.loop-place-preserved
loop-place-preserved c =
    let known = c.deref-in-loop-place.ensures.value ∙ c.in_ok-known.ensures in
    let told : All IsSome c.deref-in-loop-place.result.now =
    subst (All IsSome) (sym known) (all_told (λ (row : Vec Bool Global). get_or row.items c.loop-place.place false) c.deref.result.now) in
    let found : Bor LabelSet → List ℕ = λ set. routes_at set.now c.args.config.now.routes in
    let set = c.index-sets-place.result in
    let sets = c.args.sets.now in
    let place = c.loop-place.place in (
      stays-trans c.args.cache.now c.loop-place.cache c.routes_by.new.cache c.loop-place.invariant.0 c.in_ok-routes.ensures.asked,
      c.in_ok-push.ensures.items
          ∙ ap (λ (front : List (List ℕ)). front ++ c.from_vec.result ∷ []) c.loop-place.invariant.1
          ∙ ap (λ last. map found (take place sets) ++ last ∷ []) (c.from_vec.ensures ∙ c.in_ok-routes.ensures.routes ∙ ap found c.index-sets-place.is)
          ∙ sym (map_more found sets place set c.loop-place-test.true),
      c.in_ok-routes.ensures.untouched told ∙ c.loop-place.invariant.2,
    )
