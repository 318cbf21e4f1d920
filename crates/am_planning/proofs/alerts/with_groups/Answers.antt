use Rattle.std.proofs.Common.{◌≡◌, ◌∷◌, ◌++◌, [], map, take, zip, sym, ap, ◌∙◌, rules}
use Rattle.std.proofs.lemmas.List.{map-append}
use Rattle.am_planning.specs.Planning.{with_routes}
use Rattle.am_planning.proofs.Pairs.{one_more}
use Rattle.am_planning.proofs.alerts.with_groups.Goals as goal

pub loop-place-preserved : goal.loop-place-preserved
loop-place-preserved c =
    let xs = c.args.alerts.now in
    let ys = c.args.routes.now in
    let n = c.loop-place.place in
    let x = c.index-alerts-place.result in
    let y = c.index-routes-place.result in
    let f = with_routes c.args.config.now in
    let made : c.in_ok-with_routes.field-0 ≡ f (x, y) = c.in_ok-with_routes.ensures ∙ ap (λ rs. f (x, rs)) c.as_slice-routes.ensures in
    c.in_ok-push.ensures.items ∙ ap (λ done. done ++ c.in_ok-with_routes.field-0 ∷ []) c.loop-place.invariant
    ∙ ap (λ p. map f (zip (take n xs) (take n ys)) ++ p ∷ []) made
    ∙ sym (map-append f (zip (take n xs) (take n ys)) ((x, y) ∷ []))
    ∙ ap (map f) (sym (one_more xs ys n x y c.loop-place-test.true (search rules) c.index-alerts-place.is c.index-routes-place.is))
