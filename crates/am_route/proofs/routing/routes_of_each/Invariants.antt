use Rattle.std.proofs.Common.{◌≡◌, map, take}
use Rattle.am_pattern.specs.Asking.{Stays}
use Rattle.am_route.specs.Routes.{routes_at}
use Rattle.am_route.proofs.routing.routes_of_each.Given as goal

abbrev pub invariant-loop-place : goal.invariant-loop-place
invariant-loop-place l =
    Stays l.fn.cache l.cache
    × (l.found.items ≡ map (λ set. routes_at set.now l.config.routes) (take l.place l.sets))
    × (l.cache ≡ l.initial.cache)
