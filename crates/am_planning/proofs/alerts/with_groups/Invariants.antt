use Rattle.std.proofs.Common.{◌≡◌, map, take, zip}
use Rattle.am_planning.specs.Planning.{with_routes}
use Rattle.am_planning.proofs.alerts.with_groups.Given as goal

abbrev pub invariant-loop-place : goal.invariant-loop-place
invariant-loop-place l = l.planned.items ≡ map (with_routes l.config) (zip (take l.place l.alerts) (take l.place l.routes))
