use Rattle.std.proofs.Common.{◌≡◌, ◌++◌, drop, map, vec_len}
use Rattle.std.specs.Vec.Iter.{into_iter_items}
use Rattle.am_config.specs.Completing.{routes_with}
use Rattle.am_config.specs.Matching.{matchers_in, route_lists}
use Rattle.am_config.proofs.completing.routes_with.Given as goal

abbrev pub invariant-loop-matchers : goal.invariant-loop-matchers
invariant-loop-matchers l = record {
  so_far : l.read.items ++ routes_with (drop (vec_len l.read) l.settings) (drop (vec_len l.read) l.routes) ≡ routes_with l.settings l.routes;
  rest : into_iter_items l.matchers-iterator ≡ map matchers_in (route_lists (drop (vec_len l.read) l.routes));
}
