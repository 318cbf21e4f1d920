use Rattle.std.proofs.Common.{◌≡◌, ◌++◌, map, take}
use Rattle.am_config.specs.Matching.{route_lists}
use Rattle.am_config.proofs.matching.push_route_lists.Given as goal

abbrev pub invariant-loop-node : goal.invariant-loop-node
invariant-loop-node l =
    map (λ list. list.now) l.lists.items ≡ map (λ list. list.now) l.initial.lists.items ++ route_lists (take l.node-index l.routes)
