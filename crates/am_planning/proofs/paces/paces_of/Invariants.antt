use Rattle.std.proofs.Common.{◌≡◌, map, take}
use Rattle.am_config.specs.declared.parts.Route.{Route}
use Rattle.am_text.specs.declared.tree.Node.{Node}
use Rattle.am_planning.specs.Planning.{pace_of}
use Rattle.am_planning.proofs.paces.paces_of.Given as goal

abbrev pub invariant-loop-node : goal.invariant-loop-node
invariant-loop-node l = l.paces.items ≡ map (λ (node : Node Route). pace_of l.config l.position node.item.settings) (take l.node-index l.routes)
