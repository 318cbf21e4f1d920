use Rattle.std.proofs.Common.{◌≡◌, map, take}
use Rattle.am_text.specs.declared.tree.Node.{Node}
use Rattle.am_config.specs.declared.parts.Route.{Route}
use Rattle.am_route.proofs.answers.matchers_of.Given as goal

abbrev pub invariant-loop-node : goal.invariant-loop-node
invariant-loop-node l = map (λ list. list.now) l.lists.items ≡ map (λ (node : Node Route). node.item.matchers) (take l.node-index l.routes)
