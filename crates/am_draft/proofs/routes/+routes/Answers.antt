use Rattle.std.proofs.Common.{◌≡◌, length, ap, ◌∙◌, arith}
use Rattle.serde_json.proofs.Views.{view-Object}
use Rattle.serde_json.specs.View.{view, members_view}
use Rattle.am_draft.proofs.Counted.{tree_grown}
use Rattle.am_draft.proofs.routes.+routes.Goals as goal

pub push_tree-returns-in_ok-push_below-in-Object : goal.push_tree-returns-in_ok-push_below-in-Object
push_tree-returns-in_ok-push_below-in-Object t c =
    let seen = ap view c.in-Object.is ∙ view-Object c.in-Object.members in
    let own = rw seen at c.in_ok-item-in-Object.ensures in
    let below = rw (c.in_ok-push-in-Object.ensures.items, c.deeper.ensures) at c.in_ok-push_below-in-Object.ensures in
    let number : c.len-number.result ≡ length c.args.routes.now.items = omega (arith, c.len-number.ensures) in
    let is = rw number at c.count_within.ensures in
    rw seen
    (tree_grown c.args.depth (members_view c.in-Object.members.entries) c.args.routes.now.items
    c.in_ok-item-in-Object.item c.push_below.new.routes.items c.count_within.new.nodes.items own below is)
