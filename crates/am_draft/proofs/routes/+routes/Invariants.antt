use Rattle.std.proofs.Common.{◌≡◌, drop}
use Rattle.serde_json.specs.View.{items_view, members_view}
use Rattle.am_draft.specs.Routes.{grown, routes_below, routes_of}
use Rattle.am_draft.proofs.routes.+routes.Given as goal

abbrev pub invariant-push_each-loop-item : goal.invariant-push_each-loop-item
invariant-push_each-loop-item l =
    grown l.routes.items (routes_of l.depth (items_view (drop l.item-index l.item-items)))
    ≡ grown l.fn.routes.items (routes_of l.depth (items_view l.fn.items.items))

abbrev pub invariant-push_below-loop-key : goal.invariant-push_below-loop-key
invariant-push_below-loop-key l =
    grown l.routes.items (routes_below l.depth (members_view l.key-iterator))
    ≡ grown l.fn.routes.items (routes_below l.depth (members_view l.fn.members.entries))
