-- The checks that a draft passes or fails, each over the whole of it.
use Rattle.std.specs.Prelude.{ℕ, Bool, true, false, not, ◌&&◌, ◌||◌, ◌==◌, nat_le, List, [], ◌∷◌, length, Option, Some, None}
use Rattle.std.specs.List.{list_all, list_any}
use Rattle.std.specs.Str.{bytes_eq}
use Rattle.am_text.specs.declared.tree.Node.{Node}
use Rattle.am_draft.specs.declared.draft.Draft.{Draft}
use Rattle.am_draft.specs.declared.receiver.ReceiverDraft.{ReceiverDraft}
use Rattle.am_draft.specs.declared.route.RouteDraft.{RouteDraft}

-- the limits
abbrev pub most_routes : ℕ
most_routes = 1000

abbrev pub deepest : ℕ
deepest = 16

abbrev pub most_receivers : ℕ
most_receivers = 1000

abbrev pub most_webhooks : ℕ
most_webhooks = 16

-- one of the receivers has this name
abbrev pub is_listed : List ReceiverDraft → List ℕ → Bool
is_listed receivers name = list_any (λ (receiver : ReceiverDraft). bytes_eq receiver.name name) receivers

-- two receivers have one name
unfoldable pub is_repeated : List ReceiverDraft → Bool
is_repeated [] = false
is_repeated (receiver ∷ receivers) = is_listed receivers receiver.name || is_repeated receivers

-- the receiver that a route names is listed; a route that names none has that of the route around it
abbrev pub has_listed : List ReceiverDraft → Option (List ℕ) → Bool
has_listed receivers None = true
has_listed receivers (Some name) = is_listed receivers name

abbrev pub have_listed : List ReceiverDraft → List (Node RouteDraft) → Bool
have_listed receivers routes = list_all (λ (node : Node RouteDraft). has_listed receivers node.item.receiver) routes

unfoldable pub receivers_fit : Draft → Bool
receivers_fit draft = not (is_repeated draft.receivers) && have_listed draft.receivers draft.routes

-- the root has no matchers
unfoldable pub is_root_bare : List (Node RouteDraft) → Bool
is_root_bare [] = true
is_root_bare (root ∷ routes) = length root.item.matchers == 0

-- a route's depth is within the limit
abbrev pub is_in_depth : Node RouteDraft → Bool
is_in_depth node = nat_le node.item.depth deepest

abbrev pub are_routes_few : List (Node RouteDraft) → Bool
are_routes_few routes = nat_le (length routes) most_routes && list_all is_in_depth routes

abbrev pub has_few_webhooks : ReceiverDraft → Bool
has_few_webhooks receiver = nat_le (length receiver.webhooks) most_webhooks

abbrev pub are_receivers_few : List ReceiverDraft → Bool
are_receivers_few receivers = nat_le (length receivers) most_receivers && list_all has_few_webhooks receivers

unfoldable pub counts_fit : Draft → Bool
counts_fit draft = are_routes_few draft.routes && are_receivers_few draft.receivers
