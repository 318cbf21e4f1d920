-- A route whose routes were added after it, and are then counted as within it.
use Rattle.std.proofs.Common.{◌≡◌, ℕ, List, [], ◌∷◌, ◌++◌, length, Result, Ok, Err, refl, sym, ◌∙◌, append_assoc, append-nil}
use Rattle.serde_json.specs.Data.{Members, object}
use Rattle.am_text.specs.declared.tree.Node.{Node}
use Rattle.am_text.specs.Outcome.{◌>>=◌}
use Rattle.am_text.proofs.TreeLemmas.{counted_done}
use Rattle.am_text.specs.Trees.{Forest, counted, flat}
use Rattle.am_json.specs.declared.refusal.JsonRefusal.{JsonRefusal}
use Rattle.am_draft.specs.declared.route.RouteDraft.{RouteDraft}
use Rattle.am_draft.specs.Routes.{deeper, grown, grown_by_tree, route_of, routes_below, tree_in}

-- by what reading the routes within comes to
by_outcome : (done : List (Node RouteDraft)) (route : RouteDraft) (outcome : Result (Forest RouteDraft) JsonRefusal)
    (pushed nodes : List (Node RouteDraft)) → grown (done ++ record { item = route; within = 0 } ∷ []) outcome ≡ Ok pushed
    → nodes ≡ counted (length done) pushed
    → grown_by_tree done (outcome >>= λ within. Ok (route, within)) ≡ Ok nodes
by_outcome done route (Err e) pushed nodes below is = cc
by_outcome done route (Ok within) pushed nodes below is =
    let added : (done ++ record { item = route; within = 0 } ∷ []) ++ flat within ≡ pushed = cc in
    let nodes_after : pushed ≡ done ++ (record { item = route; within = 0 } ∷ flat within) =
    sym added ∙ append_assoc done (record { item = route; within = 0 } ∷ []) (flat within) in
    let counted_nodes : nodes ≡ done ++ (record { item = route; within = length (flat within) } ∷ flat within) =
    is ∙ (rw nodes_after (counted_done done (record { item = route; within = 0 }) (flat within))) in
    rw (append-nil, counted_nodes) refl

-- a route was read, those within it were added after it, and were counted
pub tree_grown : (depth : ℕ) (members : Members) (done : List (Node RouteDraft)) (route : RouteDraft)
    (pushed nodes : List (Node RouteDraft)) → route_of depth (object members) ≡ Ok route
    → grown (done ++ record { item = route; within = 0 } ∷ []) (routes_below (deeper depth) members) ≡ Ok pushed
    → nodes ≡ counted (length done) pushed → grown_by_tree done (tree_in depth (object members)) ≡ Ok nodes
tree_grown depth members done route pushed nodes own below is =
    rw own (by_outcome done route (routes_below (deeper depth) members) pushed nodes below is)
