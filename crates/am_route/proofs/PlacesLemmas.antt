-- The routes of labels are places of the tree, and at least one.
use Rattle.std.proofs.Common.{ℕ, ◌+◌, ◌<◌, ◌≤◌, Bool, true, false, List, All, [], ◌∷◌, ◌++◌, length, length-append, arith}
use Rattle.std.proofs.lemmas.List.Elements.{All-append, All-cons, All-nil}
use Rattle.std.specs.Prelude.{if◌then◌else◌}
use Rattle.am_labels.specs.declared.Label.{Label}
use Rattle.am_text.specs.declared.tree.Node.{Node}
use Rattle.am_text.specs.Trees.{Forest, IsTree, flat, none, tree}
use Rattle.am_config.specs.declared.parts.Route.{Route}
use Rattle.am_route.specs.Routes.{or_itself, route_takes, routes_among, routes_at}
use Rattle.am_draft.proofs.ForestLemmas.{forest_of-flat}

-- each is below this number
abbrev pub AreBelow : ℕ → List ℕ → Type 0
AreBelow top found = All (λ id. id < top) found

below_or_itself : (top number : ℕ) (found : List ℕ) → number < top → AreBelow top found → AreBelow top (or_itself number found)
below_or_itself top number [] h fine = All-cons (λ id. id < top) number [] h (All-nil (λ id. id < top))
below_or_itself top number (first ∷ more) h fine = fine

some_or_itself : (number : ℕ) (found : List ℕ) → 0 < length (or_itself number found)
some_or_itself number [] = omega arith
some_or_itself number (first ∷ more) = omega arith

module _ (labels : List Label) where
  -- among siblings that end below a number
  places_among : (top number : ℕ) (f : Forest Route) → number + length (flat f) ≤ top → AreBelow top (routes_among labels number f)
  unfolding routes_among
  places_among top number none h = All-nil (λ id. id < top)
  places_among top number (tree route within after) h =
      let long = length-append (flat within) (flat after) in
      let inner = or_itself number (routes_among labels (number + 1) within) in
      let behind = routes_among labels (number + (1 + length (flat within))) after in
      let below = below_or_itself top number (routes_among labels (number + 1) within) (omega (arith, h, long)) (places_among top (number + 1) within (omega (arith, h, long))) in
      let later = places_among top (number + (1 + length (flat within))) after (omega (arith, h, long)) in
      elim (route_takes route labels) as (λ (b : Bool). AreBelow top (if b then inner ++ (if route.goes_on then behind else []) else behind)) [
        | true ↦
            All-append (λ id. id < top) inner _ below
            (elim route.goes_on as (λ (b : Bool). AreBelow top (if b then behind else [])) [ true ↦ later | false ↦ All-nil (λ id. id < top) ])
        | false ↦ later
      ]

  -- in a whole tree
  pub places_at : (nodes : List (Node Route)) → IsTree nodes → AreBelow (length nodes) (routes_at labels nodes)
  places_at nodes (root, (within, is)) =
      let long = length-append (flat within) [] in
      rw (is, forest_of-flat (tree root within none))
      (below_or_itself _ 0 (routes_among labels 1 within) (omega arith) (places_among _ 1 within (omega (arith, long))))

  -- where the root is one if there is no other
  pub some_at : (nodes : List (Node Route)) → IsTree nodes → 0 < length (routes_at labels nodes)
  some_at nodes (root, (within, is)) = rw (is, forest_of-flat (tree root within none)) (some_or_itself 0 (routes_among labels 1 within))
