-- The routes among siblings, by the first of them.
use Rattle.std.proofs.Common.{◌≡◌, ℕ, ◌+◌, true, false, List, [], ◌∷◌, ◌++◌, length, take, drop, refl, ap, subst, append_assoc, append-nil, arith}
use Rattle.std.specs.Prelude.{if◌then◌else◌}
use Rattle.am_labels.specs.declared.Label.{Label}
use Rattle.am_text.specs.declared.tree.Node.{Node}
use Rattle.am_config.specs.declared.parts.Route.{Route}
use Rattle.am_draft.specs.Forests.{IsForest, forest_of}
use Rattle.am_route.specs.Routes.{route_takes, routes_among, routes_at, routes_within}
use Rattle.am_text.specs.Trees.{IsTree, flat, none, tree}
use Rattle.am_draft.proofs.ForestLemmas.{IsHead, forest_of-flat, head}

module _ (labels : List Label) (number : ℕ) (nodes : List (Node Route)) (node : Node Route) (behind : List (Node Route)) (e : nodes ≡ node ∷ behind) (h : IsForest nodes) where
  -- what stands at the head
  pub head_of : IsHead node behind
  head_of = head node behind (subst (λ (list : List (Node Route)). IsForest list) e h)

  -- the routes among the later siblings
  abbrev later : List ℕ
  later = routes_among labels (number + (1 + node.within)) (forest_of (drop node.within behind))

  -- the routes below the first sibling
  abbrev inner : List ℕ
  inner = routes_within labels number (forest_of (take node.within behind))

  routes_by_first : routes_among labels number (forest_of nodes) ≡ (if route_takes node.item labels then inner ++ (if node.item.goes_on then later else []) else later)
  unfolding routes_among
  routes_by_first = rw (e, head_of.is, head_of.count) refl

  -- it takes the labels and goes on
  pub taken_on : route_takes node.item labels ≡ true → node.item.goes_on ≡ true → (before : List ℕ) → (before ++ inner) ++ later ≡ before ++ routes_among labels number (forest_of nodes)
  taken_on takes on before = rw (routes_by_first, takes, on) (append_assoc before inner later)

  -- it takes them and does not go on
  pub taken_last : route_takes node.item labels ≡ true → node.item.goes_on ≡ false → (before : List ℕ) → before ++ inner ≡ before ++ routes_among labels number (forest_of nodes)
  taken_last takes on before = rw (routes_by_first, takes, on, append-nil inner) refl

  -- it does not take them
  pub passed : route_takes node.item labels ≡ false → (before : List ℕ) → before ++ later ≡ before ++ routes_among labels number (forest_of nodes)
  passed takes before = rw (routes_by_first, takes) refl

-- there is no route
pub routes_none : (labels : List Label) (number : ℕ) (nodes : List (Node Route)) (before : List ℕ) → length nodes ≡ 0 → before ++ routes_among labels number (forest_of nodes) ≡ before
unfolding routes_among forest_of
routes_none labels number [] before e = append-nil before
routes_none labels number (node ∷ behind) before e = absurd (omega arith)

-- the routes in a whole tree are those below its root, or the root
pub routes_of_tree : (labels : List Label) (nodes : List (Node Route)) (root : Node Route) (behind : List (Node Route)) → nodes ≡ root ∷ behind → IsTree nodes
    → routes_within labels 0 (forest_of behind) ≡ routes_at labels nodes
routes_of_tree labels nodes root behind e (item, (within, is)) =
    let all : behind ≡ flat within = cc (append-nil (flat within)) in
    rw (is, all, forest_of-flat within, forest_of-flat (tree item within none)) refl

-- a tree has a root
pub no_empty_tree : (nodes : List (Node Route)) → length nodes ≡ 0 → IsTree nodes → ⊥
no_empty_tree nodes e (item, (within, is)) = omega (arith, ap (λ (list : List (Node Route)). length list) is)
