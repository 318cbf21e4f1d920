-- The tree that a flat list of nodes holds.
use Rattle.std.specs.Prelude.{◌≡◌, ℕ, zero, suc, List, [], ◌∷◌, length, take, drop}
use Rattle.am_text.specs.declared.tree.Node.{Node}
use Rattle.am_text.specs.Trees.{Forest, none, tree, flat}

-- the list holds trees, one after the other
abbrev pub IsForest : {A : Type 0} → List (Node A) → Type 0
IsForest {A} nodes = (forest : Forest A) × (nodes ≡ flat forest)

-- the trees at its head, of so many nodes at most
abbrev pub forest_at : {A : Type 0} → ℕ → List (Node A) → Forest A
forest_at zero nodes = none
forest_at (suc most) [] = none
forest_at (suc most) (node ∷ behind) =
    tree node.item (forest_at most (take node.within behind)) (forest_at most (drop node.within behind))

-- the trees that it holds
unfoldable pub forest_of : {A : Type 0} → List (Node A) → Forest A
forest_of nodes = forest_at (length nodes) nodes
