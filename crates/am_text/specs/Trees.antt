-- Trees, and the flat lists that hold them: each node before those within it.
use Rattle.std.specs.Prelude.{◌≡◌, ℕ, zero, suc, List, [], ◌∷◌, ◌++◌, length}
use Rattle.am_text.specs.declared.tree.Node.{Node}

-- nothing; or a tree, as its root's item and the trees within the root, and the trees that follow it
pub data Forest (A : Type 0) : Type 0 where
  none : Forest A
  tree : A → Forest A → Forest A → Forest A

-- the nodes in one list; a node's number is its place there
abbrev pub flat : {A : Type 0} → Forest A → List (Node A)
flat none = []
flat (tree item within after) = record { item = item; within = length (flat within) } ∷ (flat within ++ flat after)

-- the list holds one whole tree
abbrev pub IsTree : {A : Type 0} → List (Node A) → Type 0
IsTree {A} nodes = (item : A) × ((within : Forest A) × (nodes ≡ flat (tree item within none)))

-- the list where all that follow the node of this number are within it
abbrev pub counted : {A : Type 0} → ℕ → List (Node A) → List (Node A)
counted number [] = []
counted zero (node ∷ nodes) = record { item = node.item; within = length nodes } ∷ nodes
counted (suc number) (node ∷ nodes) = node ∷ counted number nodes
