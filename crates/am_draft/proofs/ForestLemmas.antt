-- Flat lists and the trees that they hold.
use Rattle.std.proofs.Common.{◌≡◌, ℕ, zero, suc, ◌≤◌, List, ◌∷◌, ◌++◌, length, take, drop, take_at, drop_at, length-append, refl, arith}
use Rattle.am_text.specs.declared.tree.Node.{Node}
use Rattle.am_text.specs.Trees.{Forest, none, tree, flat}
use Rattle.am_draft.specs.Forests.{IsForest, forest_of, forest_at}

-- enough nodes stand there
forest_at-flat : {A : Type 0} (most : ℕ) (f : Forest A) → length (flat f) ≤ most → forest_at most (flat f) ≡ f
forest_at-flat zero none h = refl
forest_at-flat zero (tree item within after) h = absurd (omega arith)
forest_at-flat (suc most) none h = refl
forest_at-flat (suc most) (tree item within after) h =
    let long = length-append (flat within) (flat after) in
    rw (take_at (flat within) (flat after) (length (flat within)) refl, drop_at (flat within) (flat after) (length (flat within)) refl, forest_at-flat most within (omega arith), forest_at-flat most after (omega arith)) refl

-- a flat list holds its trees
pub forest_of-flat : {A : Type 0} (f : Forest A) → forest_of (flat f) ≡ f
unfolding forest_of
forest_of-flat f = forest_at-flat (length (flat f)) f (omega arith)

-- what stands at the head of a list that holds trees: how many nodes are within the first, and the two forests
pub record IsHead {A : Type 0} (node : Node A) (behind : List (Node A)) : Type 0 where
  pub fits : node.within ≤ length behind
  pub within : IsForest (take node.within behind)
  pub after : IsForest (drop node.within behind)
  pub is : forest_of (node ∷ behind) ≡ tree node.item (forest_of (take node.within behind)) (forest_of (drop node.within behind))
  pub count : length (flat (forest_of (take node.within behind))) ≡ node.within

headed : {A : Type 0} (item : A) (within after : Forest A) → IsHead (record { item = item; within = length (flat within) }) (flat within ++ flat after)
headed item within after =
    let front = take_at (flat within) (flat after) (length (flat within)) refl in
    let back = drop_at (flat within) (flat after) (length (flat within)) refl in
    record {
      fits = omega (arith, length-append (flat within) (flat after));
      within = (within, front);
      after = (after, back);
      is = rw (front, back, forest_of-flat within, forest_of-flat after) (forest_of-flat (tree item within after));
      count = rw (front, forest_of-flat within) refl;
    }

pub head : {A : Type 0} (node : Node A) (behind : List (Node A)) → IsForest (node ∷ behind) → IsHead node behind
head node behind (none, e) = absurd cc
head node behind (tree item within after, e) =
    let first : node ≡ record { item = item; within = length (flat within) } = cc in
    let rest : behind ≡ flat within ++ flat after = cc in
    rw (first, rest) (headed item within after)
