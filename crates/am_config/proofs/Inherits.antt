-- What routes inherit, by the first of a list and those behind it.
use Rattle.std.proofs.Common.{◌≡◌, ℕ, ◌+◌, List, [], ◌∷◌, ◌++◌, length, take, drop, refl, subst, append_assoc, append-nil, length-append, arith}
use Rattle.am_text.specs.Trees.{Forest, none, tree, flat}
use Rattle.am_text.specs.declared.tree.Node.{Node}
use Rattle.am_draft.specs.Forests.{IsForest, forest_of}
use Rattle.am_draft.proofs.ForestLemmas.{IsHead, head}
use Rattle.am_config.specs.declared.parts.Settings.{Settings}
use Rattle.am_config.specs.declared.terms.Own.{Own}
use Rattle.am_config.specs.Inheriting.{inherited, with_own}

module _ (number : ℕ) (around : Settings) (nodes : List (Node Own)) (node : Node Own) (behind : List (Node Own)) (e : nodes ≡ node ∷ behind) (h : IsForest nodes) where
  -- what stands at the head
  pub head_of : IsHead node behind
  head_of = head node behind (subst (λ (list : List (Node Own)). IsForest list) e h)

  -- what the first holds, what holds within it, and what holds behind it
  pub inherited_first : (before : List Settings) →
      ((before ++ with_own number around node.item ∷ []) ++ inherited (number + 1) (with_own number around node.item) (forest_of (take node.within behind)))
      ++ inherited (number + (1 + node.within)) around (forest_of (drop node.within behind))
      ≡ before ++ inherited number around (forest_of nodes)
  unfolding inherited
  inherited_first before = rw (e, head_of.is, head_of.count) (simp append_assoc)

-- nothing where there is no route
pub inherited_none : (number : ℕ) (around : Settings) (nodes : List (Node Own)) (before : List Settings) → length nodes ≡ 0 →
    before ++ inherited number around (forest_of nodes) ≡ before
unfolding inherited forest_of
inherited_none number around [] before e = append-nil before
inherited_none number around (node ∷ behind) before e = absurd (omega arith)

-- as many as there are routes
pub length-inherited : (number : ℕ) (around : Settings) (forest : Forest Own) → length (inherited number around forest) ≡ length (flat forest)
unfolding inherited
length-inherited number around none = refl
length-inherited number around (tree own within after) =
    let settings = with_own number around own in
    let size = length-append (inherited (number + 1) settings within) (inherited (number + (1 + length (flat within))) around after) in
    let other = length-append (flat within) (flat after) in
    let first = length-inherited (number + 1) settings within in
    let later = length-inherited (number + (1 + length (flat within))) around after in
    omega arith
