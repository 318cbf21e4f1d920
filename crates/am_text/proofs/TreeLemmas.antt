-- Flat lists of nodes: how one grows, and that a list which counts as one of a tree does is one of a tree.
use Rattle.std.proofs.Common.{◌≡◌, ℕ, zero, suc, ◌+◌, List, [], ◌∷◌, ◌++◌, map, length, take, drop, slice_index_or, slice_set, refl, sym, ap, ◌∙◌, append-nil, arith}
use Rattle.std.proofs.lemmas.List.{map-append, take-map, drop-map, length-map, take-append-drop}
use Rattle.std.proofs.Math.Seq.{take-append_seam, drop-append_seam}
use Rattle.am_text.specs.declared.tree.Node.{Node}
use Rattle.am_text.specs.Trees.{Forest, none, tree, flat, counted, IsTree}

module _ {A : Type 0} where
  -- the write is the count
  pub counted_set : (nodes : List (Node A)) (number : ℕ) (node : Node A) (within : ℕ)
      → within + number + 1 ≡ length nodes → node ≡ slice_index_or nodes number node
      → slice_set nodes number (record { item = node.item; within = within }) ≡ counted number nodes
  counted_set [] number node within fits at = absurd (omega arith)
  counted_set (first ∷ nodes) zero node within fits at =
      let same : within ≡ length nodes = omega arith in
      rw (at, same) refl
  counted_set (first ∷ nodes) (suc number) node within fits at =
      let less : within + number + 1 ≡ length nodes = omega arith in
      ap (λ (rest : List (Node A)). first ∷ rest) (counted_set nodes number node within less at)

  -- what follows the node of this number is within it
  pub counted_done : (done : List (Node A)) (node : Node A) (rest : List (Node A))
      → counted (length done) (done ++ (node ∷ rest)) ≡ done ++ (record { item = node.item; within = length rest } ∷ rest)
  counted_done [] node rest = refl
  counted_done (first ∷ done) node rest =
      ap (λ (nodes : List (Node A)). first ∷ nodes) (counted_done done node rest)

-- how many nodes are within each
abbrev pub withins : {A : Type 0} → List (Node A) → List ℕ
withins {A} nodes = map (λ (node : Node A). node.within) nodes

-- lists that count alike are as long
pub same_length : {A B : Type 0} (xs : List (Node A)) (ys : List (Node B)) → withins xs ≡ withins ys → length xs ≡ length ys
same_length xs ys e = sym (length-map xs (λ node. node.within)) ∙ ap length e ∙ length-map ys (λ node. node.within)

-- a list that counts as the flat list of a forest does is one of a forest
pub same_shape : {A B : Type 0} (forest : Forest A) (ys : List (Node B)) → withins ys ≡ withins (flat forest) → (grown : Forest B) × (ys ≡ flat grown)
same_shape none [] e = (none, refl)
same_shape none (y ∷ ys) e = absurd (cc)
same_shape (tree item within after) [] e = absurd (cc)
same_shape {A} {B} (tree item within after) (y ∷ ys) e =
    let count : y.within ≡ length (flat within) = cc in
    let rest : withins ys ≡ withins (flat within ++ flat after) = cc in
    let parts : withins ys ≡ withins (flat within) ++ withins (flat after) =
    rest ∙ map-append (λ (node : Node A). node.within) (flat within) (flat after) in
    let size : length (withins (flat within)) ≡ length (flat within) = length-map (flat within) (λ node. node.within) in
    let front : withins (take (length (flat within)) ys) ≡ withins (flat within) =
    sym (take-map (λ (node : Node B). node.within) (length (flat within)) ys)
    ∙ ap (take (length (flat within))) parts
    ∙ ap (λ n. take n (withins (flat within) ++ withins (flat after))) (sym size)
    ∙ take-append_seam (withins (flat within)) (withins (flat after)) in
    let back : withins (drop (length (flat within)) ys) ≡ withins (flat after) =
    sym (drop-map (λ (node : Node B). node.within) (length (flat within)) ys)
    ∙ ap (drop (length (flat within))) parts
    ∙ ap (λ n. drop n (withins (flat within) ++ withins (flat after))) (sym size)
    ∙ drop-append_seam (withins (flat within)) (withins (flat after)) in
    let first = same_shape within (take (length (flat within)) ys) front in
    let later = same_shape after (drop (length (flat within)) ys) back in
    let counted : y.within ≡ length (flat first.0) =
    count ∙ sym (same_length (take (length (flat within)) ys) (flat within) front) ∙ ap length first.1 in
    let joined : ys ≡ flat first.0 ++ flat later.0 =
    sym (take-append-drop (length (flat within)) ys) ∙ ap (λ zs. zs ++ drop (length (flat within)) ys) first.1
    ∙ ap (λ zs. flat first.0 ++ zs) later.1 in
    let node : y ≡ record { item = y.item; within = length (flat first.0) } = ap (λ n. record { item = y.item; within = n }) counted in
    (tree y.item first.0 later.0, ap (λ z. z ∷ ys) node ∙ ap (λ zs. record { item = y.item; within = length (flat first.0) } ∷ zs) joined)

-- and that of one tree, as that of one tree does
pub same_tree : {A B : Type 0} (xs : List (Node A)) (ys : List (Node B)) → IsTree xs → withins ys ≡ withins xs → IsTree ys
same_tree xs [] whole e = absurd (let none : [] ≡ withins xs = e in cc (ap withins whole.1.1))
same_tree {A} {B} xs (y ∷ ys) whole e =
    let all : withins (y ∷ ys) ≡ withins (flat (tree whole.0 whole.1.0 none)) = e ∙ ap withins whole.1.1 in
    let count : y.within ≡ length (flat whole.1.0) = cc in
    let rest : withins ys ≡ withins (flat whole.1.0 ++ []) = cc in
    let same : withins ys ≡ withins (flat whole.1.0) = rest ∙ ap withins (append-nil (flat whole.1.0)) in
    let below = same_shape whole.1.0 ys same in
    let counted : y.within ≡ length (flat below.0) = count ∙ sym (same_length ys (flat whole.1.0) same) ∙ ap length below.1 in
    let node : y ≡ record { item = y.item; within = length (flat below.0) } = ap (λ n. record { item = y.item; within = n }) counted in (
      y.item,
      (
        below.0,
        ap (λ z. z ∷ ys) node
            ∙ ap (λ zs. record { item = y.item; within = length (flat below.0) } ∷ zs) (below.1 ∙ sym (append-nil (flat below.0))),
      ),
    )
