-- The routes of a configuration, and what the routes of its draft say, stand in the tree in which the draft's routes do.
use Rattle.std.proofs.Common.{◌≡◌, List, [], ◌∷◌, Ok, length, map, refl, sym, ap, ◌∙◌, arith}
use Rattle.am_text.specs.Trees.{Forest, IsTree, flat, none, tree}
use Rattle.am_text.specs.declared.tree.Node.{Node}
use Rattle.am_text.proofs.OutcomeLemmas.{both_done}
use Rattle.am_text.proofs.TreeLemmas.{same_length, same_tree, withins}
use Rattle.am_draft.specs.declared.receiver.ReceiverDraft.{ReceiverDraft}
use Rattle.am_draft.specs.declared.route.RouteDraft.{RouteDraft}
use Rattle.am_draft.specs.Forests.{IsForest, forest_of}
use Rattle.am_draft.proofs.ForestLemmas.{forest_of-flat}
use Rattle.am_config.specs.declared.parts.Route.{Route}
use Rattle.am_config.specs.declared.parts.Settings.{Settings}
use Rattle.am_config.specs.declared.terms.Own.{Own}
use Rattle.am_config.specs.Completing.{routes_with}
use Rattle.am_config.specs.Inheriting.{defaults, settings_of}
use Rattle.am_config.specs.Terms.{own_in, owns_in}
use Rattle.am_config.proofs.Inherits.{length-inherited}

pub withins-routes_with : (settings : List Settings) (nodes : List (Node RouteDraft)) → length settings ≡ length nodes →
    withins (routes_with settings nodes) ≡ withins nodes
unfolding routes_with
withins-routes_with [] [] size = refl
withins-routes_with [] (node ∷ nodes) size = absurd (omega arith)
withins-routes_with (own ∷ settings) [] size = absurd (omega arith)
withins-routes_with (own ∷ settings) (node ∷ nodes) size =
    ap (λ ns. node.within ∷ ns) (withins-routes_with settings nodes (omega arith))

pub tree-routes_with : (settings : List Settings) (nodes : List (Node RouteDraft)) → length settings ≡ length nodes →
    IsTree nodes → IsTree (routes_with settings nodes)
tree-routes_with settings nodes size whole =
    same_tree nodes (routes_with settings nodes) whole (withins-routes_with settings nodes size)

pub length-routes_with : (settings : List Settings) (nodes : List (Node RouteDraft)) → length settings ≡ length nodes →
    length (routes_with settings nodes) ≡ length nodes
length-routes_with settings nodes size = same_length (routes_with settings nodes) nodes (withins-routes_with settings nodes size)

pub settings-routes_with : (settings : List Settings) (nodes : List (Node RouteDraft)) → length settings ≡ length nodes →
    map (λ (node : Node Route). node.item.settings) (routes_with settings nodes) ≡ settings
unfolding routes_with
settings-routes_with [] [] size = refl
settings-routes_with [] (node ∷ nodes) size = absurd (omega arith)
settings-routes_with (own ∷ settings) [] size = absurd (omega arith)
settings-routes_with (own ∷ settings) (node ∷ nodes) size =
    ap (λ rest. own ∷ rest) (settings-routes_with settings nodes (omega arith))

pub withins-owns_in : (receivers : List ReceiverDraft) (nodes : List (Node RouteDraft)) (owns : List (Node Own)) →
    owns_in receivers nodes ≡ Ok owns → withins owns ≡ withins nodes
unfolding owns_in
withins-owns_in receivers [] owns e = let same : [] ≡ owns = cc in ap withins (sym same)
withins-owns_in receivers (node ∷ nodes) owns e =
    let first = both_done (own_in receivers node.item) _ owns e in
    let rest = both_done (owns_in receivers nodes) _ owns first.1.1 in
    let made : Node Own = record { item = first.0; within = node.within } in
    let same : made ∷ rest.0 ≡ owns = cc in
    ap withins (sym same) ∙ ap (λ ns. node.within ∷ ns) (withins-owns_in receivers nodes rest.0 rest.1.0)

-- where the draft's routes are one tree
module _ (receivers : List ReceiverDraft) (nodes : List (Node RouteDraft)) (owns : List (Node Own)) (e : owns_in receivers nodes ≡ Ok owns) (whole : IsTree nodes) where
  -- so is what they say
  pub tree-owns : IsTree owns
  tree-owns = same_tree nodes owns whole (withins-owns_in receivers nodes owns e)

  pub forest-owns : IsForest owns
  forest-owns = (tree tree-owns.0 tree-owns.1.0 none, tree-owns.1.1)

  pub length-owns : length owns ≡ length nodes
  length-owns = same_length owns nodes (withins-owns_in receivers nodes owns e)

  -- the list holds the tree
  flat-owns : flat (forest_of owns) ≡ owns
  flat-owns =
      let whole_tree : Forest Own = tree tree-owns.0 tree-owns.1.0 none in
      ap (λ (xs : List (Node Own)). flat (forest_of xs)) tree-owns.1.1 ∙ ap flat (forest_of-flat whole_tree) ∙ sym tree-owns.1.1

  -- and settings hold for each
  pub length-settings : length (settings_of owns) ≡ length nodes
  length-settings = length-inherited 0 defaults (forest_of owns) ∙ ap length flat-owns ∙ length-owns
