-- The texts of matchers, list by list.
use Rattle.std.proofs.Common.{◌≡◌, ℕ, List, [], ◌∷◌, ◌++◌, map, refl, sym, ap, ◌∙◌, append_assoc}
use Rattle.std.specs.List.{flat_map}
use Rattle.std.proofs.lemmas.Grind.{flat_map-append}
use Rattle.am_text.specs.declared.tree.Node.{Node}
use Rattle.am_draft.specs.declared.draft.Draft.{Draft}
use Rattle.am_draft.specs.declared.route.RouteDraft.{RouteDraft}
use Rattle.am_draft.specs.declared.rule.RuleDraft.{RuleDraft}
use Rattle.am_config.specs.Matching.{matcher_lists, matcher_texts, route_lists, route_texts, rule_lists, rule_texts}

abbrev all_of : List (List (List ℕ)) → List (List ℕ)
all_of lists = flat_map (λ (texts : List (List ℕ)). texts) lists

seen : {B : Type 0} (now : B → List (List ℕ)) (xs : List B) → all_of (map now xs) ≡ flat_map now xs
seen now [] = refl
seen now (x ∷ xs) = ap (λ rest. now x ++ rest) (seen now xs)

rules_seen : (rules : List RuleDraft) → all_of (rule_lists rules) ≡ rule_texts rules
rules_seen [] = refl
rules_seen (rule ∷ rules) = ap (λ rest. rule.source ++ (rule.target ++ rest)) (rules_seen rules) ∙ sym (append_assoc rule.source rule.target (rule_texts rules))

draft_seen : (draft : Draft) → all_of (matcher_lists draft) ≡ matcher_texts draft
draft_seen draft =
    flat_map-append (λ (texts : List (List ℕ)). texts) (route_lists draft.routes) (rule_lists draft.rules)
    ∙ ap (λ front. front ++ all_of (rule_lists draft.rules)) (seen (λ (node : Node RouteDraft). node.item.matchers) draft.routes)
    ∙ ap (λ back. route_texts draft.routes ++ back) (rules_seen draft.rules)

-- what is borrowed of a draft, list by list
module _ {B : Type 0} (now : B → List (List ℕ)) (xs : List B) (draft : Draft) (e : map now xs ≡ matcher_lists draft) where
  pub texts_of : flat_map now xs ≡ matcher_texts draft
  texts_of = sym (seen now xs) ∙ ap all_of e ∙ draft_seen draft

-- what is made of each
mapped : {A B : Type 0} (f : List (List ℕ) → A) (now : B → List (List ℕ)) (xs : List B) → map (λ x. f (now x)) xs ≡ map f (map now xs)
mapped f now [] = refl
mapped f now (x ∷ xs) = ap (λ rest. f (now x) ∷ rest) (mapped f now xs)

pub made_of : {A B : Type 0} (f : List (List ℕ) → A) (now : B → List (List ℕ)) (xs : List B) (lists : List (List (List ℕ))) →
    map now xs ≡ lists → map (λ x. f (now x)) xs ≡ map f lists
made_of f now xs lists e = mapped f now xs ∙ ap (map f) e
