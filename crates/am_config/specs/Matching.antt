-- The matchers of a draft: their texts in the order of reading, and what they give.
use Rattle.std.specs.Prelude.{ℕ, Bool, List, [], ◌∷◌, ◌++◌, chars, map, Result, Ok, Err, is_ok}
use Rattle.std.specs.List.{flat_map}
use Rattle.am_text.specs.declared.tree.Node.{Node}
use Rattle.am_match.specs.declared.refusal.MatcherRefusal.{MatcherRefusal}
use Rattle.am_match.specs.Checking.{meaning_of, patterns_in, reading_of}
use Rattle.am_match.specs.Matchers.{MatcherText}
use Rattle.am_match.specs.Reading.{matchers_of}
use Rattle.am_draft.specs.declared.draft.Draft.{Draft}
use Rattle.am_draft.specs.declared.refusal.DraftRefusal.{DraftRefusal}
use Rattle.am_draft.specs.declared.route.RouteDraft.{RouteDraft}
use Rattle.am_draft.specs.declared.rule.RuleDraft.{RuleDraft}

-- what a text of matchers means, by its bytes
abbrev pub meaning : List ℕ → Result (List MatcherText) MatcherRefusal
meaning text = meaning_of (matchers_of (chars text))

-- the text means matchers
unfoldable pub gives_matchers : List ℕ → Bool
gives_matchers text = is_ok (meaning text)

-- and none of their patterns nests too deep to be built, so that it is read
unfoldable pub reads_matchers : List ℕ → Bool
reads_matchers text = is_ok (reading_of (matchers_of (chars text)))

abbrev pub given : Result (List MatcherText) MatcherRefusal → List MatcherText
given (Ok matchers) = matchers
given (Err refusal) = []

-- the matchers of texts, one after another
unfoldable pub matchers_in : List (List ℕ) → List MatcherText
matchers_in texts = flat_map (λ text. given (meaning text)) texts

-- the texts of routes, in their order
abbrev pub route_texts : List (Node RouteDraft) → List (List ℕ)
route_texts nodes = flat_map (λ (node : Node RouteDraft). node.item.matchers) nodes

-- the texts of inhibit rules: of each the source's, then the target's
abbrev pub rule_texts : List RuleDraft → List (List ℕ)
rule_texts rules = flat_map (λ (rule : RuleDraft). rule.source ++ rule.target) rules

-- all texts of matchers: those of the routes, then those of the inhibit rules
abbrev pub matcher_texts : Draft → List (List ℕ)
matcher_texts draft = route_texts draft.routes ++ rule_texts draft.rules

-- the same texts in the lists in which they are written
abbrev pub route_lists : List (Node RouteDraft) → List (List (List ℕ))
route_lists nodes = map (λ (node : Node RouteDraft). node.item.matchers) nodes

abbrev pub rule_lists : List RuleDraft → List (List (List ℕ))
rule_lists rules = flat_map (λ (rule : RuleDraft). rule.source ∷ rule.target ∷ []) rules

abbrev pub matcher_lists : Draft → List (List (List ℕ))
matcher_lists draft = route_lists draft.routes ++ rule_lists draft.rules

-- the patterns in texts of matchers
abbrev pub patterns_of_texts : List (List ℕ) → List (List ℕ)
patterns_of_texts texts = flat_map (λ text. patterns_in (matchers_of (chars text))) texts

-- the patterns of a draft; none where there is none
abbrev pub patterns_of_draft : Result Draft DraftRefusal → List (List ℕ)
patterns_of_draft (Ok draft) = patterns_of_texts (matcher_texts draft)
patterns_of_draft (Err refusal) = []
