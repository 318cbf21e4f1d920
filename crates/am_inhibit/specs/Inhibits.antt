-- Which firing alerts inhibit which alerts, by their labels.
use Rattle.std.specs.Prelude.{◌≡◌, ◌&&◌, ℕ, ◌<◌, ◌++◌, [], false, List, All, Bool, filter, get_or, length, map, not}
use Rattle.std.specs.List.{Contains, enumerate_from, flat_map, list_any}
use Rattle.std.specs.List.Sorted.{IsPermutation}
use Rattle.am_labels.specs.declared.Label.{Label}
use Rattle.am_match.specs.Matchers.{MatcherText}
use Rattle.am_match.specs.Meaning.{all_take}
use Rattle.am_config.specs.declared.parts.Rule.{Rule}
use Rattle.am_inhibit.specs.Alike.{are_alike}
use Rattle.am_inhibit.specs.Links.{is_among}

-- an alert that takes the rule's source and its target
abbrev pub takes_both : Rule → List Label → Bool
takes_both rule labels = all_take rule.source labels && all_take rule.target labels

-- One alert inhibits another by a rule: it takes the source and the other the target, and they have equal values of all
-- labels in `equal`. But where both take both sides it doesn't, so that none inhibits itself.
abbrev pub inhibits : Rule → List Label → List Label → Bool
inhibits rule source target =
    all_take rule.source source && all_take rule.target target && are_alike rule.equal source target
    && not (takes_both rule source && takes_both rule target)

-- by some rule
abbrev pub inhibits_by : List Rule → List Label → List Label → Bool
inhibits_by rules source target = list_any (λ (rule : Rule). inhibits rule source target) rules

-- those of the firing alerts that inhibit an alert, in their order
abbrev pub inhibitors : List Rule → List (List Label) → List Label → List (List Label)
inhibitors rules firing target = filter (λ source. inhibits_by rules source target) firing

-- their places among the firing ones
abbrev pub inhibitor_places : List Rule → List (List Label) → List Label → List ℕ
inhibitor_places rules firing target =
    map (λ (place, source). place) (filter (λ (place, source). inhibits_by rules source target) (enumerate_from 0 firing))

-- all matchers of rules
abbrev pub rule_matchers : List Rule → List MatcherText
rule_matchers rules = flat_map (λ (rule : Rule). rule.source ++ rule.target) rules

-- the different ones are rules: with others that are equal to one of them they are all the rules, in some order
pub record AreWithoutRepeats (rules different : List Rule) : Type 0 where
  pub repeated : List Rule
  pub all : IsPermutation rules (different ++ repeated)
  pub again : All (Contains different) repeated

-- the lists of each label set have the places of those that fire and inhibit it by some rule
abbrev pub AreInhibitors : List Rule → List (List Label) → List Bool → List (List (List ℕ)) → Type 0
AreInhibitors rules sets fires each =
    (k place : ℕ) → k < length sets → place < length sets →
    is_among (get_or each k []) place ≡ (get_or fires place false && inhibits_by rules (get_or sets place []) (get_or sets k []))
