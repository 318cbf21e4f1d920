-- The two sides of rules, and what comes of the flags that tell which label sets they take.
use Rattle.std.specs.Prelude.{◌≡◌, ◌&&◌, ◌||◌, ℕ, ◌<◌, [], ◌∷◌, false, List, Bool, get_or, length, not}
use Rattle.std.specs.List.{flat_map}
use Rattle.am_labels.specs.declared.Label.{Label}
use Rattle.am_match.specs.Matchers.{MatcherText}
use Rattle.am_config.specs.declared.parts.Rule.{Rule}
use Rattle.am_inhibit.specs.Alike.{are_alike}
use Rattle.am_inhibit.specs.Links.{is_among}

-- the matchers of each rule's source, and behind them those of its target
abbrev pub sides_in : List Rule → List (List MatcherText)
sides_in rules = flat_map (λ (rule : Rule). rule.source ∷ rule.target ∷ []) rules

-- to the lists of each target that doesn't take the source too came the sources that fire and are like it
abbrev pub AreLinkedAlone : List (List ℕ) → List (List Label) → List Bool → List Bool → List Bool → List (List (List ℕ)) → List (List (List ℕ)) → Type 0
AreLinkedAlone names sets sources targets fires old new =
    (k place : ℕ) → k < length sets → place < length sets →
    is_among (get_or new k []) place
    ≡ (is_among (get_or old k []) place
    || ((get_or targets k false && not (get_or sources k false))
    && ((get_or sources place false && get_or fires place false) && are_alike names (get_or sets place []) (get_or sets k []))))

-- to those of each that takes both sides came the ones that fire, take the source alone and are like it
abbrev pub AreLinkedBoth : List (List ℕ) → List (List Label) → List Bool → List Bool → List Bool → List (List (List ℕ)) → List (List (List ℕ)) → Type 0
AreLinkedBoth names sets sources targets fires old new =
    (k place : ℕ) → k < length sets → place < length sets →
    is_among (get_or new k []) place
    ≡ (is_among (get_or old k []) place
    || ((get_or targets k false && get_or sources k false)
    && (((get_or sources place false && get_or fires place false) && not (get_or targets place false))
    && are_alike names (get_or sets place []) (get_or sets k []))))
