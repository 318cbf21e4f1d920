-- Which matchers are asked whether they take labels, on the way along the routes.
use Rattle.std.specs.Prelude.{List, [], ◌∷◌, ◌++◌, if◌then◌else◌}
use Rattle.std.specs.List.{flat_map}
use Rattle.am_labels.specs.declared.Label.{Label}
use Rattle.am_match.specs.Matchers.{MatcherText}
use Rattle.am_match.specs.Meaning.{takes_labels}
use Rattle.am_text.specs.declared.tree.Node.{Node}
use Rattle.am_text.specs.Trees.{Forest, none, tree}
use Rattle.am_config.specs.declared.parts.Route.{Route}
use Rattle.am_route.specs.Routes.{route_takes}
use Rattle.am_draft.specs.Forests.{forest_of}

-- of matchers that are asked one after the other: those up to the first that doesn't take the labels, and that one
unfoldable pub asked_of : List Label → List MatcherText → List MatcherText
asked_of labels [] = []
asked_of labels (matcher ∷ more) = matcher ∷ (if takes_labels matcher labels then asked_of labels more else [])

-- those asked among siblings: the first sibling's; where it takes the labels those below it, and where it has
-- `continue` those among the siblings after it; where it does not take them those among the siblings after it
unfoldable pub asked_among : List Label → Forest Route → List MatcherText
asked_among labels none = []
asked_among labels (tree route within after) =
    let later = asked_among labels after in
    asked_of labels route.matchers
    ++ (if route_takes route labels then asked_among labels within ++ (if route.goes_on then later else []) else later)

-- those asked in a whole tree, whose root takes all labels and is not asked
abbrev pub asked_below : List Label → Forest Route → List MatcherText
asked_below labels none = []
asked_below labels (tree root within after) = asked_among labels within

-- those asked in the tree that a list of routes holds
abbrev pub asked_at : List Label → List (Node Route) → List MatcherText
asked_at labels nodes = asked_below labels (forest_of nodes)

-- all matchers of routes
abbrev pub route_matchers : List (Node Route) → List MatcherText
route_matchers nodes = flat_map (λ (node : Node Route). node.item.matchers) nodes
