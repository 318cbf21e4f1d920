-- The routes of labels: a recursion on the tree of routes.
use Rattle.std.specs.Prelude.{ℕ, ◌+◌, Bool, if◌then◌else◌, List, [], ◌∷◌, ◌++◌, length}
use Rattle.am_labels.specs.declared.Label.{Label}
use Rattle.am_match.specs.Meaning.{all_take}
use Rattle.am_text.specs.declared.tree.Node.{Node}
use Rattle.am_text.specs.Trees.{Forest, none, tree, flat}
use Rattle.am_config.specs.declared.parts.Route.{Route}
use Rattle.am_draft.specs.Forests.{forest_of}

-- a route takes labels that all its matchers take
abbrev pub route_takes : Route → List Label → Bool
route_takes route labels = all_take route.matchers labels

-- what was found below a route, or the route itself where that is nothing
abbrev pub or_itself : ℕ → List ℕ → List ℕ
or_itself number [] = number ∷ []
or_itself number (first ∷ more) = first ∷ more

-- the routes among siblings, of which the first has this number: those below the first sibling that takes
-- the labels, or that sibling, and where it has `continue` those among the siblings after it
unfoldable pub routes_among : List Label → ℕ → Forest Route → List ℕ
routes_among labels number none = []
routes_among labels number (tree route within after) =
    let later = routes_among labels (number + (1 + length (flat within))) after in
    if route_takes route labels
    then or_itself number (routes_among labels (number + 1) within) ++ (if route.goes_on then later else [])
    else later

-- the routes below a route, which takes the labels, or that route
abbrev pub routes_within : List Label → ℕ → Forest Route → List ℕ
routes_within labels number within = or_itself number (routes_among labels (number + 1) within)

-- the routes in a whole tree, whose root takes all labels
abbrev pub routes_below : List Label → Forest Route → List ℕ
routes_below labels none = []
routes_below labels (tree root within after) = routes_within labels 0 within

-- the routes in the tree that a list of routes holds
abbrev pub routes_at : List Label → List (Node Route) → List ℕ
routes_at labels nodes = routes_below labels (forest_of nodes)
