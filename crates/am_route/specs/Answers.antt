-- What is known of the answers of routes.
use Rattle.std.specs.Prelude.{◌≡◌, ℕ, ◌+◌, ◌<◌, List, Bool, None, Option, get_or, length}
use Rattle.std.specs.Option.{ForSome}
use Rattle.am_labels.specs.declared.Label.{Label}
use Rattle.am_text.specs.declared.tree.Node.{Node}
use Rattle.am_config.specs.declared.parts.Route.{Route}
use Rattle.am_route.specs.Routes.{route_takes}

-- What is known of each of these routes by its number is right: whether it takes the labels. The first route has this
-- number.
abbrev pub AreKnown : List Label → List (Node Route) → ℕ → List (Option Bool) → Type 0
AreKnown labels nodes first known =
    (i : ℕ) (other : Node Route) → i < length nodes →
    (first + i < length known)
    × ForSome (get_or known (first + i) None) (λ taken. taken ≡ route_takes (get_or nodes i other).item labels)
