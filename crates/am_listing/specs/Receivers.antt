-- The receivers of alerts, by the routes that they have.
use Rattle.std.specs.Prelude.{ℕ, Bool, true, not, ◌==◌, List, [], ◌∷◌, filter, Option, Some, None, option_map}
use Rattle.std.specs.List.{filter_map, list_any}
use Rattle.am_labels.specs.declared.Label.{Label}
use Rattle.am_pattern.specs.Taking.{takes}
use Rattle.am_config.specs.declared.parts.Settings.{Settings}
use Rattle.am_config.specs.Configuration.{Configuration, settings_at}
use Rattle.am_route.specs.Routes.{routes_at}

-- each number once, at its first place
abbrev pub once : List ℕ → List ℕ
once [] = []
once (x ∷ xs) = x ∷ filter (λ y. not (y == x)) (once xs)

-- the place of the receiver of the route of this number
abbrev pub receiver_at : Configuration → ℕ → Option ℕ
receiver_at c number = option_map (λ (settings : Settings). settings.receiver) (settings_at c number)

-- the places of the receivers of routes, each once, in the order of the routes
unfoldable pub receivers_at : Configuration → List ℕ → List ℕ
receivers_at c routes = once (filter_map (receiver_at c) routes)

-- the places of the receivers of an alert with these labels: those of its routes
unfoldable pub receivers_of : Configuration → List Label → List ℕ
receivers_of c labels = receivers_at c (routes_at labels c.routes)

-- a receiver that is asked for takes one of these names; all of them, where none is
abbrev pub is_asked : Option (List ℕ) → List (List ℕ) → Bool
is_asked None names = true
is_asked (Some pattern) names = list_any (λ name. takes pattern name) names
