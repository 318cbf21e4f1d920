-- The groups of an alert: one for each of its routes.
use Rattle.std.specs.Prelude.{ℕ, Bool, List, [], map, filter, Option, Some, None}
use Rattle.std.specs.List.{list_any}
use Rattle.std.specs.Str.{bytes_eq}
use Rattle.am_labels.specs.declared.Label.{Label}
use Rattle.am_draft.specs.declared.route.Grouping.{Grouping}
use Rattle.am_draft.specs.declared.route.Grouping.TheVariants.{All, Names}
use Rattle.am_config.specs.Configuration.{Configuration, grouping_of}
use Rattle.am_route.specs.Routes.{routes_at}
use Rattle.am_members.specs.declared.group.Group.{Group}

-- the label has one of these names
abbrev pub is_named : List (List ℕ) → Label → Bool
is_named names label = list_any (λ name. bytes_eq name label.name) names

-- the labels by which a grouping groups an alert: none, all, or those of its labels that have one of the names, so that a
-- name which it lacks gives no label
abbrev pub labels_by : Option Grouping → List Label → List Label
labels_by None labels = []
labels_by (Some All) labels = labels
labels_by (Some (Names names)) labels = filter (is_named names) labels

-- the group of an alert by the route of this number
abbrev pub group_by : Configuration → List Label → ℕ → Group
group_by c labels route = record { route = route; labels = labels_by (grouping_of c route) labels }

-- the groups of an alert, in the order of its routes
unfoldable pub groups_of : Configuration → List Label → List Group
groups_of c labels = map (group_by c labels) (routes_at labels c.routes)
