-- The groups of alerts, in the order in which they are listed.
use Rattle.std.specs.Prelude.{ℕ, List, [], ◌∷◌, filter, map, Option}
use Rattle.std.specs.BTreeMap.{insert_entry}
use Rattle.std.specs.Cmp.Lexicographic.{slice_cmp}
use Rattle.std.specs.List.{flat_map}
use Rattle.std.specs.Option.{option_map_or}
use Rattle.std.specs.Ordering.{is_eq, nat_cmp, ordering_then}
use Rattle.std.specs.declared.cmp.Ordering.{Ordering}
use Rattle.am_labels.specs.declared.Label.{Label}
use Rattle.am_labels.specs.Labels.{labels_cmp}
use Rattle.am_config.specs.Configuration.{Configuration, receiver_of}
use Rattle.am_config.specs.declared.parts.Receiver.{Receiver}
use Rattle.am_route.specs.Routes.{routes_at}
use Rattle.am_item.specs.declared.item.Alert.{Alert}
use Rattle.am_item.specs.declared.stamp.Stamped.{Stamped}
use Rattle.am_members.specs.declared.group.Group.{Group}
use Rattle.am_group.specs.Grouping.{group_by}
use Rattle.am_listing.specs.Receivers.{is_asked}
use Rattle.am_group_list.specs.declared.group.ListedGroup.{ListedGroup}

-- ---- the groups of an alert

-- the name of the receiver of the route of this number
abbrev pub receiver_name : Configuration → ℕ → List ℕ
receiver_name c route = option_map_or (λ (receiver : Receiver). receiver.name) (receiver_of c route) []

-- a group as it is listed, with the name of its route's receiver
abbrev pub listed_group : Configuration → Group → ListedGroup
listed_group c group = record { receiver = receiver_name c group.route; labels = group.labels; route = group.route }

-- the groups of an alert with these labels whose receiver is asked for: one for each of its routes that has such a receiver
abbrev pub groups_asked : Configuration → Option (List ℕ) → List Label → List ListedGroup
groups_asked c receiver labels =
    map (λ route. listed_group c (group_by c labels route))
    (filter (λ route. is_asked receiver (receiver_name c route ∷ [])) (routes_at labels c.routes))

-- the pairs of such a group and an alert in it, in the order of the alerts
abbrev pub memberships : Configuration → Option (List ℕ) → List (Stamped Alert) → List (ListedGroup × Stamped Alert)
memberships c receiver alerts =
    flat_map (λ (alert : Stamped Alert). map (λ group. (group, alert)) (groups_asked c receiver alert.value.labels))
    alerts

-- ---- the groups of all of them

-- the order of lists of groups: by the names of their receivers, then by their labels, then by their routes
abbrev pub listed_cmp : ListedGroup → ListedGroup → Ordering
listed_cmp g h =
    ordering_then (slice_cmp nat_cmp g.receiver h.receiver)
    (ordering_then (labels_cmp g.labels h.labels) (nat_cmp g.route h.route))

-- what is paired with a group, in the order of the pairs
abbrev pub members_in : {X : Type 0} → ListedGroup → List (ListedGroup × X) → List X
members_in g pairs = map (λ pair. pair.1) (filter (λ pair. is_eq (listed_cmp g pair.0)) pairs)

-- these groups, each once, in order, each with what is paired with it
abbrev pub in_order : {X : Type 0} → List (ListedGroup × X) → List ListedGroup → List (ListedGroup × List X)
in_order pairs [] = []
in_order pairs (g ∷ gs) = insert_entry listed_cmp (in_order pairs gs) g (members_in g pairs)

-- the same of all groups of the pairs
abbrev pub grouped : {X : Type 0} → List (ListedGroup × X) → List (ListedGroup × List X)
grouped pairs = in_order pairs (map (λ pair. pair.0) pairs)
