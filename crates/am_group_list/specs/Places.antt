-- Groups with the places of their alerts, as the code has them.
use Rattle.std.specs.Prelude.{◌≡◌, ℕ, Bool, false, List, [], ◌∷◌, filter, get_or, map, Option, None, Some}
use Rattle.std.specs.BTreeMap.{is_at}
use Rattle.std.specs.Global.{Vec}
use Rattle.std.specs.List.{enumerate_from, flat_map}
use Rattle.std.specs.Map.{lookup}
use Rattle.serde_json.specs.Data.{Data, array}
use Rattle.serde_json.specs.View.{items_of}
use Rattle.serde_json.specs.Written.{compact_text}
use Rattle.am_labels.specs.declared.Label.{Label}
use Rattle.am_config.specs.Configuration.{Configuration}
use Rattle.am_group.specs.Grouping.{group_by}
use Rattle.am_listing.specs.Listed.{read_alert}
use Rattle.am_listing.specs.declared.receivers.RoutedAlert.{RoutedAlert}
use Rattle.am_payload.specs.Groups.{group_data}
use Rattle.am_payload.specs.Listed.{read_data, reads_at}
use Rattle.am_group_list.specs.Groups.{listed_cmp, listed_group, members_in}
use Rattle.am_group_list.specs.declared.group.ListedGroup.{ListedGroup}

-- the groups of an alert, by those of its routes whose flag is set
abbrev pub groups_flagged : Configuration → List Bool → RoutedAlert → List ListedGroup
groups_flagged c asked r =
    map (λ route. listed_group c (group_by c r.alert.alert.labels.now route))
    (filter (λ route. get_or asked route false) r.routes)

-- the pairs of a group and the place of an alert in it, where each of some alerts has these groups
abbrev pub places_from : ℕ → List (List ListedGroup) → List (ListedGroup × ℕ)
places_from n each = flat_map (λ (place, groups). map (λ group. (group, place)) groups) (enumerate_from n each)

-- groups with lists of places
abbrev pub places_by : List (ListedGroup × Vec ℕ) → List (ListedGroup × List ℕ)
places_by entries = map (λ entry. (entry.0, entry.1.items)) entries

-- a list, where it has anything
abbrev pub unless_empty : {X : Type 0} → List X → Option (List X)
unless_empty [] = None
unless_empty (x ∷ xs) = Some (x ∷ xs)

-- under each group stands what is paired with it, and no group stands there without any
abbrev pub AreGrouped : List (ListedGroup × List ℕ) → List (ListedGroup × ℕ) → Type 0
AreGrouped entries pairs = (g : ListedGroup) → lookup (is_at (listed_cmp g)) entries ≡ unless_empty (members_in g pairs)

-- what is written of a group
abbrev pub read_of : ListedGroup × List ℕ → List ℕ × (List Label × List ℕ)
read_of entry = (entry.0.receiver, (entry.0.labels, entry.1))

-- a group of those of the alerts that stand at its places
abbrev pub data_at : Configuration → List RoutedAlert → ListedGroup × List ℕ → Data
data_at c alerts entry = group_data (map (read_data c) (reads_at (map read_alert alerts) entry.1)) entry.0.labels
    entry.0.receiver

-- the bytes of the list
abbrev pub written_by : Configuration → List RoutedAlert → List (ListedGroup × List ℕ) → List ℕ
written_by c alerts entries = compact_text (array (items_of (map (data_at c alerts) entries)))
