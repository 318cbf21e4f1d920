-- Alerts with what is said of them beside, as the code has them on the way to the list.
use Rattle.std.specs.Prelude.{ℕ, Bool, false, ◌&&◌, List, filter, get_or, map, slice_get, unwrap_or}
use Rattle.std.specs.List.{list_any}
use Rattle.am_item.specs.declared.item.Alert.{Alert}
use Rattle.am_item.specs.declared.item.Item.{Item}
use Rattle.am_item.specs.declared.stamp.Stamped.{Stamped}
use Rattle.am_alert.specs.declared.held.HeldAlert.{HeldAlert}
use Rattle.am_alert.specs.HeldAlert.{held_alert}
use Rattle.am_config.specs.Configuration.{Configuration}
use Rattle.am_route.specs.Routes.{routes_at}
use Rattle.am_muting.specs.Muting.{Muting, muting_of, nothing}
use Rattle.am_payload.specs.declared.alerts.ReadAlert.{ReadAlert}
use Rattle.am_query.specs.declared.query.Query.{Query}
use Rattle.am_listing.specs.declared.muting.MutedAlert.{MutedAlert}
use Rattle.am_listing.specs.declared.receivers.RoutedAlert.{RoutedAlert}
use Rattle.am_listing.specs.Receivers.{receivers_at, receivers_of}
use Rattle.am_listing.specs.Shown.{lets_muted_through}

-- ---- alerts with what mutes them

-- an alert and what mutes it
abbrev pub muted : MutedAlert → Stamped Alert × Muting
muted m = (
  held_alert m.alert,
  record {
    silenced_by = m.silenced_by;
    inhibited_by = map (λ set'. set'.now) m.inhibited_by;
  },
)

-- an alert with what mutes it at the moment
abbrev pub with_muting : Configuration → ℕ → List Item → Stamped Alert → Stamped Alert × Muting
with_muting c moment held alert = (alert, muting_of c moment held alert.value.labels)

-- the alert at a place is taken by matchers, and a query lets it through
abbrev pub is_chosen : Query → List Bool → List Muting → ℕ → Bool
is_chosen query taken mutes place = lets_muted_through query (get_or mutes place nothing) && get_or taken place false

-- those of alerts at places that are chosen, with what mutes them
abbrev pub chosen_among : Query → List Bool → List Muting → List (ℕ × HeldAlert) → List (Stamped Alert × Muting)
chosen_among query taken mutes alerts =
    map (λ (place, alert). (held_alert alert, get_or mutes place nothing))
    (filter (λ (place, alert). is_chosen query taken mutes place) alerts)

-- ---- with their routes and receivers

-- an alert with what mutes it, its routes, and the places of its receivers, together
abbrev pub made_routed : MutedAlert × (List ℕ × List ℕ) → RoutedAlert
made_routed pair = record { alert = pair.0; routes = pair.1.0; receivers = pair.1.1 }

-- an alert, its routes, the places of its receivers, and what mutes it
abbrev pub routed : RoutedAlert → Stamped Alert × (List ℕ × (List ℕ × Muting))
routed r = ((muted r.alert).0, (r.routes, (r.receivers, (muted r.alert).1)))

-- the alert as it is written
abbrev pub read_alert : RoutedAlert → ReadAlert
read_alert r = record {
  alert = r.alert.alert;
  receivers = r.receivers;
  silenced_by = r.alert.silenced_by;
  inhibited_by = r.alert.inhibited_by;
}

-- routes of a configuration, and the places of their receivers
abbrev pub with_places : Configuration → List ℕ → List ℕ × List ℕ
with_places c routes = (routes, receivers_at c routes)

-- the same of a muted alert that has the routes of a configuration
abbrev pub with_routes : Configuration → Stamped Alert × Muting → Stamped Alert × (List ℕ × (List ℕ × Muting))
with_routes c pair = (pair.0, (routes_at pair.0.value.labels c.routes, (receivers_of c pair.0.value.labels, pair.1)))

-- the same of an alert at the moment
abbrev pub with_all : Configuration → ℕ → List Item → Stamped Alert → Stamped Alert × (List ℕ × (List ℕ × Muting))
with_all c moment held alert = with_routes c (with_muting c moment held alert)

-- a flag is set at this place
abbrev pub is_taken : List Bool → ℕ → Bool
is_taken taken place = unwrap_or (slice_get taken place) false

-- a flag is set at one of these places
abbrev pub has_taken : List Bool → List ℕ → Bool
has_taken taken places = list_any (is_taken taken) places
