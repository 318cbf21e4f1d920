-- Alerts that are chosen by flags, and alerts with the places of their receivers.
use Rattle.std.proofs.Common.{◌≡◌, ℕ, zero, suc, Bor, List, [], ◌∷◌, All, Bool, false, ◌||◌, Option, None, Some, filter, map, zip, refl, sym, ap, ◌∙◌, inl, inr}
use Rattle.std.specs.Prelude.{option_map, slice_get, unwrap_or}
use Rattle.std.specs.List.{cons_option, list_any}
use Rattle.std.proofs.lemmas.Bool.{cases_Bool}
use Rattle.std.proofs.lemmas.List.Elements.{All-nil, All-cons, All-head, All-tail}
use Rattle.std.proofs.lemmas.Simd.{map-map}
use Rattle.am_labels.specs.declared.Label.{Label}
use Rattle.am_pattern.specs.Taking.{takes}
use Rattle.am_config.specs.Configuration.{Configuration}
use Rattle.am_config.specs.declared.parts.Receiver.{Receiver}
use Rattle.am_route.specs.Routes.{routes_at}
use Rattle.am_item.specs.declared.item.Alert.{Alert}
use Rattle.am_item.specs.declared.stamp.Stamped.{Stamped}
use Rattle.am_muting.specs.Muting.{Muting}
use Rattle.am_payload.specs.Receivers.{names_at, names_of}
use Rattle.am_listing.specs.declared.muting.MutedAlert.{MutedAlert}
use Rattle.am_listing.specs.declared.receivers.RoutedAlert.{RoutedAlert}
use Rattle.am_listing.specs.Listed.{has_taken, made_routed, muted, routed, with_places, with_routes}
use Rattle.am_listing.specs.Receivers.{is_asked, receivers_of}

-- those whose own flag is set
pub chosen_by : {X : Type 0} (test : X → Bool) (xs : List X) → map (λ pair. pair.0) (filter (λ pair. pair.1) (zip xs (map test xs))) ≡ filter test xs
chosen_by test [] = refl
chosen_by test (x ∷ xs) =
    elim (cases_Bool (test x)) [
      | inl on ↦ rw on (ap (λ ys. x ∷ ys) (chosen_by test xs))
      | inr off ↦ rw off (chosen_by test xs)
    ]

filter_same : {X : Type 0} (f g : X → Bool) → ((x : X) → f x ≡ g x) → (xs : List X) → filter f xs ≡ filter g xs
filter_same f g same [] = refl
filter_same f g same (x ∷ xs) =
    elim (cases_Bool (g x)) [
      | inl on ↦ rw (same x, on) (ap (λ ys. x ∷ ys) (filter_same f g same xs))
      | inr off ↦ rw (same x, off) (filter_same f g same xs)
    ]

-- what is made of label sets, of the alerts that have them
by_sets : {Y : Type 0} (f : List Label → Y) (alerts : List MutedAlert) (sets : List (Bor (List Label))) →
    map (λ (set' : Bor (List Label)). set'.now) sets ≡ map (λ (m : MutedAlert). m.alert.labels.now) alerts →
    map (λ (set' : Bor (List Label)). f set'.now) sets ≡ map (λ (m : MutedAlert). f m.alert.labels.now) alerts
by_sets f alerts sets same =
    sym (map-map f (λ (set' : Bor (List Label)). set'.now) sets) ∙ ap (map f) same ∙ map-map f (λ (m : MutedAlert). m.alert.labels.now) alerts

-- an alert with routes, and places for its receivers
abbrev placed : (MutedAlert → List ℕ × List ℕ) → MutedAlert → Stamped Alert × (List ℕ × (List ℕ × Muting))
placed f m = ((muted m).0, ((f m).0, ((f m).1, (muted m).1)))

joined : (f : MutedAlert → List ℕ × List ℕ) (alerts : List MutedAlert) → map routed (map made_routed (zip alerts (map f alerts))) ≡ map (placed f) alerts
joined f [] = refl
joined f (m ∷ alerts) = ap (λ rest. placed f m ∷ rest) (joined f alerts)

-- those with their routes and the receivers of these
pub routed_are : (c : Configuration) (alerts : List MutedAlert) (found : List RoutedAlert) (sets : List (Bor (List Label))) (routes : List (List ℕ)) (pairs : List (List ℕ × List ℕ)) →
    map (λ (set' : Bor (List Label)). set'.now) sets ≡ map (λ (m : MutedAlert). m.alert.labels.now) alerts →
    routes ≡ map (λ (set' : Bor (List Label)). routes_at set'.now c.routes) sets → pairs ≡ map (with_places c) routes →
    found ≡ map made_routed (zip alerts pairs) → map routed found ≡ map (with_routes c) (map muted alerts)
unfolding receivers_of
routed_are c alerts found sets routes pairs same route pair made =
    let own : MutedAlert → List ℕ × List ℕ = λ m. with_places c (routes_at m.alert.labels.now c.routes) in
    let each : pairs ≡ map own alerts =
    pair ∙ ap (map (with_places c)) (route ∙ by_sets (λ labels. routes_at labels c.routes) alerts sets same)
    ∙ map-map (with_places c) (λ (m : MutedAlert). routes_at m.alert.labels.now c.routes) alerts in
    ap (map routed) (made ∙ ap (λ ps. map made_routed (zip alerts ps)) each) ∙ joined own alerts ∙ sym (map-map (with_routes c) muted alerts)

-- what holds of all routes holds of those of the alerts
pub routes_all : (P : List ℕ → Type 0) (c : Configuration) (alerts : List MutedAlert) (routes : List (List ℕ)) → All P routes →
    All (λ (r : RoutedAlert). P r.routes) (map made_routed (zip alerts (map (with_places c) routes)))
routes_all P c [] routes all = All-nil (λ (r : RoutedAlert). P r.routes)
routes_all P c (m ∷ alerts) [] all = All-nil (λ (r : RoutedAlert). P r.routes)
routes_all P c (m ∷ alerts) (route ∷ routes) all =
    All-cons (λ (r : RoutedAlert). P r.routes) (made_routed (m, with_places c route)) (map made_routed (zip alerts (map (with_places c) routes)))
    (All-head P route routes all) (routes_all P c alerts routes (All-tail P route routes all))

-- ---- the receiver that is asked for

flag_at : (pattern : List ℕ) (receivers : List Receiver) (place : ℕ) →
    slice_get (map (λ name. takes pattern name) (map (λ (r : Receiver). r.name) receivers)) place ≡ option_map (λ (r : Receiver). takes pattern r.name) (slice_get receivers place)
flag_at pattern [] place = refl
flag_at pattern (r ∷ receivers) zero = refl
flag_at pattern (r ∷ receivers) (suc place) = flag_at pattern receivers place

one_place : (pattern : List ℕ) (found : Option Receiver) (rest : List (List ℕ)) (b : Bool) → b ≡ list_any (λ name. takes pattern name) rest →
    (unwrap_or (option_map (λ (r : Receiver). takes pattern r.name) found) false || b)
    ≡ list_any (λ name. takes pattern name) (cons_option (option_map (λ (r : Receiver). r.name) found) rest)
one_place pattern None rest b is = is
one_place pattern (Some r) rest b is = ap (λ x. takes pattern r.name || x) is

each_place : (c : Configuration) (pattern : List ℕ) (places : List ℕ) →
    has_taken (map (λ name. takes pattern name) (names_of c)) places ≡ is_asked (Some pattern) (names_at c places)
each_place c pattern [] = refl
each_place c pattern (place ∷ places) =
    ap (λ found. unwrap_or found false || has_taken (map (λ name. takes pattern name) (names_of c)) places) (flag_at pattern c.receivers place)
    ∙ one_place pattern (slice_get c.receivers place) (names_at c places) _ (each_place c pattern places)

pub asked_are : (c : Configuration) (pattern : List ℕ) (taken flags : List Bool) (alerts found : List RoutedAlert) → taken ≡ map (λ name. takes pattern name) (names_of c) →
    flags ≡ map (λ (r : RoutedAlert). has_taken taken r.receivers) alerts → found ≡ map (λ pair. pair.0) (filter (λ pair. pair.1) (zip alerts flags)) →
    found ≡ filter (λ (r : RoutedAlert). is_asked (Some pattern) (names_at c r.receivers)) alerts
asked_are c pattern taken flags alerts found takes' flag choice =
    choice ∙ ap (λ fs. map (λ (pair : RoutedAlert × Bool). pair.0) (filter (λ (pair : RoutedAlert × Bool). pair.1) (zip alerts fs))) flag
    ∙ chosen_by (λ (r : RoutedAlert). has_taken taken r.receivers) alerts
    ∙ filter_same (λ (r : RoutedAlert). has_taken taken r.receivers) (λ (r : RoutedAlert). is_asked (Some pattern) (names_at c r.receivers))
    (λ r. ap (λ ts. has_taken ts r.receivers) takes' ∙ each_place c pattern r.receivers) alerts

pub asked_none : (c : Configuration) (alerts : List RoutedAlert) → alerts ≡ filter (λ (r : RoutedAlert). is_asked None (names_at c r.receivers)) alerts
asked_none c [] = refl
asked_none c (alert ∷ alerts) = ap (λ rest. alert ∷ rest) (asked_none c alerts)
