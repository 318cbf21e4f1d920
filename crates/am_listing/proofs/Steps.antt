-- How the alerts that are shown come about, step by step.
use Rattle.std.proofs.Common.{◌≡◌, ℕ, ◌+◌, ◌<◌, List, [], Bool, Bor, false, ◌&&◌, filter, get_or, length, map, refl, sym, ap, ◌∙◌, arith}
use Rattle.std.specs.List.{enumerate_from}
use Rattle.std.proofs.lemmas.List.{get_or-map, length-map}
use Rattle.std.proofs.lemmas.Simd.{map-map}
use Rattle.serde_json.specs.Data.{Data, array}
use Rattle.serde_json.specs.View.{items_of}
use Rattle.serde_json.specs.Written.{compact_text}
use Rattle.am_labels.specs.declared.Label.{Label}
use Rattle.am_match.specs.Meaning.{all_take}
use Rattle.am_config.specs.Configuration.{Configuration}
use Rattle.am_item.specs.declared.item.Alert.{Alert}
use Rattle.am_item.specs.declared.item.Item.{Item}
use Rattle.am_item.specs.declared.stamp.Stamped.{Stamped}
use Rattle.am_alert.specs.declared.held.HeldAlert.{HeldAlert}
use Rattle.am_alert.specs.Held.{firing}
use Rattle.am_alert.specs.HeldAlert.{held_alert}
use Rattle.am_muting.specs.Muting.{Muting, firing_sets, muting_of, nothing}
use Rattle.am_payload.specs.Listed.{read_data, reads_text}
use Rattle.am_payload.specs.Receivers.{names_at}
use Rattle.am_query.specs.declared.query.Query.{Query}
use Rattle.am_listing.specs.declared.muting.MutedAlert.{MutedAlert}
use Rattle.am_listing.specs.declared.receivers.RoutedAlert.{RoutedAlert}
use Rattle.am_listing.specs.Listed.{chosen_among, is_chosen, muted, read_alert, routed, with_all, with_muting, with_routes}
use Rattle.am_listing.specs.Receivers.{is_asked}
use Rattle.am_listing.specs.Shown.{is_passed, is_shown, lets_muted_through, passed, shown}
use Rattle.am_listing.specs.Written.{alerts_text, data_by}
use Rattle.am_listing.proofs.Lists.{filter-filter, filter-map}
use Rattle.am_listing.proofs.Places.{chosen_are}

-- what is made of label sets, of the labels themselves
by_labels : {Y : Type 0} (f : List Label → Y) (sets : List (Bor (List Label))) (labels : List (List Label)) (ys : List Y) →
    map (λ (set' : Bor (List Label)). set'.now) sets ≡ labels → ys ≡ map (λ (set' : Bor (List Label)). f set'.now) sets → ys ≡ map f labels
by_labels f sets labels ys same is = is ∙ sym (map-map f (λ (set' : Bor (List Label)). set'.now) sets) ∙ ap (map f) same

-- those that pass by their labels and by what mutes them
pub passed_are : (c : Configuration) (q : Query) (moment : ℕ) (held : List Item) (alerts : List HeldAlert) (sets : List (Bor (List Label))) (taken : List Bool) (mutes : List Muting) (out : List MutedAlert) →
    map held_alert alerts ≡ firing moment held → map (λ (set' : Bor (List Label)). set'.now) sets ≡ map (λ (a : HeldAlert). a.labels.now) alerts →
    taken ≡ map (λ (set' : Bor (List Label)). all_take q.matchers set'.now) sets →
    mutes ≡ map (λ (set' : Bor (List Label)). muting_of c moment held set'.now) sets →
    map muted out ≡ chosen_among q taken mutes (enumerate_from 0 alerts) →
    map muted out ≡ map (with_muting c moment held) (passed c q moment held)
passed_are c q moment held alerts sets taken mutes out fires same flag muting made =
    let labels = map (λ (a : HeldAlert). a.labels.now) alerts in
    let passes : List Label → Bool = λ own. lets_muted_through q (muting_of c moment held own) && all_take q.matchers own in
    let all : length labels ≡ length alerts = length-map alerts (λ (a : HeldAlert). a.labels.now) in
    let start : (k : ℕ) → 0 + k ≡ k = λ k. omega arith in
    let mutes_at : (k : ℕ) → k < length alerts → get_or mutes k nothing ≡ muting_of c moment held (get_or labels k []) =
    λ k below. ap (λ ms. get_or ms k nothing) (by_labels (muting_of c moment held) sets labels mutes same muting)
    ∙ get_or-map (muting_of c moment held) labels k [] nothing (omega (arith, below, all)) in
    let takes : (k : ℕ) → k < length alerts → get_or taken k false ≡ all_take q.matchers (get_or labels k []) =
    λ k below. ap (λ fs. get_or fs k false) (by_labels (all_take q.matchers) sets labels taken same flag)
    ∙ get_or-map (all_take q.matchers) labels k [] false (omega (arith, below, all)) in
    made
    ∙ chosen_are passes (muting_of c moment held) (is_chosen q taken mutes) (λ place. get_or mutes place nothing) 0 alerts
    (λ k below. ap (is_chosen q taken mutes) (start k) ∙ ap (λ own. lets_muted_through q own && get_or taken k false) (mutes_at k below)
    ∙ ap (λ b. lets_muted_through q (muting_of c moment held (get_or labels k [])) && b) (takes k below))
    (λ k below. ap (λ place. get_or mutes place nothing) (start k) ∙ mutes_at k below)
    ∙ ap (λ all'. map (with_muting c moment held) (filter (λ alert. is_passed c q moment held alert) all')) fires

-- the label sets of the alerts that fire
pub sets_are : (moment : ℕ) (held : List Item) (alerts : List HeldAlert) (sets : List (List Label)) → map held_alert alerts ≡ firing moment held →
    sets ≡ map (λ (a : HeldAlert). a.labels.now) alerts → sets ≡ firing_sets moment held
sets_are moment held alerts sets fires same =
    same ∙ sym (map-map (λ (a : Stamped Alert). a.value.labels) held_alert alerts) ∙ ap (map (λ (a : Stamped Alert). a.value.labels)) fires

-- those with their routes and receivers
pub all_are : (c : Configuration) (q : Query) (moment : ℕ) (held : List Item) (muteds : List MutedAlert) (found : List RoutedAlert) →
    map muted muteds ≡ map (with_muting c moment held) (passed c q moment held) → map routed found ≡ map (with_routes c) (map muted muteds) →
    map routed found ≡ map (with_all c moment held) (passed c q moment held)
all_are c q moment held muteds found passes with =
    with ∙ ap (map (with_routes c)) passes ∙ map-map (with_routes c) (with_muting c moment held) (passed c q moment held)

-- those of which a receiver is asked for
pub shown_are : (c : Configuration) (q : Query) (moment : ℕ) (held : List Item) (found : List RoutedAlert) →
    map routed found ≡ map (with_all c moment held) (passed c q moment held) →
    map routed (filter (λ (r : RoutedAlert). is_asked q.receiver (names_at c r.receivers)) found) ≡ map (with_all c moment held) (shown c q moment held)
unfolding shown
shown_are c q moment held found passes =
    let pass : Stamped Alert → Bool = λ alert. is_passed c q moment held alert in
    let asked : Stamped Alert × (List ℕ × (List ℕ × Muting)) → Bool = λ p. is_asked q.receiver (names_at c p.1.1.0) in
    sym (filter-map asked routed found)
    ∙ ap (filter asked) passes
    ∙ filter-map asked (with_all c moment held) (passed c q moment held)
    ∙ ap (map (with_all c moment held)) (filter-filter (λ a. asked (with_all c moment held a)) pass (λ alert. is_shown c q moment held alert) (λ alert. refl) (firing moment held))

-- the bytes of what is shown
pub text_shown : (c : Configuration) (q : Query) (moment : ℕ) (held : List Item) (found : List RoutedAlert) →
    map routed found ≡ map (with_all c moment held) (shown c q moment held) → reads_text c (map read_alert found) ≡ alerts_text c q moment held
unfolding alerts_text
text_shown c q moment held found with =
    let written : Stamped Alert × (List ℕ × (List ℕ × Muting)) → Data = λ p. data_by c p.1.1.0 p.1.1.1 p.0 in
    ap (λ ds. compact_text (array (items_of ds)))
    (map-map (read_data c) read_alert found ∙ sym (map-map written routed found) ∙ ap (map written) with ∙ map-map written (with_all c moment held) (shown c q moment held))
