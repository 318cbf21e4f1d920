-- How the list of groups comes about, step by step.
use Rattle.std.proofs.Common.{◌≡◌, ℕ, ◌+◌, ◌<◌, Bool, false, inl, inr, List, [], ◌∷◌, ◌++◌, Option, Some, None, All, filter, get_or, length, map, refl, sym, ap, ap₂, ◌∙◌, arith}
use Rattle.std.specs.Prelude.{slice_get}
use Rattle.std.specs.List.{cons_option, filter_map, flat_map, range_with_len}
use Rattle.std.specs.List.Sorted.{IsStrictlySortedBy}
use Rattle.std.specs.Map.{keys_of}
use Rattle.std.specs.Option.{option_map}
use Rattle.std.proofs.lemmas.Bool.{cases_Bool}
use Rattle.std.proofs.lemmas.List.Elements.{All-head, All-tail}
use Rattle.std.proofs.lemmas.List.FromFn.{get_or-map-range_with_len, map-range_with_len_more}
use Rattle.std.proofs.lemmas.Option.{slice_get-map}
use Rattle.std.proofs.lemmas.Simd.{map-map}
use Rattle.serde_json.specs.Data.{Data, array}
use Rattle.serde_json.specs.View.{items_of}
use Rattle.serde_json.specs.Written.{compact_text}
use Rattle.am_labels.specs.declared.Label.{Label}
use Rattle.am_config.specs.Configuration.{Configuration, receiver_of}
use Rattle.am_config.specs.declared.parts.Receiver.{Receiver}
use Rattle.am_item.specs.declared.item.Alert.{Alert}
use Rattle.am_item.specs.declared.item.Item.{Item}
use Rattle.am_item.specs.declared.stamp.Stamped.{Stamped}
use Rattle.am_group.specs.Grouping.{group_by}
use Rattle.am_muting.specs.Muting.{Muting}
use Rattle.am_payload.specs.Groups.{group_data}
use Rattle.am_payload.specs.Listed.{read_data, reads_at}
use Rattle.am_payload.specs.Listed as payload
use Rattle.am_payload.specs.declared.groups.ReadGroup.{ReadGroup}
use Rattle.am_query.specs.declared.query.Query.{Query}
use Rattle.am_listing.specs.Listed.{read_alert, routed, with_all}
use Rattle.am_listing.specs.Receivers.{is_asked}
use Rattle.am_listing.specs.Shown.{passed}
use Rattle.am_listing.specs.Written.{data_by, shown_data}
use Rattle.am_listing.specs.declared.receivers.RoutedAlert.{RoutedAlert}
use Rattle.am_group_list.specs.declared.group.ListedGroup.{ListedGroup}
use Rattle.am_group_list.specs.Groups.{grouped, groups_asked, listed_cmp, listed_group, memberships, receiver_name}
use Rattle.am_group_list.specs.Places.{AreGrouped, data_at, groups_flagged, places_from, read_of, written_by}
use Rattle.am_group_list.specs.Written.{grouped_data, groups_text}
use Rattle.am_group_list.proofs.Under.{grouped_are, grouped_by}
use Rattle.am_group_list.proofs.Members.{at_places, members_made, pairs_made, pairs_of, same_groups}

-- ---- the routes that are asked for

-- the flag of each route says whether it is asked for
pub flagged_are : (count : ℕ) (asked : List Bool) (f : ℕ → Bool) → asked ≡ map f (range_with_len 0 count) → (routes : List ℕ) → All (λ id. id < count) routes →
    filter (λ route. get_or asked route false) routes ≡ filter f routes
flagged_are count asked f flags [] below = refl
flagged_are count asked f flags (route ∷ routes) below =
    let here : get_or asked route false ≡ f route =
    ap (λ fs. get_or fs route false) flags ∙ get_or-map-range_with_len f 0 count route route false (All-head (λ id. id < count) route routes below) (omega arith) in
    let later = flagged_are count asked f flags routes (All-tail (λ id. id < count) route routes below) in
    elim (cases_Bool (f route)) [
      | inl on ↦ rw (here, on) (ap (λ rest. route ∷ rest) later)
      | inr off ↦ rw (here, off) later
    ]

-- one route more
pub route_more : (c : Configuration) (receiver : Option (List ℕ)) (k : ℕ) (r : Receiver) (done now : List Bool) (flag : Bool) → receiver_of c k ≡ Some r →
    flag ≡ is_asked receiver (r.name ∷ []) → done ≡ map (λ number. is_asked receiver (receiver_name c number ∷ [])) (range_with_len 0 k) → now ≡ done ++ flag ∷ [] →
    now ≡ map (λ number. is_asked receiver (receiver_name c number ∷ [])) (range_with_len 0 (k + 1))
route_more c receiver k r done now flag is asked so_far pushed =
    let own : flag ≡ is_asked receiver (receiver_name c k ∷ []) = rw is asked in
    pushed ∙ ap₂ (λ (flags : List Bool) f. flags ++ f ∷ []) so_far own
    ∙ sym (map-range_with_len_more (λ number. is_asked receiver (receiver_name c number ∷ [])) 0 k k (omega arith))

-- ---- the pairs of groups and what is written of alerts

abbrev Row : Type 0
Row = Stamped Alert × (List ℕ × (List ℕ × Muting))

-- the pairs of an alert with its routes
pairs_by : Configuration → Option (List ℕ) → Row → List (ListedGroup × Data)
pairs_by c receiver row =
    map (λ group. (group, data_by c row.1.1.0 row.1.1.1 row.0))
    (map (λ route. listed_group c (group_by c row.0.value.labels route))
    (filter (λ route. is_asked receiver (receiver_name c route ∷ [])) row.1.0))

-- of the alerts as the code has them
pairs_routed : (c : Configuration) (receiver : Option (List ℕ)) (asked : List Bool) →
    asked ≡ map (λ number. is_asked receiver (receiver_name c number ∷ [])) (range_with_len 0 (length c.routes)) →
    (alerts : List RoutedAlert) → All (λ (r : RoutedAlert). All (λ id. id < length c.routes) r.routes) alerts →
    pairs_of (groups_flagged c asked) (λ r. read_data c (read_alert r)) alerts ≡ flat_map (pairs_by c receiver) (map routed alerts)
unfolding pairs_by
pairs_routed c receiver asked flags [] below = refl
pairs_routed c receiver asked flags (r ∷ alerts) below =
    let P : RoutedAlert → Type 0 = λ r. All (λ id. id < length c.routes) r.routes in
    let own = flagged_are (length c.routes) asked (λ number. is_asked receiver (receiver_name c number ∷ [])) flags r.routes (All-head P r alerts below) in
    ap₂ (λ (first : List (ListedGroup × Data)) rest. first ++ rest)
    (ap (λ routes. map (λ group. (group, read_data c (read_alert r))) (map (λ route. listed_group c (group_by c r.alert.alert.labels.now route)) routes)) own)
    (pairs_routed c receiver asked flags alerts (All-tail P r alerts below))

-- of the alerts that pass
pairs_passed : (c : Configuration) (receiver : Option (List ℕ)) (moment : ℕ) (held : List Item) (alerts : List (Stamped Alert)) →
    flat_map (pairs_by c receiver) (map (with_all c moment held) alerts)
    ≡ pairs_of (λ (a : Stamped Alert). groups_asked c receiver a.value.labels) (shown_data c moment held) alerts
unfolding pairs_by
pairs_passed c receiver moment held [] = refl
pairs_passed c receiver moment held (a ∷ alerts) =
    ap (λ rest. map (λ group. (group, shown_data c moment held a)) (groups_asked c receiver a.value.labels) ++ rest) (pairs_passed c receiver moment held alerts)

-- ---- the groups with what is written of their alerts

-- what is written of a group and its alerts
abbrev group_of : ListedGroup × List Data → Data
group_of entry = group_data entry.1 entry.0.labels entry.0.receiver

read_one : {X Y Z : Type 0} (f : X → Y) (h : Y → Z) (found : Option X) (made : Option Y) (xs : List X) (ys : List Y) → made ≡ option_map f found →
    map h ys ≡ map (λ x. h (f x)) xs → map h (cons_option made ys) ≡ map (λ x. h (f x)) (cons_option found xs)
read_one f h None made xs ys is rest = rw is rest
read_one f h (Some x) made xs ys is rest = rw is (ap (λ zs. h (f x) ∷ zs) rest)

-- alerts at places, as they are written
reads_same : (c : Configuration) (alerts : List RoutedAlert) (places : List ℕ) →
    map (read_data c) (reads_at (map read_alert alerts) places) ≡ map (λ r. read_data c (read_alert r)) (filter_map (slice_get alerts) places)
reads_same c alerts [] = refl
reads_same c alerts (place ∷ places) =
    read_one read_alert (read_data c) (slice_get alerts place) (slice_get (map read_alert alerts) place) (filter_map (slice_get alerts) places)
    (reads_at (map read_alert alerts) places) (slice_get-map read_alert alerts place) (reads_same c alerts places)

module _ (c : Configuration) (q : Query) (moment : ℕ) (held : List Item) where
  abbrev own_groups : Stamped Alert → List ListedGroup
  own_groups a = groups_asked c q.receiver a.value.labels

  abbrev whole : List (Stamped Alert)
  whole = passed c q moment held

  -- the groups of the alerts that pass
  wanted : map (grouped_data c moment held) (grouped (memberships c q.receiver whole)) ≡ map group_of (grouped (pairs_of own_groups (shown_data c moment held) whole))
  wanted =
      let pairs = memberships c q.receiver whole in
      let shown : Stamped Alert → Data = shown_data c moment held in
      let with_data : ListedGroup × Stamped Alert → ListedGroup × Data = λ p. (p.0, shown p.1) in
      sym (map-map group_of (λ (e : ListedGroup × List (Stamped Alert)). (e.0, map shown e.1)) (grouped pairs))
      ∙ ap (map group_of)
      (grouped_by (map shown) pairs (map with_data pairs) (sym (map-map (λ (p : ListedGroup × Data). p.0) with_data pairs)) (λ g. members_made shown g pairs)
      ∙ ap grouped (pairs_made own_groups shown whole))

  -- those of the alerts as the code has them
  had : (asked : List Bool) (alerts : List RoutedAlert) (entries : List (ListedGroup × List ℕ)) → IsStrictlySortedBy listed_cmp (keys_of entries) →
      AreGrouped entries (places_from 0 (map (groups_flagged c asked) alerts)) →
      map (data_at c alerts) entries ≡ map group_of (grouped (pairs_of (groups_flagged c asked) (λ r. read_data c (read_alert r)) alerts))
  had asked alerts entries sorted found =
      let groups : RoutedAlert → List ListedGroup = groups_flagged c asked in
      let shown : RoutedAlert → Data = λ r. read_data c (read_alert r) in
      let there : List ℕ → List Data = λ places. map shown (filter_map (slice_get alerts) places) in
      let pairs = places_from 0 (map groups alerts) in
      at_each alerts entries
      ∙ ap (map group_of)
      (ap (map (λ (e : ListedGroup × List ℕ). (e.0, there e.1))) (grouped_are entries pairs sorted found)
      ∙ grouped_by there pairs (pairs_of groups shown alerts) (same_groups groups shown 0 alerts) (λ g. at_places groups shown [] alerts 0 g refl))
    where
      at_each : (alerts : List RoutedAlert) (entries : List (ListedGroup × List ℕ)) →
          map (data_at c alerts) entries
          ≡ map group_of (map (λ (e : ListedGroup × List ℕ). (e.0, map (λ r. read_data c (read_alert r)) (filter_map (slice_get alerts) e.1))) entries)
      at_each alerts [] = refl
      at_each alerts (e ∷ entries) =
          ap₂ (λ (first : Data) rest. first ∷ rest) (ap (λ ds. group_of (e.0, ds)) (reads_same c alerts e.1)) (at_each alerts entries)

  -- the bytes of what is listed
  pub text_listed : (asked : List Bool) (alerts : List RoutedAlert) (entries : List (ListedGroup × List ℕ)) →
      map routed alerts ≡ map (with_all c moment held) whole → All (λ (r : RoutedAlert). All (λ id. id < length c.routes) r.routes) alerts →
      asked ≡ map (λ number. is_asked q.receiver (receiver_name c number ∷ [])) (range_with_len 0 (length c.routes)) →
      IsStrictlySortedBy listed_cmp (keys_of entries) → AreGrouped entries (places_from 0 (map (groups_flagged c asked) alerts)) →
      written_by c alerts entries ≡ groups_text c q moment held
  unfolding groups_text
  text_listed asked alerts entries passes below flags sorted found =
      ap (λ ds. compact_text (array (items_of ds)))
      (had asked alerts entries sorted found
      ∙ ap (λ pairs. map group_of (grouped pairs))
      (pairs_routed c q.receiver asked flags alerts below ∙ ap (flat_map (pairs_by c q.receiver)) passes ∙ pairs_passed c q.receiver moment held whole)
      ∙ sym wanted)

-- ---- what is written of groups

pub written_groups : (c : Configuration) (alerts : List RoutedAlert) (entries : List (ListedGroup × List ℕ)) (groups : List ReadGroup) →
    map (λ (g : ReadGroup). (g.receiver.now, (g.labels.now, g.alerts))) groups ≡ map read_of entries →
    payload.groups_text c (map read_alert alerts) groups ≡ written_by c alerts entries
written_groups c alerts entries groups same =
    let reads = map read_alert alerts in
    let shown : List ℕ × (List Label × List ℕ) → Data = λ t. group_data (map (read_data c) (reads_at reads t.1.1)) t.1.0 t.0 in
    ap (λ ds. compact_text (array (items_of ds)))
    (sym (map-map shown (λ (g : ReadGroup). (g.receiver.now, (g.labels.now, g.alerts))) groups) ∙ ap (map shown) same ∙ map-map shown read_of entries)
