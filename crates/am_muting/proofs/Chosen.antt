-- The label sets of all alerts, and those of them that are chosen.
use Rattle.std.proofs.Common.{◌≡◌, ℕ, zero, suc, ◌+◌, ◌<◌, Bool, true, false, Bor, List, [], ◌∷◌, ◌++◌, filter, map, length, drop, get_or, inl, inr, refl, sym, ap, ◌∙◌, arith, add-one, append_assoc}
use Rattle.std.specs.List.Sorted.{IsStrictlySortedBy}
use Rattle.std.proofs.lemmas.Bool.{cases_Bool}
use Rattle.std.proofs.lemmas.List.{get_or-map, length-map}
use Rattle.std.proofs.lemmas.Simd.{map-map}
use Rattle.am_config.specs.Configuration.{Configuration}
use Rattle.am_labels.specs.Labels.{labels_cmp}
use Rattle.am_labels.specs.declared.Label.{Label}
use Rattle.am_item.specs.Held.{alert_item, items_by}
use Rattle.am_item.specs.Kinds.{alerts_of}
use Rattle.am_item.specs.declared.item.AlertDetails.{AlertDetails}
use Rattle.am_item.specs.declared.item.Item.{Item}
use Rattle.am_item.specs.declared.item.Thing.{Thing}
use Rattle.am_item.specs.declared.item.Thing.TheVariants as thing
use Rattle.am_item.specs.declared.stamp.Stamp.{Stamp}
use Rattle.am_item.specs.declared.stamp.Stamped.{Stamped}
use Rattle.am_muting.specs.Asked.{chosen}
use Rattle.am_muting.specs.Muting.{Muting, alert_sets, is_muted, muting_of, nothing}

-- ---- all alerts

-- alerts that are held under label sets have those
of_entries : (entries : List (List Label × Stamped AlertDetails)) → map (λ e. e.0) entries ≡ alert_sets (items_by alert_item entries)
of_entries [] = refl
of_entries ((labels, held) ∷ entries) = ap (λ sets. labels ∷ sets) (of_entries entries)

-- a thing that is no alert doesn't count among alerts
of_thing : (stamp : Stamp) (t : Thing) (items : List Item) → alert_sets items ≡ alert_sets (alerts_of items)
    → alert_sets (record { stamp = stamp; thing = t } ∷ items) ≡ alert_sets (alerts_of (record { stamp = stamp; thing = t } ∷ items))
of_thing stamp (thing.Alert alert) items rest = ap (λ sets. alert.labels ∷ sets) rest
of_thing stamp (thing.Configuration text) items rest = rest
of_thing stamp (thing.Silence silence) items rest = rest
of_thing stamp (thing.SentEntry entry) items rest = rest

of_kind : (items : List Item) → alert_sets items ≡ alert_sets (alerts_of items)
of_kind [] = refl
of_kind (item ∷ items) = of_thing item.stamp item.thing items (of_kind items)

-- all of them
pub sets_held : (entries : List (List Label × Stamped AlertDetails)) (held : List Item) → items_by alert_item entries ≡ alerts_of held → map (λ e. e.0) entries ≡ alert_sets held
sets_held entries held are = of_entries entries ∙ ap alert_sets are ∙ sym (of_kind held)

-- ---- the chosen ones

pub none_rise : IsStrictlySortedBy labels_cmp []
unfolding IsStrictlySortedBy
none_rise = tt

-- those that a test takes
pub chosen_by : (p : List Label → Bool) (sets : List (List Label)) → chosen (map p sets) sets ≡ filter p sets
chosen_by p [] = refl
chosen_by p (labels ∷ sets) = elim (cases_Bool (p labels)) [
  | inl is ↦ rw is (ap (λ rest. labels ∷ rest) (chosen_by p sets))
  | inr other ↦ rw other (chosen_by p sets)
]

-- a flag more: its label set is chosen ..
one_chosen : (flags : List Bool) (sets : List (List Label)) (k : ℕ) → k < length flags → k < length sets → get_or flags k false ≡ true →
    chosen (drop k flags) (drop k sets) ≡ get_or sets k [] ∷ chosen (drop (suc k) flags) (drop (suc k) sets)
one_chosen [] sets k within among on = absurd (omega (arith, within))
one_chosen (flag ∷ flags) [] k within among on = absurd (omega (arith, among))
one_chosen (flag ∷ flags) (labels ∷ sets) zero within among on = rw on refl
one_chosen (flag ∷ flags) (labels ∷ sets) (suc k) within among on = one_chosen flags sets k (omega (arith, within)) (omega (arith, among)) on

-- .. or not
none_chosen : (flags : List Bool) (sets : List (List Label)) (k : ℕ) → k < length flags → k < length sets → get_or flags k false ≡ false →
    chosen (drop k flags) (drop k sets) ≡ chosen (drop (suc k) flags) (drop (suc k) sets)
none_chosen [] sets k within among off = absurd (omega (arith, within))
none_chosen (flag ∷ flags) [] k within among off = absurd (omega (arith, among))
none_chosen (flag ∷ flags) (labels ∷ sets) zero within among off = rw off refl
none_chosen (flag ∷ flags) (labels ∷ sets) (suc k) within among off = none_chosen flags sets k (omega (arith, within)) (omega (arith, among)) off

-- ---- alert by alert

module _ (mutes : List Muting) (alerts : List (Bor (List Label))) (k : ℕ) (muted all : List (List Label)) (same : length mutes ≡ length alerts) (within : k < length alerts)
    (so_far : muted ++ chosen (drop k (map is_muted mutes)) (drop k (map (λ (alert : Bor (List Label)). alert.now) alerts)) ≡ all) where
  abbrev flags : List Bool
  flags = map is_muted mutes

  abbrev sets : List (List Label)
  sets = map (λ (alert : Bor (List Label)). alert.now) alerts

  by_flag : k < length flags
  by_flag = let long = length-map mutes is_muted in omega (arith, long, same, within)

  by_set : k < length sets
  by_set = let long = length-map alerts (λ (alert : Bor (List Label)). alert.now) in omega (arith, long, within)

  flag_is : get_or flags k false ≡ is_muted (get_or mutes k nothing)
  flag_is = get_or-map is_muted mutes k nothing false (omega (arith, same, within))

  -- something mutes it
  pub one_muted : is_muted (get_or mutes k nothing) ≡ true → (labels : Bor (List Label)) → labels ≡ get_or alerts k labels →
      (muted ++ labels.now ∷ []) ++ chosen (drop (k + 1) flags) (drop (k + 1) sets) ≡ all
  one_muted on labels here =
      let label : labels.now ≡ get_or sets k [] =
      ap (λ (alert : Bor (List Label)). alert.now) here ∙ sym (get_or-map (λ (alert : Bor (List Label)). alert.now) alerts k labels [] within) in
      rw add-one
      (append_assoc muted (labels.now ∷ []) (chosen (drop (suc k) flags) (drop (suc k) sets))
      ∙ ap (λ (l : List Label). muted ++ l ∷ chosen (drop (suc k) flags) (drop (suc k) sets)) label
      ∙ ap (λ rest. muted ++ rest) (sym (one_chosen flags sets k by_flag by_set (flag_is ∙ on))) ∙ so_far)

  -- or nothing does
  pub none_muted : is_muted (get_or mutes k nothing) ≡ false → muted ++ chosen (drop (k + 1) flags) (drop (k + 1) sets) ≡ all
  none_muted off = rw add-one (ap (λ rest. muted ++ rest) (sym (none_chosen flags sets k by_flag by_set (flag_is ∙ off))) ∙ so_far)

-- all of them
pub chosen_are : (c : Configuration) (moment : ℕ) (held : List Item) (mutes : List Muting) (alerts : List (Bor (List Label))) (muted : List (List Label)) →
    mutes ≡ map (λ (alert : Bor (List Label)). muting_of c moment held alert.now) alerts → muted ≡ chosen (map is_muted mutes) (map (λ (alert : Bor (List Label)). alert.now) alerts) →
    muted ≡ filter (λ labels. is_muted (muting_of c moment held labels)) (map (λ (alert : Bor (List Label)). alert.now) alerts)
chosen_are c moment held mutes alerts muted by are =
    let p : List Label → Bool = λ labels. is_muted (muting_of c moment held labels) in
    let now : Bor (List Label) → List Label = λ alert. alert.now in
    are ∙ ap (λ (m : List Muting). chosen (map is_muted m) (map now alerts)) by
    ∙ ap (λ flags. chosen flags (map now alerts)) (map-map is_muted (λ (alert : Bor (List Label)). muting_of c moment held alert.now) alerts ∙ sym (map-map p now alerts))
    ∙ chosen_by p (map now alerts)
