-- The silences among items, as they are held under their identifiers.
use Rattle.std.proofs.Common.{◌≡◌, ◌+◌, ◌<◌, Bool, Bor, ℕ, List, [], ◌∷◌, ◌++◌, cond, false, get_or, length, map, filter, take, true, Option, Some, None, refl, ap, sym, ◌∙◌}
use Rattle.std.proofs.lemmas.Bool.{cond-false, cond-true}
use Rattle.std.proofs.lemmas.List.{append-nil, map_push, take_more}
use Rattle.std.proofs.lemmas.List.Elements.{filter-append}
use Rattle.std.specs.Option.{option_and_then, option_map}
use Rattle.am_item.specs.Held.{items_by, silence_item}
use Rattle.am_item.specs.Kinds.{silences_of}
use Rattle.am_item.specs.declared.item.Item.{Item}
use Rattle.am_item.specs.declared.item.Thing.{Thing}
use Rattle.am_item.specs.declared.item.Thing.TheVariants as thing
use Rattle.am_item.specs.declared.silence.SilenceDetails.{SilenceDetails}
use Rattle.am_item.specs.declared.stamp.Stamp.{Stamp}
use Rattle.am_item.specs.declared.stamp.Stamped.{Stamped}
use Rattle.am_silence.specs.Silences.{details_in, is_active}
use Rattle.am_labels.specs.declared.Label.{Label}
use Rattle.am_silence.specs.Held.{SilenceValue, active_among, all_held, silencing, taking, held_under, silence_in, silences_among}

-- what is held under identifiers are the silences among the items
pub among_held : (entries : List (List ℕ × Stamped SilenceDetails)) → silences_among (items_by silence_item entries) ≡ all_held entries
among_held [] = refl
among_held ((id, held) ∷ entries) = ap (λ silences. held_under id held ∷ silences) (among_held entries)

-- a thing of another kind is no silence
behind : (stamp : Stamp) (t : Thing) (items : List Item) → silences_among items ≡ silences_among (silences_of items)
    → silences_among (record { stamp = stamp; thing = t } ∷ items) ≡ silences_among (silences_of (record { stamp = stamp; thing = t } ∷ items))
behind stamp (thing.Silence silence) items rest = ap (λ silences. record { id = silence.id; stamp = stamp; details = details_in silence } ∷ silences) rest
behind stamp (thing.Configuration text) items rest = rest
behind stamp (thing.Alert alert) items rest = rest
behind stamp (thing.SentEntry entry) items rest = rest

-- the silences among items are those among the items of that kind
pub among_silences : (items : List Item) → silences_among items ≡ silences_among (silences_of items)
among_silences [] = refl
among_silences (item ∷ items) = behind item.stamp item.thing items (among_silences items)

-- the silence that is held under an identifier
pub found_held : (id : List ℕ) (found : Option (Stamped SilenceDetails)) →
    option_and_then silence_in (option_map (silence_item id) found) ≡ option_map (held_under id) found
found_held id None = refl
found_held id (Some held) = refl

-- those that are active among what is held under identifiers
pub active_held : (moment : ℕ) (entries : List (List ℕ × Stamped SilenceDetails)) (held : List Item) → items_by silence_item entries ≡ silences_of held →
    filter (λ s. is_active moment s.details.starts_at s.details.ends_at) (all_held entries) ≡ active_among moment held
active_held moment entries held are =
    ap (filter (λ (s : SilenceValue). is_active moment s.details.starts_at s.details.ends_at))
    (sym (among_held entries) ∙ ap silences_among are ∙ sym (among_silences held))

-- of each label set those that silence it
pub each_silencing : (moment : ℕ) (held : List Item) (sets : List (Bor (List Label))) →
    map (λ labels. taking (active_among moment held) labels) (map (λ set'. set'.now) sets) ≡ map (λ set'. silencing moment held set'.now) sets
unfolding silencing
each_silencing moment held [] = refl
each_silencing moment held (s ∷ sets) = ap (λ rest. silencing moment held s.now ∷ rest) (each_silencing moment held sets)

-- what passes a test of the first that are held, and of one more
module _ (p : SilenceValue → Bool) (entries : List (List ℕ × Stamped SilenceDetails)) (i : ℕ) (entry : List ℕ × Stamped SilenceDetails)
    (within : i < length entries) (is : entry ≡ get_or entries i entry) where
  one_more : filter p (all_held (take (i + 1) entries)) ≡ filter p (all_held (take i entries)) ++ cond (p (held_under entry.0 entry.1)) (held_under entry.0 entry.1 ∷ []) []
  one_more =
      ap (λ es. filter p (all_held es)) (take_more entries i entry within ∙ ap (λ e. take i entries ++ e ∷ []) (sym is))
      ∙ ap (filter p) (map_push (λ e. held_under e.0 e.1) (take i entries) entry)
      ∙ filter-append p (all_held (take i entries)) (held_under entry.0 entry.1 ∷ [])

  pub one_passed : p (held_under entry.0 entry.1) ≡ true
      → filter p (all_held (take (i + 1) entries)) ≡ filter p (all_held (take i entries)) ++ held_under entry.0 entry.1 ∷ []
  one_passed h = one_more ∙ ap (λ more. filter p (all_held (take i entries)) ++ more) (cond-true _ (held_under entry.0 entry.1 ∷ []) [] h)

  pub one_failed : p (held_under entry.0 entry.1) ≡ false → filter p (all_held (take (i + 1) entries)) ≡ filter p (all_held (take i entries))
  one_failed h =
      one_more ∙ ap (λ more. filter p (all_held (take i entries)) ++ more) (cond-false _ (held_under entry.0 entry.1 ∷ []) [] h)
      ∙ append-nil (filter p (all_held (take i entries)))
