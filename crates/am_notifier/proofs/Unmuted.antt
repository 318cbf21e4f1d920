-- The members of a group that aren't muted, and what was told before, as they are held.
use Rattle.std.proofs.Common.{◌≡◌, ℕ, ◌||◌, List, [], ◌∷◌, Option, Some, None, Result, MatchResult, length, find}
use Rattle.std.proofs.Common.{refl, sym, ap, ap₂, ◌∙◌, subst, inl, inr, ◌<◌, ◌≤◌}
use Rattle.std.specs.BTreeMap.{is_at}
use Rattle.std.specs.Cmp.{Equal-is, eq_by_cmp_equiv}
use Rattle.std.specs.List.{AllByRecursion, cons_option, list_any}
use Rattle.std.specs.List.Sorted.{IsBinarySearchResult, IsStrictlySortedBy}
use Rattle.std.specs.Map.{keys_of, lookup}
use Rattle.std.specs.Option.{option_map}
use Rattle.std.specs.Ordering.{is_eq}
use Rattle.std.specs.Result.{is_ok}
use Rattle.std.specs.declared.cmp.Ordering.TheVariants.{Less}
use Rattle.std.proofs.lemmas.Bool.{cases_Bool}
use Rattle.am_alert.specs.Held.{AreRising, alerts_among}
use Rattle.am_alert.specs.HeldAlert.{all_held, held_under}
use Rattle.am_group.proofs.Telling.{told_by_search}
use Rattle.am_item.proofs.Order.{labels_exact}
use Rattle.am_item.specs.Held.{alert_item, entry_item, items_by}
use Rattle.am_item.specs.Kinds.{alerts_of, entries_of}
use Rattle.am_item.specs.declared.entry.EntryDetails.{EntryDetails}
use Rattle.am_item.specs.declared.entry.EntryKey.{EntryKey}
use Rattle.am_item.specs.declared.item.Alert.{Alert}
use Rattle.am_item.specs.declared.item.AlertDetails.{AlertDetails}
use Rattle.am_item.specs.declared.item.Item.{Item}
use Rattle.am_item.specs.declared.item.Thing.{Thing}
use Rattle.am_item.specs.declared.item.Thing.TheVariants as thing
use Rattle.am_item.specs.declared.stamp.Stamp.{Stamp}
use Rattle.am_item.specs.declared.stamp.Stamped.{Stamped}
use Rattle.am_labels.specs.Labels.{labels_cmp, labels_total}
use Rattle.am_labels.specs.declared.Label.{Label}
use Rattle.am_members.specs.Names.{is_set}
use Rattle.am_notifier.specs.Flushing.{alert_at, alerts_but, sent_among, unmuted_among, unmuted_at}

-- ---- a label set among others

either_way : (labels : List Label) (sets : List (List Label)) → list_any (λ other. is_eq (labels_cmp other labels)) sets ≡ list_any (is_set labels) sets
either_way labels [] = refl
either_way labels (first ∷ sets) = ap₂ (λ a b. a || b) ((eq_by_cmp_equiv labels_total).symm first labels) (either_way labels sets)

-- what a search answers
pub among_by_search : (sets : List (List Label)) (labels : List Label) (r : Result ℕ ℕ) → IsStrictlySortedBy labels_cmp sets → IsBinarySearchResult (λ other. labels_cmp other labels) sets r
    → MatchResult r (λ i. i < length sets) (λ i. i ≤ length sets) → is_ok r ≡ list_any (is_set labels) sets
among_by_search sets labels r rising found within = told_by_search sets labels r rising found within ∙ either_way labels sets

-- ---- alerts that are held

held_among : (entries : List (List Label × Stamped AlertDetails)) → alerts_among (items_by alert_item entries) ≡ all_held entries
held_among [] = refl
held_among ((labels, held) ∷ entries) = ap (λ alerts. held_under labels held ∷ alerts) (held_among entries)

-- a thing that is no alert doesn't count among alerts
thing_among : (stamp : Stamp) (t : Thing) (items : List Item) → alerts_among items ≡ alerts_among (alerts_of items)
    → alerts_among (record { stamp = stamp; thing = t } ∷ items) ≡ alerts_among (alerts_of (record { stamp = stamp; thing = t } ∷ items))
thing_among stamp (thing.Alert alert) items rest = ap (λ alerts. record { stamp = stamp; value = alert } ∷ alerts) rest
thing_among stamp (thing.Configuration text) items rest = rest
thing_among stamp (thing.Silence silence) items rest = rest
thing_among stamp (thing.SentEntry entry) items rest = rest

kind_among : (items : List Item) → alerts_among items ≡ alerts_among (alerts_of items)
kind_among [] = refl
kind_among (item ∷ items) = thing_among item.stamp item.thing items (kind_among items)

-- the first with a label set is what is held under it
found_under : (labels : List Label) (entries : List (List Label × Stamped AlertDetails)) → find (λ (alert : Stamped Alert). is_set labels alert.value.labels) (all_held entries)
    ≡ option_map (held_under labels) (lookup (is_at (labels_cmp labels)) entries)
found_under labels [] = refl
found_under labels ((own, details) ∷ entries) = elim (cases_Bool (is_eq (labels_cmp labels own))) [
  | inl is ↦ rw is (ap (λ k. Some (held_under k details)) (sym (labels_exact labels own ((Equal-is (labels_cmp labels own)).0 is))))
  | inr other ↦ rw other (found_under labels entries)
]

held_at : (entries : List (List Label × Stamped AlertDetails)) (held : List Item) → items_by alert_item entries ≡ alerts_of held → (labels : List Label)
    → option_map (held_under labels) (lookup (is_at (labels_cmp labels)) entries) ≡ alert_at labels held
held_at entries held are labels =
    sym (ap (find (λ (alert : Stamped Alert). is_set labels alert.value.labels)) (kind_among held ∙ ap alerts_among (sym are) ∙ held_among entries) ∙ found_under labels entries)

-- ---- members

-- those that are held and not muted
pub unmuted_are : (muted : List (List Label)) (entries : List (List Label × Stamped AlertDetails)) (held : List Item) → items_by alert_item entries ≡ alerts_of held → (all : List (List Label × ℕ))
    → unmuted_among muted entries all ≡ alerts_but muted held all
unmuted_are muted entries held are [] = refl
unmuted_are muted entries held are (member ∷ all) = elim (cases_Bool (list_any (is_set member.0) muted)) [
  | inl is ↦ rw is (unmuted_are muted entries held are all)
  | inr free ↦ rw free (ap₂ (λ (o : Option (Stamped Alert)) more. cons_option o more) (held_at entries held are (member.0)) (unmuted_are muted entries held are all))
]

-- an alert, where there is one, has this label set
OfSet : List Label → Option (Stamped Alert) → Type 0
OfSet labels None = Unit {0}
OfSet labels (Some alert) = alert.value.labels ≡ labels

of_held : (labels : List Label) (o : Option (Stamped AlertDetails)) → OfSet labels (option_map (held_under labels) o)
unfolding OfSet
of_held labels None = tt
of_held labels (Some details) = refl

of_unmuted : (muted : List (List Label)) (entries : List (List Label × Stamped AlertDetails)) (labels : List Label) → OfSet labels (unmuted_at muted entries labels)
unfolding OfSet
of_unmuted muted entries labels = elim (cases_Bool (list_any (is_set labels) muted)) [
  | inl is ↦ rw is tt
  | inr free ↦ rw free (of_held labels (lookup (is_at (labels_cmp labels)) entries))
]

above_one : (below labels : List Label) (o : Option (Stamped Alert)) (rest : List (Stamped Alert)) → OfSet labels o → labels_cmp below labels ≡ Less
    → AllByRecursion (λ (b : Stamped Alert). labels_cmp below b.value.labels ≡ Less) rest → AllByRecursion (λ (b : Stamped Alert). labels_cmp below b.value.labels ≡ Less) (cons_option o rest)
unfolding OfSet
above_one below labels None rest of up all = all
above_one below labels (Some alert) rest of up all = (ap (labels_cmp below) of ∙ up, all)

above_all : (muted : List (List Label)) (entries : List (List Label × Stamped AlertDetails)) (below : List Label) (all : List (List Label × ℕ)) → AllByRecursion (λ other. labels_cmp below other ≡ Less) (keys_of all)
    → AllByRecursion (λ (b : Stamped Alert). labels_cmp below b.value.labels ≡ Less) (unmuted_among muted entries all)
above_all muted entries below [] up = up
above_all muted entries below (member ∷ all) up =
    above_one below (member.0) (unmuted_at muted entries (member.0)) (unmuted_among muted entries all) (of_unmuted muted entries (member.0)) (up.0) (above_all muted entries below all (up.1))

rising_one : (labels : List Label) (o : Option (Stamped Alert)) (rest : List (Stamped Alert)) → OfSet labels o
    → AllByRecursion (λ (b : Stamped Alert). labels_cmp labels b.value.labels ≡ Less) rest → AreRising rest → AreRising (cons_option o rest)
unfolding IsStrictlySortedBy OfSet
rising_one labels None rest of above up = up
rising_one labels (Some alert) rest of above up =
    (subst (λ l. AllByRecursion (λ (b : Stamped Alert). labels_cmp l b.value.labels ≡ Less) rest) (sym of) above, up)

-- they rise as the members do
pub unmuted_rise : (muted : List (List Label)) (entries : List (List Label × Stamped AlertDetails)) (all : List (List Label × ℕ)) → IsStrictlySortedBy labels_cmp (keys_of all)
    → AreRising (unmuted_among muted entries all)
unfolding IsStrictlySortedBy
unmuted_rise muted entries [] up = tt
unmuted_rise muted entries (member ∷ all) up =
    rising_one (member.0) (unmuted_at muted entries (member.0)) (unmuted_among muted entries all) (of_unmuted muted entries (member.0)) (above_all muted entries (member.0) all (up.0))
    (unmuted_rise muted entries all (up.1))

-- ---- what was told before

sent_held : (entries : List (EntryKey × Stamped EntryDetails)) → sent_among (items_by entry_item entries) ≡ entries
sent_held [] = refl
sent_held ((key, held) ∷ entries) = ap (λ more. (key, held) ∷ more) (sent_held entries)

thing_sent : (stamp : Stamp) (t : Thing) (items : List Item) → sent_among items ≡ sent_among (entries_of items)
    → sent_among (record { stamp = stamp; thing = t } ∷ items) ≡ sent_among (entries_of (record { stamp = stamp; thing = t } ∷ items))
thing_sent stamp (thing.SentEntry entry) items rest =
    ap (λ (more : List (EntryKey × Stamped EntryDetails)). (
      record { receiver = entry.receiver; group = entry.group; webhook = entry.webhook },
      record { stamp = stamp; value = record { ends_at = entry.ends_at; firing = entry.firing; resolved = entry.resolved } },
    ) ∷ more) rest
thing_sent stamp (thing.Configuration text) items rest = rest
thing_sent stamp (thing.Silence silence) items rest = rest
thing_sent stamp (thing.Alert alert) items rest = rest

kind_sent : (items : List Item) → sent_among items ≡ sent_among (entries_of items)
kind_sent [] = refl
kind_sent (item ∷ items) = thing_sent item.stamp item.thing items (kind_sent items)

-- it is what is held
pub sent_are : (entries : List (EntryKey × Stamped EntryDetails)) (held : List Item) → items_by entry_item entries ≡ entries_of held → entries ≡ sent_among held
sent_are entries held are = sym (kind_sent held ∙ ap sent_among (sym are) ∙ sent_held entries)
