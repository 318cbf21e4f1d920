-- What is held without a key, kind by kind.
use Rattle.std.proofs.Common.{◌≡◌, ℕ, Bool, false, not, List, [], ◌∷◌, ◌++◌, Option, Some, None, Ordering, refl, sym, ap, ◌∙◌, subst}
use Rattle.std.specs.BTreeMap.{is_at}
use Rattle.std.specs.Cmp.{Equal-is, IsTotalOrder}
use Rattle.std.specs.Cmp.Lexicographic.{nat_list_cmp_total}
use Rattle.std.specs.List.{AllByRecursion, filter}
use Rattle.std.specs.List.Sorted.{IsStrictlySortedBy}
use Rattle.std.specs.Map.{keys_of, remove_entry}
use Rattle.std.specs.Ordering.{is_eq}
use Rattle.std.specs.declared.cmp.Ordering.TheVariants.{Less}
use Rattle.std.proofs.lemmas.Bool.{cond-false, cond-true, not_from_false, not_from_true}
use Rattle.std.proofs.lemmas.Map.Lookups.{CmpEqualImpliesEq, exact_bytes}
use Rattle.am_labels.specs.declared.Label.{Label}
use Rattle.am_labels.specs.Labels.{labels_cmp, labels_total}
use Rattle.am_item.specs.EntryKey.{entry_cmp, entry_total}
use Rattle.am_item.specs.Held.{AreOrdered, alert_item, configuration_item, configuration_items, entry_item, items_by, items_in, silence_item}
use Rattle.am_item.specs.Key.{Key, ConfigurationKey, SilenceKey, AlertKey, SentEntryKey, has_key, key_cmp, key_of}
use Rattle.am_item.specs.declared.entry.EntryKey.{EntryKey}
use Rattle.am_item.specs.declared.held.Held.TheInside.{Inside}
use Rattle.am_item.specs.declared.item.Item.{Item}
use Rattle.am_item.specs.declared.stamp.Stamped.{Stamped}
use Rattle.am_item.proofs.ByName.{above_by, has_name, names_above, passed_by}
use Rattle.am_item.proofs.Greatest.{by_cases}
use Rattle.am_item.proofs.Order.{entries_exact, labels_exact}
use Rattle.am_item.proofs.Rising.{AllAbove}
use Rattle.am_item.proofs.Whole.{alerts_like, entries_like, ids_cmp, passed, silences_like}

-- the item has another key
abbrev pub lacks_key : Key → Item → Bool
lacks_key key x = not (has_key key x)

-- items of greater keys have another
pub kept_above : (key : Key) (xs : List Item) → AllAbove key xs → filter (lacks_key key) xs ≡ xs
kept_above key [] all = refl
kept_above key (x ∷ xs) all =
    cond-true _ (x ∷ filter (lacks_key key) xs) (filter (lacks_key key) xs) (not_from_false (has_key key x) (ap is_eq all.0))
    ∙ ap (λ zs. x ∷ zs) (kept_above key xs all.1)

module _ {K V : Type 0} (cmp : K → K → Ordering) (total : IsTotalOrder cmp) (exact : CmpEqualImpliesEq cmp) (name : K → Key) (item : K → Stamped V → Item)
    (named : (k : K) (v : Stamped V) → key_of (item k v) ≡ name k) (stamped : (k : K) (v : Stamped V) → (item k v).stamp ≡ v.stamp) (like : (a b : K) → key_cmp (name a) (name b) ≡ cmp a b) where
  -- what is left of a kind without a name
  removed_by : (k : K) (es : List (K × Stamped V)) → IsStrictlySortedBy cmp (keys_of es) → filter (lacks_key (name k)) (items_by item es) ≡ items_by item (remove_entry (is_at (cmp k)) es)
  unfolding IsStrictlySortedBy
  removed_by k [] s = refl
  removed_by k (e ∷ es) s =
      let x = item e.0 e.1 in
      let rest = items_by item es in
      let test : has_key (name k) x ≡ is_eq (cmp k e.0) = has_name cmp total exact name item named stamped like k e.0 e.1 in
      by_cases (is_eq (cmp k e.0))
      (λ h.
      let same : k ≡ e.0 = exact k e.0 ((Equal-is (cmp k e.0)).0 h) in
      let above : AllAbove (name k) rest = above_by cmp total exact name item named stamped like (name k) es (names_above cmp total exact name item named stamped like k es (subst (λ q. AllByRecursion (λ p. cmp q p ≡ Less) (keys_of es)) (sym same) s.0)) in
      cond-false _ (x ∷ filter (lacks_key (name k)) rest) (filter (lacks_key (name k)) rest) (not_from_true (has_key (name k) x) (test ∙ h))
      ∙ kept_above (name k) rest above
      ∙ sym (ap (items_by item) (cond-true _ es (e ∷ remove_entry (is_at (cmp k)) es) h)))
      (λ h.
      cond-true _ (x ∷ filter (lacks_key (name k)) rest) (filter (lacks_key (name k)) rest) (not_from_false (has_key (name k) x) (test ∙ h))
      ∙ ap (λ zs. x ∷ zs) (removed_by k es s.1)
      ∙ sym (ap (items_by item) (cond-false _ es (e ∷ remove_entry (is_at (cmp k)) es) h)))

-- a configuration has another key than this
other_configuration : (key : Key) → is_eq (key_cmp key ConfigurationKey) ≡ false → (o : Option (Stamped (Option (List ℕ)))) → filter (lacks_key key) (configuration_items o) ≡ configuration_items o
other_configuration key h None = refl
other_configuration key h (Some v) = cond-true _ (configuration_item v ∷ []) [] (not_from_false (is_eq (key_cmp key ConfigurationKey)) h)

-- a configuration is at its key
configuration_gone : (o : Option (Stamped (Option (List ℕ)))) → filter (lacks_key ConfigurationKey) (configuration_items o) ≡ []
unfolding key_cmp
configuration_gone None = refl
configuration_gone (Some v) = refl

-- ---- what is held without a key

pub removed_configuration : (h n : Inside) → n.configuration ≡ None → n.silences ≡ h.silences → n.alerts ≡ h.alerts → n.sent ≡ h.sent → items_in n ≡ filter (lacks_key ConfigurationKey) (items_in h)
unfolding items_in key_cmp
removed_configuration h n configuration silences alerts sent =
    ap (λ o. configuration_items o ++ (items_by silence_item n.silences ++ (items_by alert_item n.alerts ++ items_by entry_item n.sent))) configuration
    ∙ ap (λ m. items_by silence_item m ++ (items_by alert_item n.alerts ++ items_by entry_item n.sent)) silences
    ∙ ap (λ m. items_by silence_item h.silences ++ (items_by alert_item m ++ items_by entry_item n.sent)) alerts
    ∙ ap (λ m. items_by silence_item h.silences ++ (items_by alert_item h.alerts ++ items_by entry_item m)) sent
    ∙ sym (passed (lacks_key ConfigurationKey) (configuration_items h.configuration) (items_by silence_item h.silences) (items_by alert_item h.alerts) (items_by entry_item h.sent)
    [] (items_by silence_item h.silences) (items_by alert_item h.alerts) (items_by entry_item h.sent)
    (configuration_gone h.configuration) (passed_by silence_item (lacks_key ConfigurationKey) (λ k v. refl) h.silences)
    (passed_by alert_item (lacks_key ConfigurationKey) (λ k v. refl) h.alerts) (passed_by entry_item (lacks_key ConfigurationKey) (λ k v. refl) h.sent))

pub removed_silence : (h n : Inside) (id : List ℕ) → AreOrdered h → n.configuration ≡ h.configuration → n.silences ≡ remove_entry (is_at (ids_cmp id)) h.silences → n.alerts ≡ h.alerts → n.sent ≡ h.sent
    → items_in n ≡ filter (lacks_key (SilenceKey id)) (items_in h)
unfolding items_in key_cmp
removed_silence h n id are configuration silences alerts sent =
    let left = items_by silence_item (remove_entry (is_at (ids_cmp id)) h.silences) in
    ap (λ o. configuration_items o ++ (items_by silence_item n.silences ++ (items_by alert_item n.alerts ++ items_by entry_item n.sent))) configuration
    ∙ ap (λ es. configuration_items h.configuration ++ (items_by silence_item es ++ (items_by alert_item n.alerts ++ items_by entry_item n.sent))) silences
    ∙ ap (λ m. configuration_items h.configuration ++ (left ++ (items_by alert_item m ++ items_by entry_item n.sent))) alerts
    ∙ ap (λ m. configuration_items h.configuration ++ (left ++ (items_by alert_item h.alerts ++ items_by entry_item m))) sent
    ∙ sym (passed (lacks_key (SilenceKey id)) (configuration_items h.configuration) (items_by silence_item h.silences) (items_by alert_item h.alerts) (items_by entry_item h.sent)
    (configuration_items h.configuration) left (items_by alert_item h.alerts) (items_by entry_item h.sent)
    (other_configuration (SilenceKey id) refl h.configuration)
    (removed_by ids_cmp nat_list_cmp_total exact_bytes SilenceKey silence_item (λ k v. refl) (λ k v. refl) silences_like id h.silences are.silences)
    (passed_by alert_item (lacks_key (SilenceKey id)) (λ k v. refl) h.alerts) (passed_by entry_item (lacks_key (SilenceKey id)) (λ k v. refl) h.sent))

pub removed_alert : (h n : Inside) (labels : List Label) → AreOrdered h → n.configuration ≡ h.configuration → n.silences ≡ h.silences → n.alerts ≡ remove_entry (is_at (labels_cmp labels)) h.alerts → n.sent ≡ h.sent
    → items_in n ≡ filter (lacks_key (AlertKey labels)) (items_in h)
unfolding items_in key_cmp
removed_alert h n labels are configuration silences alerts sent =
    let left = items_by alert_item (remove_entry (is_at (labels_cmp labels)) h.alerts) in
    ap (λ o. configuration_items o ++ (items_by silence_item n.silences ++ (items_by alert_item n.alerts ++ items_by entry_item n.sent))) configuration
    ∙ ap (λ m. configuration_items h.configuration ++ (items_by silence_item m ++ (items_by alert_item n.alerts ++ items_by entry_item n.sent))) silences
    ∙ ap (λ es. configuration_items h.configuration ++ (items_by silence_item h.silences ++ (items_by alert_item es ++ items_by entry_item n.sent))) alerts
    ∙ ap (λ m. configuration_items h.configuration ++ (items_by silence_item h.silences ++ (left ++ items_by entry_item m))) sent
    ∙ sym (passed (lacks_key (AlertKey labels)) (configuration_items h.configuration) (items_by silence_item h.silences) (items_by alert_item h.alerts) (items_by entry_item h.sent)
    (configuration_items h.configuration) (items_by silence_item h.silences) left (items_by entry_item h.sent)
    (other_configuration (AlertKey labels) refl h.configuration) (passed_by silence_item (lacks_key (AlertKey labels)) (λ k v. refl) h.silences)
    (removed_by labels_cmp labels_total labels_exact AlertKey alert_item (λ k v. refl) (λ k v. refl) alerts_like labels h.alerts are.alerts)
    (passed_by entry_item (lacks_key (AlertKey labels)) (λ k v. refl) h.sent))

pub removed_entry : (h n : Inside) (key : EntryKey) → AreOrdered h → n.configuration ≡ h.configuration → n.silences ≡ h.silences → n.alerts ≡ h.alerts → n.sent ≡ remove_entry (is_at (entry_cmp key)) h.sent
    → items_in n ≡ filter (lacks_key (SentEntryKey key)) (items_in h)
unfolding items_in key_cmp
removed_entry h n key are configuration silences alerts sent =
    ap (λ o. configuration_items o ++ (items_by silence_item n.silences ++ (items_by alert_item n.alerts ++ items_by entry_item n.sent))) configuration
    ∙ ap (λ m. configuration_items h.configuration ++ (items_by silence_item m ++ (items_by alert_item n.alerts ++ items_by entry_item n.sent))) silences
    ∙ ap (λ m. configuration_items h.configuration ++ (items_by silence_item h.silences ++ (items_by alert_item m ++ items_by entry_item n.sent))) alerts
    ∙ ap (λ es. configuration_items h.configuration ++ (items_by silence_item h.silences ++ (items_by alert_item h.alerts ++ items_by entry_item es))) sent
    ∙ sym (passed (lacks_key (SentEntryKey key)) (configuration_items h.configuration) (items_by silence_item h.silences) (items_by alert_item h.alerts) (items_by entry_item h.sent)
    (configuration_items h.configuration) (items_by silence_item h.silences) (items_by alert_item h.alerts) (items_by entry_item (remove_entry (is_at (entry_cmp key)) h.sent))
    (other_configuration (SentEntryKey key) refl h.configuration) (passed_by silence_item (lacks_key (SentEntryKey key)) (λ k v. refl) h.silences)
    (passed_by alert_item (lacks_key (SentEntryKey key)) (λ k v. refl) h.alerts)
    (removed_by entry_cmp entry_total entries_exact SentEntryKey entry_item (λ k v. refl) (λ k v. refl) entries_like key h.sent are.sent))
