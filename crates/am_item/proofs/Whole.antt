-- All that is held of a tenant: it rises, a look-up goes to the kind of its key, and what an item makes of it.
use Rattle.std.proofs.Common.{◌≡◌, ℕ, Bool, false, cond, List, [], ◌∷◌, ◌++◌, Option, Some, None, Ordering, refl, sym, ap, ◌∙◌}
use Rattle.std.specs.BTreeMap.{is_at}
use Rattle.am_item.specs.Sorted.{get}
use Rattle.std.specs.Cmp.Lexicographic.{slice_cmp, nat_list_cmp_total}
use Rattle.std.specs.List.{AllByRecursion, filter}
use Rattle.std.specs.List.Sorted.{IsStrictlySortedBy}
use Rattle.std.specs.Option.{option_map}
use Rattle.std.specs.Ordering.{is_eq, nat_cmp}
use Rattle.std.specs.declared.cmp.Ordering.TheVariants.{Less}
use Rattle.std.proofs.lemmas.Bool.{cond-false, cond-true}
use Rattle.std.proofs.lemmas.List.{append-nil}
use Rattle.std.proofs.lemmas.List.Elements.{filter-append}
use Rattle.std.proofs.lemmas.Map.Lookups.{exact_bytes}
use Rattle.am_item.specs.Kinds.{alerts_of, entries_of, is_alert, is_sent_entry, is_silence, silences_of}
use Rattle.am_labels.specs.declared.Label.{Label}
use Rattle.am_labels.specs.Labels.{labels_cmp, labels_total}
use Rattle.am_item.specs.Best.{IsRising, item_at, joined}
use Rattle.am_item.specs.EntryKey.{entry_cmp, entry_total}
use Rattle.am_item.specs.Held.{AreOrdered, alert_item, configuration_item, configuration_items, entry_item, items_by, items_in, silence_item}
use Rattle.am_item.specs.Key.{exceeds, has_key, key_cmp, key_of, kind_of}
use Rattle.am_item.specs.declared.key.ThingKey.{ThingKey as Key}
use Rattle.am_item.specs.declared.key.ThingKey.TheVariants.{Configuration as ConfigurationKey, Silence as SilenceKey, Alert as AlertKey, SentEntry as SentEntryKey}
use Rattle.am_item.specs.Newest.{newest}
use Rattle.am_item.specs.declared.entry.EntryDetails.{EntryDetails}
use Rattle.am_item.specs.declared.entry.EntryKey.{EntryKey}
use Rattle.am_item.specs.declared.held.Held.TheInside.{Inside}
use Rattle.am_item.specs.declared.item.AlertDetails.{AlertDetails}
use Rattle.am_item.specs.declared.item.Item.{Item}
use Rattle.am_item.specs.declared.silence.SilenceDetails.{SilenceDetails}
use Rattle.am_item.specs.declared.stamp.Stamped.{Stamped}
use Rattle.am_item.proofs.ByName.{OfKind, at_by, at_other, came_by, failed_by, kind_by, passed_by, rising_by}
use Rattle.am_item.proofs.Greatest.{by_cases, later}
use Rattle.am_item.proofs.Joined.{is_joined, with_item}
use Rattle.am_item.proofs.Order.{entries_exact, labels_exact, lower_kind}
use Rattle.am_item.proofs.Rising.{AllAbove}

-- ---- lists in a row

-- the first of two look-ups that finds something
abbrev first : Option Item → Option Item → Option Item
first None o = o
first (Some x) o = Some x

first-none : (o : Option Item) → first o None ≡ o
first-none None = refl
first-none (Some x) = refl

-- a look-up in two lists
at_append : (key : Key) (xs ys : List Item) → item_at key (xs ++ ys) ≡ first (item_at key xs) (item_at key ys)
at_append key [] ys = refl
at_append key (x ∷ xs) ys =
    by_cases (has_key key x)
    (λ h. cond-true _ (Some x) (item_at key (xs ++ ys)) h ∙ sym (ap (λ o. first o (item_at key ys)) (cond-true _ (Some x) (item_at key xs) h)))
    (λ h. cond-false _ (Some x) (item_at key (xs ++ ys)) h ∙ at_append key xs ys ∙ sym (ap (λ o. first o (item_at key ys)) (cond-false _ (Some x) (item_at key xs) h)))

-- each item of the list is of a kind above this one
abbrev AboveKind : ℕ → List Item → Type 0
AboveKind kind xs = AllByRecursion (λ x. nat_cmp kind (kind_of (key_of x)) ≡ Less) xs

-- items of a kind are above a lower one
above_kind : (low kind : ℕ) (xs : List Item) → nat_cmp low kind ≡ Less → OfKind kind xs → AboveKind low xs
above_kind low kind [] h all = tt
above_kind low kind (x ∷ xs) h all = (ap (nat_cmp low) all.0 ∙ h, above_kind low kind xs h all.1)

-- what holds of each item of two lists holds of each of both
all_append : (P : Item → Type 0) (xs ys : List Item) → AllByRecursion P xs → AllByRecursion P ys → AllByRecursion P (xs ++ ys)
all_append P [] ys all more = more
all_append P (x ∷ xs) ys all more = (all.0, all_append P xs ys all.1 more)

-- a key of a kind is below items above that kind
below_kind : (kind : ℕ) (key : Key) (ys : List Item) → kind_of key ≡ kind → AboveKind kind ys → AllAbove key ys
below_kind kind key [] h all = tt
below_kind kind key (y ∷ ys) h all = (lower_kind key (key_of y) (ap (λ n. nat_cmp n (kind_of (key_of y))) h ∙ all.0), below_kind kind key ys h all.1)

-- a kind in front of later ones rises
rising_row : (kind : ℕ) (xs ys : List Item) → OfKind kind xs → IsRising xs → AboveKind kind ys → IsRising ys → IsRising (xs ++ ys)
unfolding IsStrictlySortedBy
rising_row kind [] ys of up above up' = up'
rising_row kind (x ∷ xs) ys of up above up' =
    (all_append (λ y. key_cmp (key_of x) (key_of y) ≡ Less) xs ys up.0 (below_kind kind (key_of x) ys of.0 above), rising_row kind xs ys of.1 up.1 above up')

-- ---- the kinds

-- the order of identifiers
abbrev pub ids_cmp : List ℕ → List ℕ → Ordering
ids_cmp = slice_cmp nat_cmp

-- a configuration is one item or none
configured_kind : (o : Option (Stamped (Option (List ℕ)))) → OfKind 1 (configuration_items o)
configured_kind None = tt
configured_kind (Some held) = (refl, tt)

configured_rises : (o : Option (Stamped (Option (List ℕ)))) → IsRising (configuration_items o)
unfolding IsStrictlySortedBy
configured_rises None = tt
configured_rises (Some held) = (tt, tt)

-- the order of names is that of their keys
pub silences_like : (a b : List ℕ) → key_cmp (SilenceKey a) (SilenceKey b) ≡ ids_cmp a b
unfolding key_cmp
silences_like a b = refl

pub alerts_like : (a b : List Label) → key_cmp (AlertKey a) (AlertKey b) ≡ labels_cmp a b
unfolding key_cmp
alerts_like a b = refl

pub entries_like : (a b : EntryKey) → key_cmp (SentEntryKey a) (SentEntryKey b) ≡ entry_cmp a b
unfolding key_cmp
entries_like a b = refl

-- all that is held rises
pub rising_whole : (h : Inside) → AreOrdered h → IsRising (items_in h)
unfolding items_in
rising_whole h are =
    let entries = items_by entry_item h.sent in
    let alerts = items_by alert_item h.alerts in
    let silences = items_by silence_item h.silences in
    let of_entries : OfKind 4 entries = kind_by entry_cmp entry_total entries_exact SentEntryKey entry_item (λ k v. refl) (λ k v. refl) entries_like 4 (λ k. refl) h.sent in
    let of_alerts : OfKind 3 alerts = kind_by labels_cmp labels_total labels_exact AlertKey alert_item (λ k v. refl) (λ k v. refl) alerts_like 3 (λ k. refl) h.alerts in
    let of_silences : OfKind 2 silences = kind_by ids_cmp nat_list_cmp_total exact_bytes SilenceKey silence_item (λ k v. refl) (λ k v. refl) silences_like 2 (λ k. refl) h.silences in
    let up_entries = rising_by entry_cmp entry_total entries_exact SentEntryKey entry_item (λ k v. refl) (λ k v. refl) entries_like h.sent are.sent in
    let up_alerts = rising_by labels_cmp labels_total labels_exact AlertKey alert_item (λ k v. refl) (λ k v. refl) alerts_like h.alerts are.alerts in
    let up_silences = rising_by ids_cmp nat_list_cmp_total exact_bytes SilenceKey silence_item (λ k v. refl) (λ k v. refl) silences_like h.silences are.silences in
    let later_alerts = rising_row 3 alerts entries of_alerts up_alerts (above_kind 3 4 entries refl of_entries) up_entries in
    let above_silences : AboveKind 2 (alerts ++ entries) = all_append _ alerts entries (above_kind 2 3 alerts refl of_alerts) (above_kind 2 4 entries refl of_entries) in
    let later_silences = rising_row 2 silences (alerts ++ entries) of_silences up_silences above_silences later_alerts in
    let above_configuration : AboveKind 1 (silences ++ (alerts ++ entries)) =
    all_append _ silences (alerts ++ entries) (above_kind 1 2 silences refl of_silences)
    (all_append _ alerts entries (above_kind 1 3 alerts refl of_alerts) (above_kind 1 4 entries refl of_entries)) in
    rising_row 1 (configuration_items h.configuration) (silences ++ (alerts ++ entries)) (configured_kind h.configuration) (configured_rises h.configuration) above_configuration later_silences

-- ---- look-ups

-- what is held under a key
abbrev pub at_held : Key → Inside → Option Item
at_held ConfigurationKey h = option_map configuration_item h.configuration
at_held (SilenceKey id) h = option_map (silence_item id) (get ids_cmp h.silences id)
at_held (AlertKey labels) h = option_map (alert_item labels) (get labels_cmp h.alerts labels)
at_held (SentEntryKey entry) h = option_map (entry_item entry) (get entry_cmp h.sent entry)

-- a look-up in four lists, by what each gives
four : (key : Key) (cs ss zs es : List Item) (c s a e : Option Item) → item_at key cs ≡ c → item_at key ss ≡ s → item_at key zs ≡ a → item_at key es ≡ e
    → item_at key (cs ++ (ss ++ (zs ++ es))) ≡ first c (first s (first a e))
four key cs ss zs es c s a e p q r t =
    let after_silences : item_at key (zs ++ es) ≡ first a e = at_append key zs es ∙ ap (λ o. first o (item_at key es)) r ∙ ap (first a) t in
    let after_configuration : item_at key (ss ++ (zs ++ es)) ≡ first s (first a e) = at_append key ss (zs ++ es) ∙ ap (λ o. first o (item_at key (zs ++ es))) q ∙ ap (first s) after_silences in
    at_append key cs (ss ++ (zs ++ es)) ∙ ap (λ o. first o (item_at key (ss ++ (zs ++ es)))) p ∙ ap (first c) after_configuration

-- a look-up of a configuration
at_configuration : (o : Option (Stamped (Option (List ℕ)))) → item_at ConfigurationKey (configuration_items o) ≡ option_map configuration_item o
unfolding key_cmp
at_configuration None = refl
at_configuration (Some held) = refl

-- a look-up of another kind there
not_configuration : (key : Key) → is_eq (key_cmp key ConfigurationKey) ≡ false → (o : Option (Stamped (Option (List ℕ)))) → item_at key (configuration_items o) ≡ None
not_configuration key other None = refl
not_configuration key other (Some held) = cond-false _ (Some (configuration_item held)) None other

-- a look-up of a key of another kind
not_silence : (key : Key) → ((id : List ℕ) → is_eq (key_cmp key (SilenceKey id)) ≡ false) → (es : List (List ℕ × Stamped SilenceDetails)) → item_at key (items_by silence_item es) ≡ None
not_silence = at_other ids_cmp nat_list_cmp_total exact_bytes SilenceKey silence_item (λ k v. refl) (λ k v. refl) silences_like

not_alert : (key : Key) → ((labels : List Label) → is_eq (key_cmp key (AlertKey labels)) ≡ false) → (es : List (List Label × Stamped AlertDetails)) → item_at key (items_by alert_item es) ≡ None
not_alert = at_other labels_cmp labels_total labels_exact AlertKey alert_item (λ k v. refl) (λ k v. refl) alerts_like

not_entry : (key : Key) → ((entry : EntryKey) → is_eq (key_cmp key (SentEntryKey entry)) ≡ false) → (es : List (EntryKey × Stamped EntryDetails)) → item_at key (items_by entry_item es) ≡ None
not_entry = at_other entry_cmp entry_total entries_exact SentEntryKey entry_item (λ k v. refl) (λ k v. refl) entries_like

-- a look-up goes to the kind of its key
pub at_whole : (key : Key) (h : Inside) → item_at key (items_in h) ≡ at_held key h
unfolding items_in key_cmp
at_whole ConfigurationKey h =
    four ConfigurationKey (configuration_items h.configuration) (items_by silence_item h.silences) (items_by alert_item h.alerts) (items_by entry_item h.sent) _ None None None
    (at_configuration h.configuration) (not_silence ConfigurationKey (λ id. refl) h.silences) (not_alert ConfigurationKey (λ labels. refl) h.alerts) (not_entry ConfigurationKey (λ entry. refl) h.sent)
    ∙ first-none _
at_whole (SilenceKey id) h =
    four (SilenceKey id) (configuration_items h.configuration) (items_by silence_item h.silences) (items_by alert_item h.alerts) (items_by entry_item h.sent) None _ None None
    (not_configuration (SilenceKey id) refl h.configuration) (at_by ids_cmp nat_list_cmp_total exact_bytes SilenceKey silence_item (λ k v. refl) (λ k v. refl) silences_like id h.silences)
    (not_alert (SilenceKey id) (λ labels. refl) h.alerts) (not_entry (SilenceKey id) (λ entry. refl) h.sent)
    ∙ first-none _
at_whole (AlertKey labels) h =
    four (AlertKey labels) (configuration_items h.configuration) (items_by silence_item h.silences) (items_by alert_item h.alerts) (items_by entry_item h.sent) None None _ None
    (not_configuration (AlertKey labels) refl h.configuration) (not_silence (AlertKey labels) (λ id. refl) h.silences)
    (at_by labels_cmp labels_total labels_exact AlertKey alert_item (λ k v. refl) (λ k v. refl) alerts_like labels h.alerts) (not_entry (AlertKey labels) (λ entry. refl) h.sent)
    ∙ first-none _
at_whole (SentEntryKey entry) h =
    four (SentEntryKey entry) (configuration_items h.configuration) (items_by silence_item h.silences) (items_by alert_item h.alerts) (items_by entry_item h.sent) None None None _
    (not_configuration (SentEntryKey entry) refl h.configuration) (not_silence (SentEntryKey entry) (λ id. refl) h.silences)
    (not_alert (SentEntryKey entry) (λ labels. refl) h.alerts) (at_by entry_cmp entry_total entries_exact SentEntryKey entry_item (λ k v. refl) (λ k v. refl) entries_like entry h.sent)

-- ---- one kind of all that is held

-- what passes a test in four lists
pub passed : (p : Item → Bool) (cs ss zs es c s a e : List Item) → filter p cs ≡ c → filter p ss ≡ s → filter p zs ≡ a → filter p es ≡ e → filter p (cs ++ (ss ++ (zs ++ es))) ≡ c ++ (s ++ (a ++ e))
passed p cs ss zs es c s a e h k l m =
    let after_silences : filter p (zs ++ es) ≡ a ++ e = filter-append p zs es ∙ ap (λ o. o ++ filter p es) l ∙ ap (λ o. a ++ o) m in
    let after_configuration : filter p (ss ++ (zs ++ es)) ≡ s ++ (a ++ e) = filter-append p ss (zs ++ es) ∙ ap (λ o. o ++ filter p (zs ++ es)) k ∙ ap (λ o. s ++ o) after_silences in
    filter-append p cs (ss ++ (zs ++ es)) ∙ ap (λ o. o ++ filter p (ss ++ (zs ++ es))) h ∙ ap (λ o. c ++ o) after_configuration

-- a configuration is of no other kind
pub no_configuration : (p : Item → Bool) → ((v : Stamped (Option (List ℕ))) → p (configuration_item v) ≡ false) → (o : Option (Stamped (Option (List ℕ)))) → filter p (configuration_items o) ≡ []
no_configuration p h None = refl
no_configuration p h (Some v) = cond-false _ (configuration_item v ∷ []) [] (h v)

-- the silences of all that is held
pub silences_whole : (h : Inside) → silences_of (items_in h) ≡ items_by silence_item h.silences
unfolding items_in
silences_whole h =
    let p : Item → Bool = λ (x : Item). is_silence x.thing in
    passed p (configuration_items h.configuration) (items_by silence_item h.silences) (items_by alert_item h.alerts) (items_by entry_item h.sent)
    [] (items_by silence_item h.silences) [] [] (no_configuration p (λ v. refl) h.configuration) (passed_by silence_item p (λ k v. refl) h.silences)
    (failed_by alert_item p (λ k v. refl) h.alerts) (failed_by entry_item p (λ k v. refl) h.sent)
    ∙ append-nil (items_by silence_item h.silences)

-- the alerts of all that is held
pub alerts_whole : (h : Inside) → alerts_of (items_in h) ≡ items_by alert_item h.alerts
unfolding items_in
alerts_whole h =
    let p : Item → Bool = λ (x : Item). is_alert x.thing in
    passed p (configuration_items h.configuration) (items_by silence_item h.silences) (items_by alert_item h.alerts) (items_by entry_item h.sent)
    [] [] (items_by alert_item h.alerts) [] (no_configuration p (λ v. refl) h.configuration) (failed_by silence_item p (λ k v. refl) h.silences)
    (passed_by alert_item p (λ k v. refl) h.alerts) (failed_by entry_item p (λ k v. refl) h.sent)
    ∙ append-nil (items_by alert_item h.alerts)

-- the sent entries of all that is held
pub entries_whole : (h : Inside) → entries_of (items_in h) ≡ items_by entry_item h.sent
unfolding items_in
entries_whole h =
    let p : Item → Bool = λ (x : Item). is_sent_entry x.thing in
    passed p (configuration_items h.configuration) (items_by silence_item h.silences) (items_by alert_item h.alerts) (items_by entry_item h.sent)
    [] [] [] (items_by entry_item h.sent) (no_configuration p (λ v. refl) h.configuration) (failed_by silence_item p (λ k v. refl) h.silences)
    (failed_by alert_item p (λ k v. refl) h.alerts) (passed_by entry_item p (λ k v. refl) h.sent)

-- all that is held is its kinds in a row
pub in_a_row : (h : Inside) → items_in h ≡ configuration_items h.configuration ++ (silences_of (items_in h) ++ (alerts_of (items_in h) ++ entries_of (items_in h)))
unfolding items_in
in_a_row h =
    let front = configuration_items h.configuration in
    sym (ap (λ xs. front ++ (xs ++ (alerts_of (items_in h) ++ entries_of (items_in h)))) (silences_whole h)
    ∙ ap (λ xs. front ++ (items_by silence_item h.silences ++ (xs ++ entries_of (items_in h)))) (alerts_whole h)
    ∙ ap (λ xs. front ++ (items_by silence_item h.silences ++ (items_by alert_item h.alerts ++ xs))) (entries_whole h))

-- ---- an item more

-- what is held once an item has come, by its look-ups
pub joined_whole : (h n : Inside) (y : Item) → AreOrdered h → AreOrdered n → ((key : Key) → at_held key n ≡ with_item key (at_held key h) y) → items_in n ≡ joined (items_in h) y
joined_whole h n y are are' came =
    is_joined (items_in h) (items_in n) y (rising_whole h are) (rising_whole n are') (λ key. at_whole key n ∙ came key ∙ ap (λ o. with_item key o y) (sym (at_whole key h)))

-- the newest of two configurations, as the later of two items
newest_configuration : (o : Option (Stamped (Option (List ℕ)))) (v : Stamped (Option (List ℕ))) → option_map configuration_item (newest o v) ≡ later (option_map configuration_item o) (Some (configuration_item v))
newest_configuration None v = refl
newest_configuration (Some u) v =
    by_cases (exceeds (configuration_item v) (configuration_item u))
    (λ e. ap (option_map configuration_item) (cond-true _ (Some v) (Some u) e) ∙ sym (cond-true _ (Some (configuration_item v)) (Some (configuration_item u)) e))
    (λ e. ap (option_map configuration_item) (cond-false _ (Some v) (Some u) e) ∙ sym (cond-false _ (Some (configuration_item v)) (Some (configuration_item u)) e))

-- a configuration has come
pub came_configuration : (h n : Inside) (v : Stamped (Option (List ℕ))) → n.configuration ≡ newest h.configuration v → n.silences ≡ h.silences → n.alerts ≡ h.alerts → n.sent ≡ h.sent
    → (key : Key) → at_held key n ≡ with_item key (at_held key h) (configuration_item v)
unfolding key_cmp
came_configuration h n v new silences alerts sent ConfigurationKey = ap (option_map configuration_item) new ∙ newest_configuration h.configuration v
came_configuration h n v new silences alerts sent (SilenceKey id) = ap (λ m. option_map (silence_item id) (get ids_cmp m id)) silences
came_configuration h n v new silences alerts sent (AlertKey labels) = ap (λ m. option_map (alert_item labels) (get labels_cmp m labels)) alerts
came_configuration h n v new silences alerts sent (SentEntryKey entry) = ap (λ m. option_map (entry_item entry) (get entry_cmp m entry)) sent

-- a silence has come
pub came_silence : (h n : Inside) (k : List ℕ) (v : Stamped SilenceDetails) → n.configuration ≡ h.configuration
    → ((q : List ℕ) → get ids_cmp n.silences q ≡ cond (is_at (ids_cmp k) q) (newest (get ids_cmp h.silences q) v) (get ids_cmp h.silences q)) → n.alerts ≡ h.alerts → n.sent ≡ h.sent
    → (key : Key) → at_held key n ≡ with_item key (at_held key h) (silence_item k v)
unfolding key_cmp
came_silence h n k v configuration new alerts sent ConfigurationKey = ap (option_map configuration_item) configuration
came_silence h n k v configuration new alerts sent (SilenceKey id) =
    came_by ids_cmp nat_list_cmp_total exact_bytes SilenceKey silence_item (λ q u. refl) (λ q u. refl) silences_like k id v (get ids_cmp h.silences id) (get ids_cmp n.silences id) (new id)
came_silence h n k v configuration new alerts sent (AlertKey labels) = ap (λ m. option_map (alert_item labels) (get labels_cmp m labels)) alerts
came_silence h n k v configuration new alerts sent (SentEntryKey entry) = ap (λ m. option_map (entry_item entry) (get entry_cmp m entry)) sent

-- an alert has come
pub came_alert : (h n : Inside) (k : List Label) (v : Stamped AlertDetails) → n.configuration ≡ h.configuration → n.silences ≡ h.silences
    → ((q : List Label) → get labels_cmp n.alerts q ≡ cond (is_at (labels_cmp k) q) (newest (get labels_cmp h.alerts q) v) (get labels_cmp h.alerts q)) → n.sent ≡ h.sent
    → (key : Key) → at_held key n ≡ with_item key (at_held key h) (alert_item k v)
unfolding key_cmp
came_alert h n k v configuration silences new sent ConfigurationKey = ap (option_map configuration_item) configuration
came_alert h n k v configuration silences new sent (SilenceKey id) = ap (λ m. option_map (silence_item id) (get ids_cmp m id)) silences
came_alert h n k v configuration silences new sent (AlertKey labels) =
    came_by labels_cmp labels_total labels_exact AlertKey alert_item (λ q u. refl) (λ q u. refl) alerts_like k labels v (get labels_cmp h.alerts labels) (get labels_cmp n.alerts labels) (new labels)
came_alert h n k v configuration silences new sent (SentEntryKey entry) = ap (λ m. option_map (entry_item entry) (get entry_cmp m entry)) sent

-- a sent entry has come
pub came_entry : (h n : Inside) (k : EntryKey) (v : Stamped EntryDetails) → n.configuration ≡ h.configuration → n.silences ≡ h.silences → n.alerts ≡ h.alerts
    → ((q : EntryKey) → get entry_cmp n.sent q ≡ cond (is_at (entry_cmp k) q) (newest (get entry_cmp h.sent q) v) (get entry_cmp h.sent q))
    → (key : Key) → at_held key n ≡ with_item key (at_held key h) (entry_item k v)
unfolding key_cmp
came_entry h n k v configuration silences alerts new ConfigurationKey = ap (option_map configuration_item) configuration
came_entry h n k v configuration silences alerts new (SilenceKey id) = ap (λ m. option_map (silence_item id) (get ids_cmp m id)) silences
came_entry h n k v configuration silences alerts new (AlertKey labels) = ap (λ m. option_map (alert_item labels) (get labels_cmp m labels)) alerts
came_entry h n k v configuration silences alerts new (SentEntryKey entry) =
    came_by entry_cmp entry_total entries_exact SentEntryKey entry_item (λ q u. refl) (λ q u. refl) entries_like k entry v (get entry_cmp h.sent entry) (get entry_cmp n.sent entry) (new entry)

-- the same entries of each kind are the same items
pub same_whole : (h n : Inside) → n.configuration ≡ h.configuration → n.silences ≡ h.silences → n.alerts ≡ h.alerts → n.sent ≡ h.sent → items_in n ≡ items_in h
unfolding items_in
same_whole h n configuration silences alerts sent =
    ap (λ o. configuration_items o ++ (items_by silence_item n.silences ++ (items_by alert_item n.alerts ++ items_by entry_item n.sent))) configuration
    ∙ ap (λ es. configuration_items h.configuration ++ (items_by silence_item es ++ (items_by alert_item n.alerts ++ items_by entry_item n.sent))) silences
    ∙ ap (λ es. configuration_items h.configuration ++ (items_by silence_item h.silences ++ (items_by alert_item es ++ items_by entry_item n.sent))) alerts
    ∙ ap (λ es. configuration_items h.configuration ++ (items_by silence_item h.silences ++ (items_by alert_item h.alerts ++ items_by entry_item es))) sent
