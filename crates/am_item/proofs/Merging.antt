-- Merging what is held with what is held elsewhere.
use Rattle.std.proofs.Common.{◌≡◌, ℕ, Bool, true, false, cond, List, [], ◌∷◌, ◌++◌, Option, Some, None, Ordering, refl, sym, ap, ◌∙◌}
use Rattle.std.specs.BTreeMap.{is_at}
use Rattle.am_item.specs.Sorted.{get}
use Rattle.std.specs.Cmp.{Equal-is, IsTotalOrder, eq_by_cmp_equiv}
use Rattle.std.specs.List.{AllByRecursion}
use Rattle.std.specs.List.Sorted.{IsStrictlySortedBy}
use Rattle.std.specs.Map.{keys_of, lookup}
use Rattle.std.specs.Option.{option_map}
use Rattle.std.specs.Ordering.{is_eq, is_gt}
use Rattle.std.specs.declared.cmp.Ordering.TheVariants.{Less}
use Rattle.std.proofs.lemmas.Bool.{cond-false, cond-true}
use Rattle.am_item.specs.Best.{IsRising, item_at, merged}
use Rattle.am_item.specs.EntryKey.{entry_cmp}
use Rattle.am_item.specs.Held.{AreOrdered, alert_item, configuration_item, entry_item, items_in, silence_item}
use Rattle.am_item.specs.Key.{exceeds}
use Rattle.am_item.specs.declared.key.ThingKey.{ThingKey as Key}
use Rattle.am_item.specs.declared.key.ThingKey.TheVariants.{Configuration as ConfigurationKey, Silence as SilenceKey, Alert as AlertKey, SentEntry as SentEntryKey}
use Rattle.am_item.specs.Newest.{newer, newest}
use Rattle.am_item.specs.Stamp.{stamp_cmp}
use Rattle.am_item.specs.declared.entry.EntryKey.{EntryKey}
use Rattle.am_item.specs.declared.held.Held.TheInside.{Inside}
use Rattle.am_item.specs.declared.item.Item.{Item}
use Rattle.am_item.specs.declared.stamp.Stamped.{Stamped}
use Rattle.am_labels.specs.declared.Label.{Label}
use Rattle.am_labels.specs.Labels.{labels_cmp}
use Rattle.am_item.proofs.BestLaws.{at-best, greatest_at, greatest_at-append, greatest_at-rising, rising-best}
use Rattle.am_item.proofs.Greatest.{by_cases, later, later-none}
use Rattle.am_item.proofs.Rising.{rising_same}
use Rattle.am_item.proofs.Whole.{at_held, at_whole, ids_cmp, rising_whole}

-- ---- one kind

module _ {K V : Type 0} {cmp : K → K → Ordering} (total : IsTotalOrder cmp) where
  -- keys above one have nothing at a key that is equal to that one
  none_later : (k q : K) (es : List (K × Stamped V)) → is_at (cmp k) q ≡ true → AllByRecursion (λ p. cmp k p ≡ Less) (keys_of es) → lookup (is_at (cmp q)) es ≡ None
  none_later k q [] at all = refl
  none_later k q (e ∷ es) at all =
      let apart : is_at (cmp q) e.0 ≡ false = ap is_eq (sym (total.congr k q e.0 ((Equal-is (cmp k q)).0 at)) ∙ all.0) in
      cond-false _ (Some e.1) (lookup (is_at (cmp q)) es) apart ∙ none_later k q es at all.1

  -- one of the others has come
  pub merged_next : (was now : K → Option (Stamped V)) (k : K) (v : Stamped V) (es : List (K × Stamped V)) → IsStrictlySortedBy cmp (keys_of ((k, v) ∷ es))
      → ((q : K) → now q ≡ cond (is_at (cmp k) q) (newest (was q) v) (was q))
      → (q : K) → newer (now q) (lookup (is_at (cmp q)) es) ≡ newer (was q) (lookup (is_at (cmp q)) ((k, v) ∷ es))
  unfolding IsStrictlySortedBy
  merged_next was now k v es up came q =
      by_cases (is_at (cmp k) q)
      (λ e.
      ap (newer (now q)) (none_later k q es e up.0) ∙ came q ∙ cond-true _ (newest (was q) v) (was q) e
      ∙ sym (ap (newer (was q)) (cond-true _ (Some v) (lookup (is_at (cmp q)) es) (turned k q true e))))
      (λ e.
      ap (λ o. newer o (lookup (is_at (cmp q)) es)) (came q ∙ cond-false _ (newest (was q) v) (was q) e)
      ∙ sym (ap (newer (was q)) (cond-false _ (Some v) (lookup (is_at (cmp q)) es) (turned k q false e))))
    where
      turned : (a b : K) (t : Bool) → is_at (cmp a) b ≡ t → is_at (cmp b) a ≡ t
      turned a b t e = (eq_by_cmp_equiv total).symm b a ∙ e

-- ---- all kinds

-- what is held at a key, once another holding has come
abbrev LaterAt : Key → Inside → Inside → Inside → Type 0
LaterAt key h o n = at_held key n ≡ later (at_held key h) (at_held key o)

-- the newer of two, as the later of two items
newer_later : {V : Type 0} (item : Stamped V → Item) → ((v : Stamped V) → (item v).stamp ≡ v.stamp) → (a b : Option (Stamped V)) → option_map item (newer a b) ≡ later (option_map item a) (option_map item b)
newer_later item stamped a None = sym (later-none (option_map item a))
newer_later item stamped None (Some v) = refl
newer_later item stamped (Some u) (Some v) =
    let greater = is_gt (stamp_cmp v.stamp u.stamp) in
    let test : exceeds (item v) (item u) ≡ greater = ap (λ s. is_gt (stamp_cmp s (item u).stamp)) (stamped v) ∙ ap (λ s. is_gt (stamp_cmp v.stamp s)) (stamped u) in
    by_cases greater
    (λ e. ap (option_map item) (cond-true _ (Some v) (Some u) e) ∙ sym (cond-true _ (Some (item v)) (Some (item u)) (test ∙ e)))
    (λ e. ap (option_map item) (cond-false _ (Some v) (Some u) e) ∙ sym (cond-false _ (Some (item v)) (Some (item u)) (test ∙ e)))

-- a look-up in two lists that merged
at-merged : (key : Key) (xs ys : List Item) → IsRising xs → IsRising ys → item_at key (merged xs ys) ≡ later (item_at key xs) (item_at key ys)
at-merged key xs ys up up' =
    at-best key (xs ++ ys) ∙ greatest_at-append key xs ys
    ∙ ap (λ o. later o (greatest_at key ys)) (greatest_at-rising key xs up) ∙ ap (later (item_at key xs)) (greatest_at-rising key ys up')

-- what is held merges kind by kind
pub merged_whole : (h o n : Inside) → AreOrdered h → AreOrdered o → AreOrdered n → n.configuration ≡ newer h.configuration o.configuration
    → ((q : List ℕ) → get ids_cmp n.silences q ≡ newer (get ids_cmp h.silences q) (get ids_cmp o.silences q))
    → ((q : List Label) → get labels_cmp n.alerts q ≡ newer (get labels_cmp h.alerts q) (get labels_cmp o.alerts q))
    → ((q : EntryKey) → get entry_cmp n.sent q ≡ newer (get entry_cmp h.sent q) (get entry_cmp o.sent q))
    → items_in n ≡ merged (items_in h) (items_in o)
merged_whole h o n are are_others are_now configuration silences alerts sent =
    rising_same (items_in n) (merged (items_in h) (items_in o)) (rising_whole n are_now) (rising-best (items_in h ++ items_in o))
    (λ key.
    at_whole key n ∙ by_kind key
    ∙ sym (at-merged key (items_in h) (items_in o) (rising_whole h are) (rising_whole o are_others) ∙ ap (λ x. later x (item_at key (items_in o))) (at_whole key h) ∙ ap (later (at_held key h)) (at_whole key o)))
  where
    by_kind : (key : Key) → LaterAt key h o n
    by_kind ConfigurationKey = ap (option_map configuration_item) configuration ∙ newer_later configuration_item (λ v. refl) h.configuration o.configuration
    by_kind (SilenceKey id) = ap (option_map (silence_item id)) (silences id) ∙ newer_later (silence_item id) (λ v. refl) (get ids_cmp h.silences id) (get ids_cmp o.silences id)
    by_kind (AlertKey labels) = ap (option_map (alert_item labels)) (alerts labels) ∙ newer_later (alert_item labels) (λ v. refl) (get labels_cmp h.alerts labels) (get labels_cmp o.alerts labels)
    by_kind (SentEntryKey entry) = ap (option_map (entry_item entry)) (sent entry) ∙ newer_later (entry_item entry) (λ v. refl) (get entry_cmp h.sent entry) (get entry_cmp o.sent entry)
