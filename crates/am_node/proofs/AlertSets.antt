-- The label sets of the alerts that are held, once items joined them.
use Rattle.std.proofs.Common.{◌≡◌, ℕ, Bool, true, false, ◌||◌, cond, inl, inr, List, [], ◌∷◌, Option, Some, None}
use Rattle.std.proofs.Common.{refl, sym, ap, ◌∙◌, subst}
use Rattle.std.specs.List.{AllByRecursion, list_any}
use Rattle.std.specs.List.Sorted.{IsStrictlySortedBy}
use Rattle.std.specs.Map.{keys_of, lookup}
use Rattle.std.specs.Option.{is_some}
use Rattle.std.specs.Ordering.{is_eq}
use Rattle.std.specs.declared.cmp.Ordering.TheVariants.{Less}
use Rattle.std.proofs.lemmas.Bool.{cases_Bool}
use Rattle.am_labels.specs.declared.Label.{Label}
use Rattle.am_labels.specs.Labels.{labels_cmp, labels_total}
use Rattle.am_labels.proofs.InOrder.{labels_exact}
use Rattle.am_labels.proofs.Ordered.{eq_from_elements}
use Rattle.am_item.specs.Best.{IsRising, all_joined, item_at, joined}
use Rattle.am_item.specs.Key.{AlertKey, exceeds, has_key, key_cmp, key_in}
use Rattle.am_item.specs.declared.item.Item.{Item}
use Rattle.am_item.specs.declared.item.Thing.{Thing}
use Rattle.am_item.specs.declared.item.Thing.TheVariants as thing
use Rattle.am_item.specs.declared.stamp.Stamp.{Stamp}
use Rattle.am_item.proofs.Greatest.{later}
use Rattle.am_item.proofs.Joined.{at-joined, rising-joined}
use Rattle.am_item.proofs.Rising.{AllAbove}
use Rattle.am_members.specs.Names.{is_set}
use Rattle.am_muting.specs.Muting.{alert_sets}
use Rattle.am_notifier.specs.Following.{all_came, since_by}
use Rattle.am_notifier.proofs.Coming.{found_came, ordered_came}
use Rattle.am_notifier.proofs.Puts.{IsOrdered, any_key}

-- ---- which label sets there are

-- some item is an alert of the label set
abbrev pub has_alert : List Label → List Item → Bool
has_alert q items = is_some (item_at (AlertKey q) items)

-- the label set is among those of one thing and of others
of_thing : (q : List Label) (stamp : Stamp) (t : Thing) (items : List Item)
    → list_any (is_set q) (alert_sets (record { stamp = stamp; thing = t } ∷ items)) ≡ (is_eq (key_cmp (AlertKey q) (key_in t)) || list_any (is_set q) (alert_sets items))
unfolding key_cmp
of_thing q stamp (thing.Alert alert) items = refl
of_thing q stamp (thing.Configuration text) items = refl
of_thing q stamp (thing.Silence silence) items = refl
of_thing q stamp (thing.SentEntry entry) items = refl

of_one : (q : List Label) (item : Item) (items : List Item) → list_any (is_set q) (alert_sets (item ∷ items)) ≡ (has_key (AlertKey q) item || list_any (is_set q) (alert_sets items))
of_one q item items = of_thing q item.stamp item.thing items

pub any_alert : (q : List Label) (items : List Item) → list_any (is_set q) (alert_sets items) ≡ has_alert q items
any_alert q [] = refl
any_alert q (item ∷ items) = of_one q item items ∙ elim (cases_Bool (has_key (AlertKey q) item)) [
  | inl y ↦ rw y refl
  | inr n ↦ rw n (any_alert q items)
]

-- once one item joined
pub one_joined : (q : List Label) (held : List Item) (item : Item) → IsRising held → has_alert q (joined held item) ≡ (has_key (AlertKey q) item || has_alert q held)
one_joined q held item up = ap is_some (at-joined (AlertKey q) held item up) ∙ by_key (has_key (AlertKey q) item) (item_at (AlertKey q) held)
  where
    is_there : (b : Bool) (x : Item) → is_some (cond b (Some item) (Some x)) ≡ true
    is_there true x = refl
    is_there false x = refl

    by_key : (b : Bool) (o : Option Item) → is_some (cond b (later o (Some item)) o) ≡ (b || is_some o)
    by_key true None = refl
    by_key true (Some x) = is_there (exceeds item x) x
    by_key false o = refl

-- once several did
any_joined : (q : List Label) (held items : List Item) → IsRising held → has_alert q (all_joined held items) ≡ (list_any (is_set q) (alert_sets items) || has_alert q held)
any_joined q held [] up = refl
any_joined q held (item ∷ items) up =
    any_joined q (joined held item) items (rising-joined held item)
    ∙ ap (λ b. list_any (is_set q) (alert_sets items) || b) (one_joined q held item up)
    ∙ turned (list_any (is_set q) (alert_sets items)) (has_key (AlertKey q) item) (has_alert q held)
    ∙ ap (λ b. b || has_alert q held) (sym (of_one q item items))
  where
    turned : (a b c : Bool) → (a || (b || c)) ≡ ((b || a) || c)
    turned true true c = refl
    turned true false c = refl
    turned false true c = refl
    turned false false c = refl

-- ---- their order

pub all_rise : (held items : List Item) → IsRising held → IsRising (all_joined held items)
all_rise held [] up = up
all_rise held (item ∷ items) up = all_rise (joined held item) items (rising-joined held item)

-- label sets of items of greater keys are greater
sets_above : (q : List Label) (stamp : Stamp) (t : Thing) (items : List Item) → AllAbove (AlertKey q) (record { stamp = stamp; thing = t } ∷ items)
    → AllByRecursion (λ l. labels_cmp q l ≡ Less) (alert_sets items) → AllByRecursion (λ l. labels_cmp q l ≡ Less) (alert_sets (record { stamp = stamp; thing = t } ∷ items))
unfolding key_cmp
sets_above q stamp (thing.Alert alert) items up rest = (up.0, rest)
sets_above q stamp (thing.Configuration text) items up rest = rest
sets_above q stamp (thing.Silence silence) items up rest = rest
sets_above q stamp (thing.SentEntry entry) items up rest = rest

all_above : (q : List Label) (items : List Item) → AllAbove (AlertKey q) items → AllByRecursion (λ l. labels_cmp q l ≡ Less) (alert_sets items)
all_above q [] up = tt
all_above q (item ∷ items) up = sets_above q item.stamp item.thing items up (all_above q items up.1)

one_rises : (stamp : Stamp) (t : Thing) (items : List Item) → AllAbove (key_in t) items → IsStrictlySortedBy labels_cmp (alert_sets items)
    → IsStrictlySortedBy labels_cmp (alert_sets (record { stamp = stamp; thing = t } ∷ items))
unfolding IsStrictlySortedBy
one_rises stamp (thing.Alert alert) items up rest = (all_above alert.labels items up, rest)
one_rises stamp (thing.Configuration text) items up rest = rest
one_rises stamp (thing.Silence silence) items up rest = rest
one_rises stamp (thing.SentEntry entry) items up rest = rest

-- the label sets of what is held rise as the keys do
pub sets_rise : (held : List Item) → IsRising held → IsStrictlySortedBy labels_cmp (alert_sets held)
unfolding IsStrictlySortedBy
sets_rise [] up = tt
sets_rise (item ∷ items) up = one_rises item.stamp item.thing items up.0 (sets_rise items up.1)

-- ---- those of the alerts that came

pub keys_came : (m : ℕ) (held items : List Item) (s : List (List Label × ℕ)) → IsRising held → keys_of s ≡ alert_sets held
    → keys_of (all_came m (alert_sets items) s) ≡ alert_sets (all_joined held items)
keys_came m held items s up are =
    let rising : IsOrdered s = subst (IsStrictlySortedBy labels_cmp) (sym are) (sets_rise held up) in
    eq_from_elements labels_cmp labels_total labels_exact (keys_of (all_came m (alert_sets items) s)) (alert_sets (all_joined held items))
    (ordered_came m (alert_sets items) s rising) (sets_rise (all_joined held items) (all_rise held items up)) (λ q.
    any_key q (all_came m (alert_sets items) s)
    ∙ ap is_some (found_came m q (alert_sets items) s)
    ∙ there (list_any (is_set q) (alert_sets items)) (lookup (is_set q) s)
    ∙ ap (λ b. list_any (is_set q) (alert_sets items) || b) (sym (any_key q s) ∙ ap (list_any (is_set q)) are ∙ any_alert q held)
    ∙ sym (any_alert q (all_joined held items) ∙ any_joined q held items up))
  where
    there : (b : Bool) (o : Option ℕ) → is_some (cond b (Some (since_by m o)) o) ≡ (b || is_some o)
    there true o = refl
    there false o = refl
