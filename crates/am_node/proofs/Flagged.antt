-- The label sets of alerts that came, each with whether it is new.
use Rattle.std.proofs.Common.{◌≡◌, Bool, true, false, not, ◌&&◌, ◌||◌, List, [], ◌∷◌, map, refl, sym, ap, ◌∙◌}
use Rattle.std.specs.List.{list_any}
use Rattle.std.specs.Map.{keys_of}
use Rattle.std.proofs.lemmas.Bool.{or_parts}
use Rattle.am_book.specs.Book.{are_new, is_new}
use Rattle.am_labels.specs.declared.Label.{Label}
use Rattle.am_item.specs.Best.{IsRising, joined}
use Rattle.am_item.specs.Key.{AlertKey, has_key}
use Rattle.am_item.specs.declared.item.Item.{Item}
use Rattle.am_item.specs.declared.item.Thing.{Thing}
use Rattle.am_item.specs.declared.item.Thing.TheVariants as thing
use Rattle.am_item.specs.declared.stamp.Stamp.{Stamp}
use Rattle.am_item.proofs.Joined.{rising-joined}
use Rattle.am_members.specs.Names.{is_set}
use Rattle.am_muting.specs.Muting.{alert_sets}
use Rattle.am_replica.specs.Coming.{flagged, set_in, set_of}
use Rattle.am_notifier.specs.Following.{is_known, is_new_known}
use Rattle.am_node.specs.Local.{Local}
use Rattle.am_node.specs.Plans.{IsPlanned}
use Rattle.am_node.proofs.AlertSets.{any_alert, has_alert, one_joined}
use Rattle.am_notifier.proofs.Coming.{Alerts}
use Rattle.am_notifier.proofs.Puts.{any_key}

-- ---- which they are

one_set : (stamp : Stamp) (t : Thing) (items : List Item) (b : Bool) (new : List Bool) → keys_of (flagged (map set_of items) new) ≡ alert_sets items
    → keys_of (flagged (set_in t ∷ map set_of items) (b ∷ new)) ≡ alert_sets (record { stamp = stamp; thing = t } ∷ items)
one_set stamp (thing.Alert alert) items b new are = ap (λ sets. alert.labels ∷ sets) are
one_set stamp (thing.Configuration text) items b new are = are
one_set stamp (thing.Silence silence) items b new are = are
one_set stamp (thing.SentEntry entry) items b new are = are

-- those of the alerts among the items
pub keys_flagged : (held items : List Item) → keys_of (flagged (map set_of items) (are_new held items)) ≡ alert_sets items
keys_flagged held [] = refl
keys_flagged held (item ∷ items) =
    one_set item.stamp item.thing items (is_new held item) (are_new (joined held item) items) (keys_flagged (joined held item) items)

-- ---- those that are new aren't known

-- each alert that isn't held isn't known
abbrev KnowsHeld : Alerts → List Item → Type 0
KnowsHeld alerts held = (q : List Label) → has_alert q held ≡ false → is_known q alerts ≡ false

one_new : (alerts : Alerts) (held : List Item) (q : List Label) → KnowsHeld alerts held → (not (has_alert q held) && is_known q alerts) ≡ false
one_new alerts held q knows = by_held (has_alert q held) (knows q)
  where
    by_held : (b : Bool) → (b ≡ false → is_known q alerts ≡ false) → (not b && is_known q alerts) ≡ false
    by_held true unknown = refl
    by_held false unknown = unknown refl

new_first : (alerts : Alerts) (held : List Item) (stamp : Stamp) (t : Thing) (items : List Item) (new : List Bool) → KnowsHeld alerts held → is_new_known (flagged (map set_of items) new) alerts ≡ false
    → is_new_known (flagged (set_in t ∷ map set_of items) (is_new held (record { stamp = stamp; thing = t }) ∷ new)) alerts ≡ false
new_first alerts held stamp (thing.Alert alert) items new knows rest =
    ap (λ b. b || is_new_known (flagged (map set_of items) new) alerts) (one_new alerts held alert.labels knows) ∙ rest
new_first alerts held stamp (thing.Configuration text) items new knows rest = rest
new_first alerts held stamp (thing.Silence silence) items new knows rest = rest
new_first alerts held stamp (thing.SentEntry entry) items new knows rest = rest

new_all : (alerts : Alerts) (held items : List Item) → IsRising held → KnowsHeld alerts held → is_new_known (flagged (map set_of items) (are_new held items)) alerts ≡ false
new_all alerts held [] up knows = refl
new_all alerts held (item ∷ items) up knows =
    new_first alerts held item.stamp item.thing items (are_new (joined held item) items) knows
    (new_all alerts (joined held item) items (rising-joined held item)
    (λ q none. knows q (or_parts (has_key (AlertKey q) item) (has_alert q held) (sym (one_joined q held item up) ∙ none)).1))

-- what wasn't held when it came wasn't held before, and all that is known is held
pub new_unknown : (local : Local) (items : List Item) → IsPlanned local → is_new_known (flagged (map set_of items) (are_new local.held items)) local.plan.grouped.alerts ≡ false
new_unknown local items planned =
    let alerts = local.plan.grouped.alerts in
    new_all alerts local.held items planned.rising
    (λ q none. sym (any_key q alerts) ∙ ap (list_any (is_set q)) planned.alerts ∙ any_alert q local.held ∙ none)
