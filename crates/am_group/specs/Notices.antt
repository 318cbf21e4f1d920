-- What a webhook is told at the flush of a group.
use Rattle.std.specs.Prelude.{ℕ, ◌+◌, ◌==◌, Bool, true, ◌&&◌, not, nat_le, min, length, List, [], ◌∷◌, ◌++◌, map, filter, Option, Some, None, if◌then◌else◌}
use Rattle.std.specs.BTreeMap.{is_at}
use Rattle.std.specs.List.{list_any}
use Rattle.std.specs.Map.{lookup}
use Rattle.std.specs.Ordering.{is_eq}
use Rattle.am_text.specs.Moment.{greatest_moment}
use Rattle.am_labels.specs.declared.Label.{Label}
use Rattle.am_labels.specs.Labels.{labels_cmp}
use Rattle.am_config.specs.declared.parts.Webhook.{Webhook}
use Rattle.am_item.specs.declared.entry.EntryDetails.{EntryDetails}
use Rattle.am_item.specs.declared.entry.EntryKey.{EntryKey}
use Rattle.am_item.specs.declared.item.Alert.{Alert}
use Rattle.am_item.specs.declared.stamp.Stamped.{Stamped}
use Rattle.am_item.specs.EntryKey.{entry_cmp}
use Rattle.am_alert.specs.Held.{fires}

-- there are none
abbrev pub is_none_there : {X : Type 0} → List X → Bool
is_none_there xs = length xs == 0

-- the label sets of alerts
abbrev pub sets_of : List (Stamped Alert) → List (List Label)
sets_of alerts = map (λ alert. alert.value.labels) alerts

-- the alerts that are resolved at the moment
abbrev pub resolved_at : ℕ → List (Stamped Alert) → List (Stamped Alert)
resolved_at moment alerts = filter (λ alert. not (fires moment alert)) alerts

-- those that fire
abbrev pub firing_at : ℕ → List (Stamped Alert) → List (Stamped Alert)
firing_at moment alerts = filter (fires moment) alerts

-- a label set is among those that were told
abbrev pub is_told : List (List Label) → List Label → Bool
is_told told labels = list_any (λ other. is_eq (labels_cmp other labels)) told

-- one of the alerts wasn't told
abbrev pub some_new : List (List Label) → List (Stamped Alert) → Bool
some_new told alerts = list_any (λ alert. not (is_told told alert.value.labels)) alerts

-- Whether there is something to tell. Without an entry of what was told last: where an alert fires. Else where one fires
-- that wasn't told as firing. Else, where none fires, exactly where one was told as firing. Else, where resolved alerts are
-- told, where one of them wasn't. Else where the entry is so old that it is repeated.
unfoldable pub has_news : Option (Stamped EntryDetails) → (firing resolved : List (Stamped Alert)) → (sends_resolved : Bool) → (repeat moment : ℕ) → Bool
has_news None firing resolved sends_resolved repeat moment = not (is_none_there firing)
has_news (Some entry) firing resolved sends_resolved repeat moment =
    if some_new entry.value.firing firing then true
    else if is_none_there firing then not (is_none_there entry.value.firing)
    else if sends_resolved && some_new entry.value.resolved resolved then true
    else nat_le (min (entry.stamp.moment + repeat) greatest_moment) moment

-- what is done for a webhook: a notice of alerts, with the label sets of those that fire and of those that are resolved; or
-- that nothing fires and nothing is resolved is recorded at once, without a notice
pub data Deed : Type 0 where
  Told : (webhook : ℕ) → (alerts : List (Stamped Alert)) → (firing resolved : List (List Label)) → Deed
  Kept : (webhook : ℕ) → Deed

-- the notice of a webhook: its alerts are all of the group's, or those that fire where resolved ones aren't told
abbrev pub notice : (webhook : ℕ) → List (Stamped Alert) → (firing resolved : List (Stamped Alert)) → (sends_resolved : Bool) → Deed
notice webhook alerts firing resolved sends_resolved =
    if sends_resolved then Told webhook alerts (sets_of firing) (sets_of resolved) else Told webhook firing (sets_of firing) []

-- what is done for a webhook: nothing where the group has no alerts or there is nothing to tell; what there is to tell is
-- recorded at once where no alert is left to tell it with
unfoldable pub deed_for : (webhook : ℕ) → Webhook → Option (Stamped EntryDetails) → List (Stamped Alert) → (repeat moment : ℕ) → Option Deed
deed_for number webhook entry alerts repeat moment =
    let firing = firing_at moment alerts in
    let resolved = resolved_at moment alerts in
    if is_none_there alerts then None
    else if not (has_news entry firing resolved webhook.send_resolved repeat moment) then None
    else if is_none_there firing && not webhook.send_resolved then Some (Kept number)
    else Some (notice number alerts firing resolved webhook.send_resolved)

-- what a webhook of a receiver was last told of a group
abbrev pub entry_at : (receiver group : List ℕ) → ℕ → List (EntryKey × Stamped EntryDetails) → Option (Stamped EntryDetails)
entry_at receiver group number sent = lookup (is_at (entry_cmp (record { receiver = receiver; group = group; webhook = number }))) sent

-- what there may be, as a list
abbrev pub listed : Option Deed → List Deed
listed None = []
listed (Some deed) = deed ∷ []

-- what is done for webhooks in order, of which the first has this number
unfoldable pub deeds_from : ℕ → (receiver group : List ℕ) → List Webhook → List (EntryKey × Stamped EntryDetails) → List (Stamped Alert) → (repeat moment : ℕ) → List Deed
deeds_from number receiver group [] sent alerts repeat moment = []
deeds_from number receiver group (webhook ∷ webhooks) sent alerts repeat moment =
    listed (deed_for number webhook (entry_at receiver group number sent) alerts repeat moment)
    ++ deeds_from (number + 1) receiver group webhooks sent alerts repeat moment
