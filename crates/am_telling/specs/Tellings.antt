-- What the webhooks of a receiver are told at the flush of a group: each notice with its body and with what records it.
use Rattle.std.specs.Prelude.{ℕ, ◌+◌, ◌-◌, ◌==◌, Bool, length, List, [], ◌∷◌, map, take, Option, Some, None, option_map, slice_get, if◌then◌else◌}
use Rattle.std.specs.List.{filter_map}
use Rattle.am_item.specs.declared.entry.EntryDetails.{EntryDetails}
use Rattle.am_item.specs.declared.entry.EntryKey.{EntryKey}
use Rattle.am_item.specs.declared.item.Alert.{Alert}
use Rattle.am_item.specs.declared.stamp.Stamped.{Stamped}
use Rattle.am_alert.specs.Held.{fires}
use Rattle.am_labels.specs.declared.Label.{Label}
use Rattle.am_config.specs.Configuration.{Configuration, receiver_of, settings_at}
use Rattle.am_config.specs.declared.parts.Receiver.{Receiver}
use Rattle.am_config.specs.declared.parts.Settings.{Settings}
use Rattle.am_config.specs.declared.parts.Webhook.{Webhook}
use Rattle.am_members.specs.declared.group.Group.{Group}
use Rattle.am_group.specs.Notices.{Deed, Told, Kept, deeds_from}
use Rattle.am_outlet.specs.declared.attempt.Notice.{Notice}
use Rattle.am_payload.specs.Webhook.{group_key, webhook_text}
use Rattle.am_telling.specs.declared.telling.Telling.{Telling}
use Rattle.am_telling.specs.declared.telling.Telling.TheVariants.{Notify, Keep}

-- the key under which it is recorded what a webhook of a receiver was told of a group
abbrev pub key_for : (receiver : List ℕ) → Group → (webhook : ℕ) → EntryKey
key_for receiver group webhook =
    record { receiver = receiver; group = group_key group.route group.labels; webhook = webhook }

-- for how long after its stamp what was told is of use
abbrev pub span_of : Settings → ℕ
span_of settings = settings.group_interval + settings.repeat_interval

-- the alerts that stand in a body: `max_alerts` above 0 keeps the first so many
abbrev pub shown : (most : ℕ) → List (Stamped Alert) → List (Stamped Alert)
shown most alerts = if most == 0 then alerts else take most alerts

-- how many are left out
abbrev pub truncated : (most : ℕ) → List (Stamped Alert) → ℕ
truncated most alerts = length alerts - length (shown most alerts)

-- alerts, each with whether it fires at the moment
abbrev pub with_state : ℕ → List (Stamped Alert) → List (Stamped Alert × Bool)
with_state moment alerts = map (λ alert. (alert, fires moment alert)) alerts

-- the body of a notice to a webhook
abbrev pub body_for : (receiver : List ℕ) → Group → Webhook → ℕ → List (Stamped Alert) → List ℕ
body_for receiver group webhook moment alerts =
    webhook_text receiver group.route group.labels (with_state moment (shown webhook.max_alerts alerts))
    (truncated webhook.max_alerts alerts)

-- the notice to a webhook of this number: which alerts fire and which are resolved is recorded of all, before any is left out
abbrev pub notice_for : (receiver : List ℕ) → Group → Settings → ℕ → Webhook → (moment : ℕ) → List (Stamped Alert) →
    (firing resolved : List (List Label)) → Notice
notice_for receiver group settings number webhook moment alerts firing resolved = record {
  key = key_for receiver group number;
  url = webhook.url;
  body = body_for receiver group webhook moment alerts;
  firing = firing;
  resolved = resolved;
  span = span_of settings;
}

-- what is done for a webhook of the receiver
abbrev pub telling_of : Receiver → Group → Settings → (moment : ℕ) → Deed → Option Telling
telling_of receiver group settings moment (Told number alerts firing resolved) =
    option_map (λ webhook. Notify (notice_for receiver.name group settings number webhook moment alerts firing resolved))
    (slice_get receiver.webhooks number)
telling_of receiver group settings moment (Kept number) =
    Some (Keep (key_for receiver.name group number) (span_of settings))

-- what is done for the webhooks of a group's receiver, in order
abbrev pub tellings_by : Option Receiver → Option Settings → Group → List (EntryKey × Stamped EntryDetails) →
    List (Stamped Alert) → (moment : ℕ) → List Telling
tellings_by None settings group sent alerts moment = []
tellings_by (Some receiver) None group sent alerts moment = []
tellings_by (Some receiver) (Some settings) group sent alerts moment =
    filter_map (telling_of receiver group settings moment)
    (deeds_from 0 receiver.name (group_key group.route group.labels) receiver.webhooks sent alerts settings.repeat_interval moment)

-- what is done at a flush of a group, whose members that aren't muted are these alerts, where this was told before
unfoldable pub tellings : Configuration → Group → List (EntryKey × Stamped EntryDetails) → List (Stamped Alert) →
    (moment : ℕ) → List Telling
tellings c group sent alerts moment =
    tellings_by (receiver_of c group.route) (settings_at c group.route) group sent alerts moment

-- the keys of webhooks of a group's receiver, of which the first has this number
abbrev pub keys_from : (receiver : List ℕ) → Group → ℕ → List Webhook → List EntryKey
keys_from receiver group number [] = []
keys_from receiver group number (webhook ∷ webhooks) =
    key_for receiver group number ∷ keys_from receiver group (number + 1) webhooks

abbrev pub keys_by : Group → Option Receiver → List EntryKey
keys_by group None = []
keys_by group (Some receiver) = keys_from receiver.name group 0 receiver.webhooks

-- the keys under which it is recorded what the webhooks of a group's receiver were told, in their order
unfoldable pub webhook_keys : Configuration → Group → List EntryKey
webhook_keys c group = keys_by group (receiver_of c group.route)
