-- Receivers as they are written, and their webhooks.
use Rattle.std.specs.Prelude.{true, List, [], ◌∷◌, codes, Result, Ok}
use Rattle.serde_json.specs.Data.{Data, Items, no_items, item}
use Rattle.serde_json.specs.Find.{get, as_array}
use Rattle.am_json.specs.declared.refusal.JsonRefusal.{JsonRefusal}
use Rattle.am_draft.specs.declared.keys.Place.TheVariants.{Receiver, Webhook}
use Rattle.am_draft.specs.declared.receiver.ReceiverDraft.{ReceiverDraft}
use Rattle.am_draft.specs.declared.receiver.WebhookDraft.{WebhookDraft}
use Rattle.am_json.specs.Reading.{formed, optional, required, text_in, flag_in, count_in}
use Rattle.am_draft.specs.Keys.{leaves_out}
use Rattle.am_text.specs.Outcome.{◌>>=◌}

-- a webhook tells of resolved alerts too, and of any number, unless it says otherwise
unfoldable pub webhook_of : Data → Result WebhookDraft JsonRefusal
webhook_of d = do
  left_out ← leaves_out Webhook d
  url ← required text_in (get (codes "url") d)
  send_resolved ← optional true flag_in (get (codes "send_resolved") d)
  max_alerts ← optional 0 count_in (get (codes "max_alerts") d)
  Ok (record { url = url; send_resolved = send_resolved; max_alerts = max_alerts; left_out = left_out })

unfoldable pub webhooks_of : Items → Result (List WebhookDraft) JsonRefusal
webhooks_of no_items = Ok []
webhooks_of (item d ds) = do
  webhook ← webhook_of d
  webhooks ← webhooks_of ds
  Ok (webhook ∷ webhooks)

-- a list of webhooks
abbrev pub webhooks_in : Data → Result (List WebhookDraft) JsonRefusal
webhooks_in d = formed (as_array d) >>= webhooks_of

unfoldable pub receiver_of : Data → Result ReceiverDraft JsonRefusal
receiver_of d = do
  left_out ← leaves_out Receiver d
  name ← required text_in (get (codes "name") d)
  webhooks ← optional [] webhooks_in (get (codes "webhook_configs") d)
  Ok (record { name = name; webhooks = webhooks; left_out = left_out })

unfoldable pub receivers_of : Items → Result (List ReceiverDraft) JsonRefusal
receivers_of no_items = Ok []
receivers_of (item d ds) = do
  receiver ← receiver_of d
  receivers ← receivers_of ds
  Ok (receiver ∷ receivers)

-- a list of receivers
abbrev pub receivers_in : Data → Result (List ReceiverDraft) JsonRefusal
receivers_in d = formed (as_array d) >>= receivers_of
