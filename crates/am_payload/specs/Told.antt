-- What a webhook is told, as the code has it.
use Rattle.std.specs.Prelude.{ℕ, Bool, List, map}
use Rattle.serde_json.specs.Data.{Data}
use Rattle.am_item.specs.declared.item.Alert.{Alert}
use Rattle.am_item.specs.declared.stamp.Stamped.{Stamped}
use Rattle.am_alert.specs.HeldAlert.{held_alert}
use Rattle.am_payload.specs.declared.webhook.ToldAlert.{ToldAlert}
use Rattle.am_payload.specs.declared.webhook.WebhookBody.{WebhookBody}
use Rattle.am_payload.specs.Webhook.{webhook_data, webhook_text}

-- an alert, and whether it fires
abbrev pub told_alert : ToldAlert → Stamped Alert × Bool
told_alert told = (held_alert told.alert, told.fires)

-- alerts, each with whether it fires
abbrev pub told_alerts : List ToldAlert → List (Stamped Alert × Bool)
told_alerts alerts = map told_alert alerts

-- the body as JSON
abbrev pub body_data : WebhookBody → Data
body_data body = webhook_data body.receiver.now body.route body.labels.now (told_alerts body.alerts) body.truncated

-- its bytes
abbrev pub body_text : WebhookBody → List ℕ
body_text body = webhook_text body.receiver.now body.route body.labels.now (told_alerts body.alerts) body.truncated
