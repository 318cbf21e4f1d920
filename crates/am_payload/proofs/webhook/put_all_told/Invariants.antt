use Rattle.std.proofs.Common.{◌≡◌, ◌++◌, drop, map}
use Rattle.serde_json.specs.View.{items_of}
use Rattle.am_json.specs.Written.{data_tokens, items_tokens}
use Rattle.am_payload.specs.Told.{told_alerts}
use Rattle.am_payload.specs.Webhook.{all_told_data, told_data}
use Rattle.am_payload.proofs.webhook.put_all_told.Given as goal

abbrev pub invariant-loop-told : goal.invariant-loop-told
invariant-loop-told l =
    l.text ++ items_tokens (items_of (map (λ told. told_data told.0 told.1) (told_alerts (drop l.told-index l.alerts))))
    ≡ l.fn.text ++ data_tokens (all_told_data (told_alerts l.alerts))
