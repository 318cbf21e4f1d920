use Rattle.std.proofs.Common.{◌≡◌, ◌++◌, drop, map}
use Rattle.serde_json.specs.View.{items_of}
use Rattle.am_json.specs.Written.{data_tokens, items_tokens}
use Rattle.am_payload.specs.Listed.{read_data, reads_data}
use Rattle.am_payload.proofs.alerts.put_alerts.Given as goal

abbrev pub invariant-loop-alert : goal.invariant-loop-alert
invariant-loop-alert l =
    l.text ++ items_tokens (items_of (map (read_data l.config) (drop l.alert-index l.alerts)))
    ≡ l.fn.text ++ data_tokens (reads_data l.config l.alerts)
