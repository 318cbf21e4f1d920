use Rattle.std.proofs.Common.{◌≡◌, ◌++◌, drop, map}
use Rattle.serde_json.specs.View.{items_of}
use Rattle.am_config.specs.declared.parts.Receiver.{Receiver}
use Rattle.am_json.specs.Written.{data_tokens, items_tokens}
use Rattle.am_payload.specs.Receivers.{names_of}
use Rattle.am_payload.specs.Written.{receiver_data, receivers_data}
use Rattle.am_payload.proofs.receivers.put_receivers.Given as goal

abbrev pub invariant-loop-receiver : goal.invariant-loop-receiver
invariant-loop-receiver l =
    l.text ++ items_tokens (items_of (map receiver_data (map (λ (r : Receiver). r.name) (drop l.receiver-index l.receivers))))
    ≡ l.fn.text ++ data_tokens (receivers_data (names_of l.config))
