use Rattle.std.proofs.Common.{◌≡◌, ◌++◌, drop, map}
use Rattle.serde_json.specs.View.{items_of}
use Rattle.am_json.specs.Written.{data_tokens, items_tokens}
use Rattle.am_payload.specs.Receivers.{names_at}
use Rattle.am_payload.specs.Written.{receiver_data, receivers_data}
use Rattle.am_payload.proofs.receivers.put_places.Given as goal

abbrev pub invariant-loop-place : goal.invariant-loop-place
invariant-loop-place l =
    l.text ++ items_tokens (items_of (map receiver_data (names_at l.config (drop l.place-index l.places))))
    ≡ l.fn.text ++ data_tokens (receivers_data (names_at l.config l.places))
