use Rattle.std.proofs.Common.{◌≡◌, ◌++◌, drop, map}
use Rattle.serde_json.specs.View.{items_of}
use Rattle.am_json.specs.Written.{data_tokens, items_tokens}
use Rattle.am_payload.specs.Listed.{read_data, reads_at, reads_data}
use Rattle.am_payload.proofs.groups.put_members.Given as goal

abbrev pub invariant-loop-place : goal.invariant-loop-place
invariant-loop-place l =
    l.text ++ items_tokens (items_of (map (read_data l.config) (reads_at l.alerts (drop l.place-index l.places))))
    ≡ l.fn.text ++ data_tokens (reads_data l.config (reads_at l.alerts l.places))
