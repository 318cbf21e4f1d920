use Rattle.std.proofs.Common.{◌≡◌, ◌++◌, drop, map}
use Rattle.serde_json.specs.View.{items_of}
use Rattle.am_json.specs.Written.{data_tokens, items_tokens}
use Rattle.am_payload.specs.Listed.{groups_data, read_group_data}
use Rattle.am_payload.proofs.groups.put_groups.Given as goal

abbrev pub invariant-loop-group : goal.invariant-loop-group
invariant-loop-group l =
    l.text ++ items_tokens (items_of (map (read_group_data l.config l.alerts) (drop l.group-index l.groups)))
    ≡ l.fn.text ++ data_tokens (groups_data l.config l.alerts l.groups)
