use Rattle.std.proofs.Common.{◌≡◌, ◌++◌, drop}
use Rattle.serde_json.specs.Data.{object}
use Rattle.am_json.specs.Written.{data_tokens, members_tokens}
use Rattle.am_json.proofs.Rising.{labels_members}
use Rattle.am_payload.proofs.key.put_labels.Given as goal

abbrev pub invariant-loop-label : goal.invariant-loop-label
invariant-loop-label l =
    (l.writer.before ≡ l.fn.writer.before)
    × (l.writer.tokens ++ members_tokens (labels_members (drop l.label-index l.labels)) ≡ l.fn.writer.tokens ++ data_tokens (object (labels_members l.labels)))
