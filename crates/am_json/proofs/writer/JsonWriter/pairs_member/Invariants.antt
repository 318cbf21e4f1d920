use Rattle.std.proofs.Common.{◌≡◌, ◌++◌, drop}
use Rattle.serde_json.specs.Data.{object}
use Rattle.am_json.specs.Written.{member_tokens, members_tokens}
use Rattle.am_json.proofs.Rising.{labels_members}
use Rattle.am_json.proofs.writer.JsonWriter.pairs_member.Given as goal

abbrev pub invariant-loop-pair : goal.invariant-loop-pair
invariant-loop-pair l =
    l.self ++ members_tokens (labels_members (drop l.pair-index l.pairs)) ≡ l.fn.self ++ member_tokens l.name (object (labels_members l.pairs))
