use Rattle.std.proofs.Common.{◌≡◌, ◌++◌, drop, map}
use Rattle.serde_json.specs.Data.{object}
use Rattle.am_json.specs.Written.{member_tokens, members_tokens}
use Rattle.am_json.proofs.Rising.{labels_members}
use Rattle.am_payload.proofs.members.pairs_member.Given as goal

abbrev pub invariant-loop-pair : goal.invariant-loop-pair
invariant-loop-pair l =
    l.text ++ members_tokens (labels_members (map (λ pair. pair.now) (drop l.pair-index l.pairs)))
    ≡ l.fn.text ++ member_tokens l.name (object (labels_members (map (λ pair. pair.now) l.pairs)))
