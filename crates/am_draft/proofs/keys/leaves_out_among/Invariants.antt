use Rattle.std.proofs.Common.{◌≡◌, false}
use Rattle.serde_json.specs.View.{members_view}
use Rattle.am_draft.specs.Keys.{leaves_out_after}
use Rattle.am_draft.proofs.keys.leaves_out_among.Given as goal

abbrev pub invariant-loop-key : goal.invariant-loop-key
invariant-loop-key l =
    leaves_out_after l.place l.seen (members_view l.key-iterator) ≡ leaves_out_after l.place false (members_view l.members.entries)
