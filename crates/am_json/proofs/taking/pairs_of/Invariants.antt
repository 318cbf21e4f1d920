use Rattle.std.proofs.Common.{◌≡◌}
use Rattle.serde_json.specs.View.{members_view}
use Rattle.am_text.proofs.OutcomeLemmas.{with_front}
use Rattle.am_json.specs.Reading.{pairs_of}
use Rattle.am_json.proofs.taking.pairs_of.Given as goal

abbrev pub invariant-loop-name : goal.invariant-loop-name
invariant-loop-name l =
    with_front l.pairs.items (pairs_of (members_view l.name-iterator)) ≡ pairs_of (members_view l.fn.members.entries)
