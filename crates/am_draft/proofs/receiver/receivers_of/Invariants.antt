use Rattle.std.proofs.Common.{◌≡◌, drop}
use Rattle.serde_json.specs.View.{items_view}
use Rattle.am_draft.specs.Receivers.{receivers_of}
use Rattle.am_text.proofs.OutcomeLemmas.{with_front}
use Rattle.am_draft.proofs.receiver.receivers_of.Given as goal

abbrev pub invariant-loop-value : goal.invariant-loop-value
invariant-loop-value l =
    with_front l.receivers.items (receivers_of (items_view (drop l.value-index l.values))) ≡ receivers_of (items_view l.values)
