use Rattle.std.proofs.Common.{◌≡◌, drop}
use Rattle.serde_json.specs.View.{items_view}
use Rattle.am_text.proofs.OutcomeLemmas.{with_front}
use Rattle.am_silence.specs.Written.{matchers_of}
use Rattle.am_silence.proofs.fields.matchers_of.Given as goal

abbrev pub invariant-loop-value : goal.invariant-loop-value
invariant-loop-value l =
    with_front l.matchers.items (matchers_of (items_view (drop l.value-index l.values))) ≡ matchers_of (items_view l.values)
