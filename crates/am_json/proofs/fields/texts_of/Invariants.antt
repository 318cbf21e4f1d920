use Rattle.std.proofs.Common.{◌≡◌, drop}
use Rattle.serde_json.specs.View.{items_view}
use Rattle.am_text.proofs.OutcomeLemmas.{with_front}
use Rattle.am_json.specs.Reading.{texts_of}
use Rattle.am_json.proofs.fields.texts_of.Given as goal

abbrev pub invariant-loop-value : goal.invariant-loop-value
invariant-loop-value l =
    with_front l.texts.items (texts_of (items_view (drop l.value-index l.values))) ≡ texts_of (items_view l.values)
