use Rattle.std.proofs.Common.{◌≡◌, drop}
use Rattle.serde_json.specs.View.{items_view}
use Rattle.am_draft.specs.Rules.{rules_of}
use Rattle.am_text.proofs.OutcomeLemmas.{with_front}
use Rattle.am_draft.proofs.rule.rules_of.Given as goal

abbrev pub invariant-loop-value : goal.invariant-loop-value
invariant-loop-value l =
    with_front l.rules.items (rules_of (items_view (drop l.value-index l.values))) ≡ rules_of (items_view l.values)
