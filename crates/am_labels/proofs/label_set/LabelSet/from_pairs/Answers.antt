use Rattle.std.proofs.Common.{◌≡◌, ◌∙◌, ap, sym, filter, rules}
use Rattle.std.proofs.lemmas.List.Elements.{filter_from_retain}
use Rattle.am_text.proofs.OutcomeLemmas.{gives-failed}
use Rattle.am_labels.specs.Flat.{flat_text}
use Rattle.am_labels.specs.Labels.{has_value}
use Rattle.am_labels.proofs.Refusing.{fails-label_set, label_set_of, made_of, value_of-label_set}
use Rattle.am_labels.proofs.Rules.{set_from_annotations}
use Rattle.am_labels.proofs.label_set.LabelSet.from_pairs.Goals as goal

-- the labels are those that `retain` kept
held : (c : goal.In_ok-new) → c.in_ok-new.field-0.value.labels.items ≡ c.retain.new.self.items
held c = ap (λ p. p.labels.items) c.in_ok-new.ensures.ok

-- `retain` keeps the labels that have a value
retain-has_value : (c : goal.In_ok-new) → c.in_ok-new.field-0.value.labels.items ≡ filter has_value c.in_ok-held.held.items
retain-has_value c = held c ∙ filter_from_retain _ has_value (λ p x b q k. search rules) _ _ _ c.retain.ensures.filtered

pub invariant_of-result : goal.invariant_of-result
invariant_of-result c = (
  rw (retain-has_value c) (set_from_annotations _ c.in_ok-held.ensures.rules),
  ap (λ p. p.flat) c.in_ok-new.ensures.ok ∙ c.in_ok-flat.ensures ∙ ap flat_text (c.deref.ensures.value ∙ sym (held c)),
)

pub returns-clause-set : goal.returns-clause-set
returns-clause-set c = rw (retain-has_value c) (label_set_of _ _ c.in_ok-held.ensures.pairs)

pub returns-clause-values : goal.returns-clause-values
returns-clause-values c = rw (retain-has_value c) (value_of-label_set _ _ c.in_ok-held.ensures.pairs)

pub returns-in_err-held-clause-set : goal.returns-in_err-held-clause-set
returns-in_err-held-clause-set c =
    gives-failed _ _ _ _ c.from_residual.ensures.1 (fails-label_set _ _ c.in_err-held.ensures.pairs)

pub returns-in_err-flat-clause-memory : goal.returns-in_err-flat-clause-memory
returns-in_err-flat-clause-memory c = λ refused. (made_of _ _ c.in_ok-held.ensures.pairs).0

pub returns-in_err-new-clause-memory : goal.returns-in_err-new-clause-memory
returns-in_err-new-clause-memory c = λ refused. (made_of _ _ c.in_ok-held.ensures.pairs).0
