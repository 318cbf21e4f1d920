use Rattle.std.proofs.Common.{sym, ◌∙◌}
use Rattle.std.proofs.lemmas.Bool.{true_from_ne_false, false≢true}
use Rattle.am_labels.specs.Labels.{is_label_name}
use Rattle.am_labels.proofs.Rules.{list_all-IsPermutation}
use Rattle.am_labels.proofs.Values.{rising_from_sort}
use Rattle.am_labels.proofs.Refusing.{annotations-bad_name, annotations-repeated, annotations-rising, annotations-sorted}
use Rattle.am_labels.proofs.pairs.read_pairs.Goals as goal

pub returns-then-not-are_label_names-clause-pairs : goal.returns-then-not-are_label_names-clause-pairs
returns-then-not-are_label_names-clause-pairs c = annotations-bad_name _ (rw c.deref.ensures.value at (sym c.if-not-are_label_names.ensures))

pub returns-then-names_rise-clause-pairs : goal.returns-then-names_rise-clause-pairs
returns-then-names_rise-clause-pairs c =
    annotations-rising _ (rw c.deref.ensures.value at (sym c.if-not-are_label_names.ensures))
    (rw c.deref-2.ensures.value at (c.names_rise.ensures.0 c.if-names_rise.true))

pub returns-then-names_rise-2-clause-pairs : goal.returns-then-names_rise-2-clause-pairs
returns-then-names_rise-2-clause-pairs c =
    let named = rw c.deref.ensures.value at (sym c.if-not-are_label_names.ensures) in
    let rising = rw c.deref-3.ensures.value at (c.names_rise-2.ensures.0 c.if-names_rise-2.true) in
    annotations-sorted _ _ named c.sort.ensures.permutation rising

pub returns-then-names_rise-2-clause-rules : goal.returns-then-names_rise-2-clause-rules
returns-then-names_rise-2-clause-rules c = record {
  names = sym (list_all-IsPermutation (λ label. is_label_name label.name) _ _ c.sort.ensures.permutation) ∙ rw c.deref.ensures.value at (sym c.if-not-are_label_names.ensures);
  rising = rw c.deref-3.ensures.value at (c.names_rise-2.ensures.0 c.if-names_rise-2.true);
}

pub returns-else-names_rise-2-clause-pairs : goal.returns-else-names_rise-2-clause-pairs
returns-else-names_rise-2-clause-pairs c =
    let named = rw c.deref.ensures.value at (sym c.if-not-are_label_names.ensures) in
    let twice = true_from_ne_false _ (λ once. absurd (false≢true (sym c.if-names_rise-2.false ∙ c.names_rise-2.ensures.1 (rw c.deref-3.ensures.value (rising_from_sort _ _ c.sort.ensures.permutation c.in_ok-sort.ensures.sorted once))))) in
    annotations-repeated _ named twice
