use Rattle.std.proofs.Common.{rules}
use Rattle.std.specs.Ordering.{is_lt}
use Rattle.std.proofs.lemmas.List.Sorted.{answers_always}
use Rattle.am_labels.specs.Labels.{name_cmp}
use Rattle.am_labels.proofs.InOrder.{rising_by_answer}
use Rattle.am_labels.proofs.pairs.names_rise.Goals as goal

pub returns : goal.returns
returns c = rising_by_answer _ _ (c.is_sorted_by.ensures.cases (λ a b. is_lt (name_cmp a b)) (answers_always _ _ _ (λ f a r g k. search rules)))
