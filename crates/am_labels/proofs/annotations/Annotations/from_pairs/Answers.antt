use Rattle.am_labels.proofs.Refusing.{value_of-annotations}
use Rattle.am_labels.proofs.annotations.Annotations.from_pairs.Goals as goal

pub returns-clause-values : goal.returns-clause-values
returns-clause-values c = value_of-annotations _ _ c.in_ok-labels.ensures.pairs
