use Rattle.am_draft.proofs.ForestLemmas.{forest_of-flat}
use Rattle.am_draft.proofs.laws.a_flat_list_holds_one_forest.Goals as goal

pub returns : goal.returns
returns c = forest_of-flat
