use Rattle.std.proofs.Common.{ap}
use Rattle.am_draft.proofs.ForestLemmas.{forest_of-flat}
use Rattle.am_config.specs.Inheriting.{defaults, inherited}
use Rattle.am_config.proofs.laws.routes_inherit.Goals as goal

pub returns : goal.returns
returns c = λ forest. ap (inherited 0 defaults) (forest_of-flat forest)
