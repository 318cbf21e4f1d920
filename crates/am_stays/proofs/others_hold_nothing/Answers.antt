use Rattle.am_stays.proofs.Views.{others, newcomers}
use Rattle.am_stays.proofs.others_hold_nothing.Goals as goal

pub returns-clause-others : goal.returns-clause-others
returns-clause-others c = others

pub returns-clause-newcomers : goal.returns-clause-newcomers
returns-clause-newcomers c = newcomers
