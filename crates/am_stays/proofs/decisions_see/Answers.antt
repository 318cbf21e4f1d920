use Rattle.am_stays.proofs.Views.{decisions}
use Rattle.am_stays.proofs.decisions_see.Goals as goal

pub returns : goal.returns
returns c = decisions
