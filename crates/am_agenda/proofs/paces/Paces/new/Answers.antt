use Rattle.am_agenda.proofs.PaceLemmas.{none_set}
use Rattle.am_agenda.proofs.paces.Paces.new.Goals as goal

pub returns : goal.returns
returns c = λ t. none_set t c.new.result.entries c.new.ensures.empty
