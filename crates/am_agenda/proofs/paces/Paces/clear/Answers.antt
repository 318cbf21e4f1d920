use Rattle.am_agenda.proofs.PaceLemmas.{none_set}
use Rattle.am_agenda.proofs.paces.Paces.clear.Goals as goal

pub returns : goal.returns
returns c = λ t. none_set t c.clear.new.self.entries c.clear.ensures.empty
