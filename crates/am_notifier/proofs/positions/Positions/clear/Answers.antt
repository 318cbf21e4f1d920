use Rattle.am_notifier.proofs.PositionLemmas.{none_set}
use Rattle.am_notifier.proofs.positions.Positions.clear.Goals as goal

pub returns : goal.returns
returns c = λ t. none_set t c.clear.new.self.entries c.clear.ensures.empty
