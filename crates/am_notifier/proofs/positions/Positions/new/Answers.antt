use Rattle.am_notifier.proofs.PositionLemmas.{none_set}
use Rattle.am_notifier.proofs.positions.Positions.new.Goals as goal

pub returns : goal.returns
returns c = λ t. none_set t c.new.result.entries c.new.ensures.empty
