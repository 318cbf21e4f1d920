use Rattle.am_stays.proofs.Views.{pairs, lists}
use Rattle.am_stays.proofs.acknowledged_writes_stay.Goals as goal

pub returns-clause-pairs : goal.returns-clause-pairs
returns-clause-pairs c = pairs

pub returns-clause-lists : goal.returns-clause-lists
returns-clause-lists c = lists
