use Rattle.am_group.proofs.LabelSets.{set_of_none}
use Rattle.am_group.proofs.grouping.group_by.Goals as goal

pub set_of-requires : goal.set_of-requires
set_of-requires c = rw c.new.ensures.items set_of_none
