use Rattle.std.specs.List.Sorted.{IsStrictlySortedBy}
use Rattle.am_agenda.proofs.grouping.take_out_of.Goals as goal

pub rebuild-requires : goal.rebuild-requires
unfolding IsStrictlySortedBy
rebuild-requires c = rw c.new.ensures.items tt
