use Rattle.am_agenda.proofs.Keeping.{none_kept, planned_none}
use Rattle.am_agenda.proofs.agenda.Agenda.new.Goals as goal

pub invariant_of-result : goal.invariant_of-result
invariant_of-result c = rw c.new-4.ensures.timers (none_kept _ c.new-2.ensures c.new-3.ensures)

pub returns : goal.returns
returns c = λ t. planned_none t _ _ (c.in_ok-new.ensures t) (c.new-2.ensures t) (c.new-3.ensures t)
