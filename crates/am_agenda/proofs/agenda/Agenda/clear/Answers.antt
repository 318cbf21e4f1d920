use Rattle.am_agenda.proofs.Keeping.{none_kept, planned_none}
use Rattle.am_agenda.proofs.agenda.Agenda.clear.Goals as goal

pub invariant_of-self : goal.invariant_of-self
invariant_of-self c = rw c.reset.ensures.timers (none_kept _ c.reset.ensures.groups c.reset.ensures.attempts)

pub returns : goal.returns
returns c = λ t. planned_none t _ _ (c.clear.ensures t) (c.reset.ensures.groups t) (c.reset.ensures.attempts t)
