use Rattle.am_cluster.proofs.Quiet.{opened_unnamed, say_nothing, stay_unnamed}
use Rattle.am_cluster.proofs.laws.unnamed_tenants.Goals as goal

pub returns-clause-opened : goal.returns-clause-opened
returns-clause-opened c = opened_unnamed

pub returns-clause-stay : goal.returns-clause-stay
returns-clause-stay c = stay_unnamed

pub returns-clause-silent : goal.returns-clause-silent
returns-clause-silent c = say_nothing
