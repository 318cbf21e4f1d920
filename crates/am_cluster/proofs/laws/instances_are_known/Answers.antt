use Rattle.am_cluster.proofs.Watched.{after_same, known_after, known_from_events, refused_same}
use Rattle.am_cluster.proofs.laws.instances_are_known.Goals as goal

pub returns-clause-refused : goal.returns-clause-refused
returns-clause-refused c = λ one other event same. refused_same event one other same

pub returns-clause-after : goal.returns-clause-after
returns-clause-after c = λ one other event same. after_same event one other same

pub returns-clause-event : goal.returns-clause-event
returns-clause-event c = known_after

pub returns-clause-all : goal.returns-clause-all
returns-clause-all c = known_from_events
