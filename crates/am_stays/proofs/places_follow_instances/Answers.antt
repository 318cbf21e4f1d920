use Rattle.am_stays.proofs.Views.{epochs, places}
use Rattle.am_stays.proofs.places_follow_instances.Goals as goal

pub returns-clause-epochs : goal.returns-clause-epochs
returns-clause-epochs c = epochs

pub returns-clause-places : goal.returns-clause-places
returns-clause-places c = places
