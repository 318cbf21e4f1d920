use Rattle.am_cluster.proofs.Posted.{found_before, posted_earlier, posted_given_up, sent_is_found}
use Rattle.am_cluster.proofs.laws.messages_are_found_once.Goals as goal

pub returns-clause-found : goal.returns-clause-found
returns-clause-found c = sent_is_found

pub returns-clause-before : goal.returns-clause-before
returns-clause-before c = found_before

pub returns-clause-given_up : goal.returns-clause-given_up
returns-clause-given_up c = λ clock from incarnation to count sent. posted_given_up from incarnation to count clock sent

pub returns-clause-lost : goal.returns-clause-lost
returns-clause-lost c = posted_earlier
