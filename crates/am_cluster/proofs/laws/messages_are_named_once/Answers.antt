use Rattle.am_cluster.proofs.Named.{names_are_given_once}
use Rattle.am_cluster.proofs.laws.messages_are_named_once.Goals as goal

pub returns : goal.returns
returns c = names_are_given_once
