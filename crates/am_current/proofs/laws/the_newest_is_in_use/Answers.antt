use Rattle.am_current.proofs.Stays.{deletion_comes, other_comes, text_comes}
use Rattle.am_current.proofs.laws.the_newest_is_in_use.Goals as goal

pub returns-clause-text : goal.returns-clause-text
returns-clause-text c = text_comes

pub returns-clause-deleted : goal.returns-clause-deleted
returns-clause-deleted c = deletion_comes

pub returns-clause-others : goal.returns-clause-others
returns-clause-others c = other_comes
