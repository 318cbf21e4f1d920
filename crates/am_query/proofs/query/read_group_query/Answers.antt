use Rattle.am_query.specs.Patterns.{patterns_of_group_query}
use Rattle.am_query.proofs.QueryLemmas.{asked_of}
use Rattle.am_query.proofs.query.read_group_query.Goals as goal

pub returns-clause-patterns : goal.returns-clause-patterns
unfolding patterns_of_group_query
returns-clause-patterns c =
    asked_of _ _ _ (rw (c.drop_unprocessed.ensures, c.in_ok-parameters.ensures) at c.query_of.ensures.read)

pub returns-clause-built : goal.returns-clause-built
unfolding patterns_of_group_query
returns-clause-built c = rw (c.drop_unprocessed.ensures, c.in_ok-parameters.ensures) at c.query_of.ensures.built
