use Rattle.am_query.specs.Patterns.{patterns_of_filters}
use Rattle.am_query.proofs.query.read_filters.Goals as goal

pub returns-clause-built : goal.returns-clause-built
unfolding patterns_of_filters
returns-clause-built c =
    rw (c.deref.ensures.value, c.keep_filters.ensures, c.in_ok-parameters.ensures) at c.matchers_in.ensures.built
