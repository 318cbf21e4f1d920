use Rattle.am_store.proofs.Bests.{dropped_empty, put_best, put_joins}
use Rattle.am_store.proofs.laws.rows_are_the_best.Goals as goal

pub returns-clause-dropped : goal.returns-clause-dropped
returns-clause-dropped c = dropped_empty

pub returns-clause-put : goal.returns-clause-put
returns-clause-put c = put_joins

pub returns-clause-best : goal.returns-clause-best
returns-clause-best c = put_best
