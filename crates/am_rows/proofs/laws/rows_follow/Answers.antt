use Rattle.am_rows.proofs.Following.{drop_follows, put_follows}
use Rattle.am_rows.proofs.laws.rows_follow.Goals as goal

pub returns-clause-put : goal.returns-clause-put
returns-clause-put c = put_follows

pub returns-clause-dropped : goal.returns-clause-dropped
returns-clause-dropped c = drop_follows
