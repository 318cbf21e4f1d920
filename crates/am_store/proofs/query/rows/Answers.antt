use Rattle.sqlite.specs.Held.{state}
use Rattle.am_store.proofs.Asked.{query_excused}
use Rattle.am_store.proofs.Failing.{told}
use Rattle.am_store.proofs.Resting.{query_rests}
use Rattle.am_store.proofs.query.rows.Goals as goal

pub returns-in-Ok-clause-rests : goal.returns-in-Ok-clause-rests
returns-in-Ok-clause-rests g c bare = query_rests (state g.S.Store c.args.conn.now) (state g.S.Store c.query_all.new.self) _ _ c.query_all.result c.query_all.ensures.survives c.query_all.ensures.ok c.query_all.ensures.err bare

pub returns-in-Err-clause-rests : goal.returns-in-Err-clause-rests
returns-in-Err-clause-rests g c bare = query_rests (state g.S.Store c.args.conn.now) (state g.S.Store c.query_all.new.self) _ _ c.query_all.result c.query_all.ensures.survives c.query_all.ensures.ok c.query_all.ensures.err bare

pub returns-in-Err-clause-fails : goal.returns-in-Err-clause-fails
returns-in-Err-clause-fails g c clean has query =
    let old = state g.S.Store c.args.conn.now in
    let new = state g.S.Store c.query_all.new.self in
    let error = c.in-Err.error in
    told old new error c.failure_of.result c.failure_of.ensures.memory.1 c.failure_of.ensures.database (query_excused old new _ _ has query error (c.in-Err.ensures.err clean))
