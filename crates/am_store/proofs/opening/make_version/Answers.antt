use Rattle.std.proofs.Common.{rules}
use Rattle.sqlite.specs.Held.{state}
use Rattle.am_store.proofs.Calls.{was_inside}
use Rattle.am_store.proofs.Founding.{made_version}
use Rattle.am_store.proofs.Makeable.{version_excused}
use Rattle.am_store.proofs.opening.make_version.Goals as goal

pub returns-clause-ok : goal.returns-clause-ok
returns-clause-ok g c clean has =
    let old = state g.S.Store c.args.tx.now.conn.now in
    let new = state g.S.Store c.execute.new.self.conn.now in
    let inside = was_inside old.in_transaction c.execute.result c.in_ok-execute.field-0 _ c.in_ok-execute.was c.execute.ensures.ended in
    made_version old new c.in_ok-execute.field-0 has (c.in_ok-execute.ensures.runs clean inside).0

pub returns-clause-inside : goal.returns-clause-inside
returns-clause-inside g c clean = λ was. (c.in_ok-execute.ensures.runs clean was).1.mode

pub returns-in_err-execute-clause-fails : goal.returns-in_err-execute-clause-fails
returns-in_err-execute-clause-fails g c clean inside has =
    let old = state g.S.Store c.args.tx.now.conn.now in
    let new = state g.S.Store c.execute.new.self.conn.now in
    let excused = version_excused old new has _ (c.in_err-execute.ensures.runs clean inside) in
    search rules
