use Rattle.std.proofs.Common.{rules}
use Rattle.am_store.proofs.Dropped.{silences_excused}
use Rattle.sqlite.specs.Held.{state}
use Rattle.am_store.proofs.Calls.{took_out_silences, was_inside}
use Rattle.am_store.proofs.silence.take_out_all.Goals as goal

pub returns-clause-ok : goal.returns-clause-ok
returns-clause-ok g c clean store =
    let old = state g.S.Store c.args.tx.now.conn.now in
    let new = state g.S.Store c.execute.new.self.conn.now in
    let inside = was_inside old.in_transaction c.execute.result c.in_ok-execute.field-0 _ c.in_ok-execute.was c.execute.ensures.ended in
    took_out_silences old new c.in_ok-execute.field-0 c.args.tenant.now store (rw c.named.ensures.bound at (c.in_ok-execute.ensures.runs clean inside).0)

pub returns-clause-inside : goal.returns-clause-inside
returns-clause-inside g c clean = λ was. (c.in_ok-execute.ensures.runs clean was).1.mode

pub returns-in_err-execute-clause-fails : goal.returns-in_err-execute-clause-fails
returns-in_err-execute-clause-fails g c clean ready =
    let old = state g.S.Store c.args.tx.now.conn.now in
    let new = state g.S.Store c.execute.new.self.conn.now in
    let excused = silences_excused old new ready.store.schema ready.sound c.args.tenant.now _ (rw c.named.ensures.bound at (c.in_err-execute.ensures.runs clean ready.inside)) in
    search rules
