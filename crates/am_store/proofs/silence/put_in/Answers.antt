use Rattle.std.proofs.Common.{rules}
use Rattle.sqlite.specs.Held.{state}
use Rattle.am_store.specs.Stored.{words_of}
use Rattle.am_store.proofs.Calls.{call_keeps, put_in_silence, put_silence_sound, was_inside}
use Rattle.am_store.proofs.Inserted.{silence_refused}
use Rattle.am_store.proofs.silence.put_in.Goals as goal

pub returns-clause-ok : goal.returns-clause-ok
returns-clause-ok g c clean has =
    let old = state g.S.Store c.args.tx.now.conn.now in
    let new = state g.S.Store c.execute.new.self.conn.now in
    let inside = was_inside old.in_transaction c.execute.result c.in_ok-execute.field-0 _ c.in_ok-execute.was c.execute.ensures.ended in
    put_in_silence old new c.in_ok-execute.field-0 c.args.tenant.now c.args.stamp.now (words_of c.args.id.now c.args.silence.now) has (rw c.columns.ensures.bound at (c.in_ok-execute.ensures.runs clean inside).0)

pub returns-clause-inside : goal.returns-clause-inside
returns-clause-inside g c clean = λ was. (c.in_ok-execute.ensures.runs clean was).1.mode

pub returns-in_err-execute-clause-kept : goal.returns-in_err-execute-clause-kept
returns-in_err-execute-clause-kept g c clean =
    call_keeps g.S.Store c.args.tx.now.conn.now c.execute.new.self.conn.now _ _ c.execute.result _ c.execute.ensures.ended (c.execute.ensures.runs clean)

pub returns-clause-sound : goal.returns-clause-sound
returns-clause-sound g c clean ready =
    let old = state g.S.Store c.args.tx.now.conn.now in
    let new = state g.S.Store c.execute.new.self.conn.now in
    put_silence_sound old new c.in_ok-execute.field-0 c.args.tenant.now c.args.stamp.now (words_of c.args.id.now c.args.silence.now) ready.store (rw c.columns.ensures.bound at (c.in_ok-execute.ensures.runs clean ready.inside).0)

pub returns-in_err-execute-clause-fails : goal.returns-in_err-execute-clause-fails
returns-in_err-execute-clause-fails g c clean ready =
    let old = state g.S.Store c.args.tx.now.conn.now in
    let new = state g.S.Store c.execute.new.self.conn.now in
    let excused = silence_refused old new ready.store.schema c.args.tenant.now c.args.stamp.now (words_of c.args.id.now c.args.silence.now) _ (rw c.columns.ensures.bound at (c.in_err-execute.ensures.runs clean ready.inside)) in
    search rules
