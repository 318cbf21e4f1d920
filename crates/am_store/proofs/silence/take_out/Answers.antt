use Rattle.std.proofs.Common.{rules}
use Rattle.am_store.proofs.Dropped.{silence_excused}
use Rattle.sqlite.specs.Held.{state}
use Rattle.am_store.proofs.Calls.{silence_sound, took_out_silence, was_inside}
use Rattle.am_store.proofs.silence.take_out.Goals as goal

pub returns-clause-ok : goal.returns-clause-ok
returns-clause-ok g c clean store =
    let old = state g.S.Store c.args.tx.now.conn.now in
    let new = state g.S.Store c.execute.new.self.conn.now in
    let inside = was_inside old.in_transaction c.execute.result c.in_ok-execute.field-0 _ c.in_ok-execute.was c.execute.ensures.ended in
    took_out_silence old new c.in_ok-execute.field-0 c.args.tenant.now c.args.id.now store (rw c.keyed.ensures at (c.in_ok-execute.ensures.runs clean inside).0)

pub returns-clause-inside : goal.returns-clause-inside
returns-clause-inside g c clean = λ was. (c.in_ok-execute.ensures.runs clean was).1.mode

pub returns-in_err-execute-clause-fails : goal.returns-in_err-execute-clause-fails
returns-in_err-execute-clause-fails g c clean ready =
    let old = state g.S.Store c.args.tx.now.conn.now in
    let new = state g.S.Store c.execute.new.self.conn.now in
    let excused = silence_excused old new ready.store.schema ready.sound c.args.tenant.now c.args.id.now _ (rw c.keyed.ensures at (c.in_err-execute.ensures.runs clean ready.inside)) in
    search rules

pub returns-clause-sound : goal.returns-clause-sound
returns-clause-sound g c clean ready =
    let old = state g.S.Store c.args.tx.now.conn.now in
    let new = state g.S.Store c.execute.new.self.conn.now in
    silence_sound old new c.in_ok-execute.field-0 c.args.tenant.now c.args.id.now ready.store (rw c.keyed.ensures at (c.in_ok-execute.ensures.runs clean ready.inside).0)
