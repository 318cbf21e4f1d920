use Rattle.std.proofs.lemmas.Result.{on_ok_weaker}
use Rattle.sqlite.specs.Held.{state}
use Rattle.am_store.proofs.Gone.{silence_gone}
use Rattle.am_store.proofs.commit.take_silence.Goals as goal

pub returns-clause-ok : goal.returns-clause-ok
returns-clause-ok g c clean store =
    let old = state g.S.Store c.args.tx.now.conn.now in
    let new = state g.S.Store c.take_out.new.tx.conn.now in
    on_ok_weaker c.take_out.result
    (λ out. silence_gone old.now new.now c.args.tenant.now c.args.id.now c.text_of-id.ensures.back store out)
    (rw c.text_of-id.ensures.text at (c.take_out.ensures.ok clean store))
