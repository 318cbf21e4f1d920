use Rattle.std.proofs.Common.{◌∙◌, ◌∷◌, []}
use Rattle.std.proofs.lemmas.Result.{IfErr-weaker}
use Rattle.sqlite.specs.declared.types.Value.TheVariants.{Text}
use Rattle.sqlite.specs.Held.{state}
use Rattle.am_store.specs.Texts.{select_silence_stamp}
use Rattle.am_store.proofs.Asked.{asks_silence_stamp, late_excused}
use Rattle.am_store.proofs.Calls.{silence_stamps, if_ok, on_ok, stamps_keep}
use Rattle.am_store.proofs.Compiled.{select_silence_stamp_plain}
use Rattle.am_store.proofs.silence.stamps.Goals as goal

pub returns-clause-ok : goal.returns-clause-ok
returns-clause-ok g c clean store =
    let old = state g.S.Store c.args.tx.now.conn.now in
    let new = state g.S.Store c.query_all.new.self.conn.now in
    if_ok _ _ c.query_all.result (λ rows shown. silence_stamps old new store c.args.tenant.now c.args.id.now rows.items shown) (rw c.keyed.ensures at (c.query_all.ensures.ok clean))

pub returns-clause-kept : goal.returns-clause-kept
returns-clause-kept g c clean store =
    let old = state g.S.Store c.args.tx.now.conn.now in
    let new = state g.S.Store c.query_all.new.self.conn.now in
    stamps_keep old new store select_silence_stamp _ c.query_all.result select_silence_stamp_plain (c.query_all.ensures.ok clean) (c.query_all.ensures.err clean)

pub returns-clause-inside : goal.returns-clause-inside
returns-clause-inside g c clean store =
    let old = state g.S.Store c.args.tx.now.conn.now in
    let new = state g.S.Store c.query_all.new.self.conn.now in
    on_ok _ _ c.query_all.result (λ rows shown was. (silence_stamps old new store c.args.tenant.now c.args.id.now rows.items shown).0.0.mode ∙ was) (rw c.keyed.ensures at (c.query_all.ensures.ok clean))

pub returns-clause-fails : goal.returns-clause-fails
returns-clause-fails g c clean store =
    let old = state g.S.Store c.args.tx.now.conn.now in
    let new = state g.S.Store c.query_all.new.self.conn.now in
    IfErr-weaker c.query_all.result _ _ (late_excused old new select_silence_stamp (Text c.args.tenant.now ∷ Text c.args.id.now ∷ []) store.schema (asks_silence_stamp c.args.tenant.now c.args.id.now)) (rw c.keyed.ensures at (c.query_all.ensures.err clean))
