use Rattle.std.proofs.Common.{◌∙◌, ◌∷◌, []}
use Rattle.std.proofs.lemmas.Result.{IfErr-weaker}
use Rattle.sqlite.specs.declared.types.Value.TheVariants.{Text}
use Rattle.sqlite.specs.Held.{state}
use Rattle.am_store.specs.Texts.{select_config_stamp}
use Rattle.am_store.proofs.Asked.{asks_config_stamp, late_excused}
use Rattle.am_store.proofs.Calls.{config_stamps, if_ok, on_ok, stamps_keep}
use Rattle.am_store.proofs.Compiled.{select_config_stamp_plain}
use Rattle.am_store.proofs.config.stamps.Goals as goal

pub returns-clause-ok : goal.returns-clause-ok
returns-clause-ok g c clean store =
    let old = state g.S.Store c.args.tx.now.conn.now in
    let new = state g.S.Store c.query_all.new.self.conn.now in
    if_ok _ _ c.query_all.result (λ rows shown. config_stamps old new store c.args.tenant.now rows.items shown) (rw c.named.ensures.bound at (c.query_all.ensures.ok clean))

pub returns-clause-kept : goal.returns-clause-kept
returns-clause-kept g c clean store =
    let old = state g.S.Store c.args.tx.now.conn.now in
    let new = state g.S.Store c.query_all.new.self.conn.now in
    stamps_keep old new store select_config_stamp _ c.query_all.result select_config_stamp_plain (c.query_all.ensures.ok clean) (c.query_all.ensures.err clean)

pub returns-clause-inside : goal.returns-clause-inside
returns-clause-inside g c clean store =
    let old = state g.S.Store c.args.tx.now.conn.now in
    let new = state g.S.Store c.query_all.new.self.conn.now in
    on_ok _ _ c.query_all.result (λ rows shown was. (config_stamps old new store c.args.tenant.now rows.items shown).0.0.mode ∙ was) (rw c.named.ensures.bound at (c.query_all.ensures.ok clean))

pub returns-clause-fails : goal.returns-clause-fails
returns-clause-fails g c clean store =
    let old = state g.S.Store c.args.tx.now.conn.now in
    let new = state g.S.Store c.query_all.new.self.conn.now in
    IfErr-weaker c.query_all.result _ _ (late_excused old new select_config_stamp (Text c.args.tenant.now ∷ []) store.schema (asks_config_stamp c.args.tenant.now)) (rw c.named.ensures.bound at (c.query_all.ensures.err clean))
