use Rattle.std.proofs.Common.{rules}
use Rattle.std.proofs.lemmas.Result.{IfErr-weaker, on_ok_weaker}
use Rattle.sqlite.specs.Held.{state}
use Rattle.am_store.proofs.Calls.{both_survive, clean_before}
use Rattle.am_store.proofs.Failing.{excused_after}
use Rattle.am_store.proofs.Founding.{founds, no_rows}
use Rattle.am_store.proofs.opening.make_tables.Goals as goal

pub returns-clause-ok : goal.returns-clause-ok
returns-clause-ok g c clean blank =
    let a = state g.S.Store c.args.tx.now.conn.now in
    let b = state g.S.Store c.make_version.new.tx.conn.now in
    let d = state g.S.Store c.make_config.new.tx.conn.now in
    let e = state g.S.Store c.make_silence.new.tx.conn.now in
    let f = state g.S.Store c.put_version.new.tx.conn.now in
    let clean_e = clean_before e f _ c.put_version.ensures.survives clean in
    let clean_d = clean_before d e _ c.make_silence.ensures.survives clean_e in
    let clean_b = clean_before b d _ c.make_config.ensures.survives clean_d in
    let one = c.in_ok-make_version.ensures.ok clean_b blank in
    let two = c.in_ok-make_config.ensures.ok clean_d one.schema in
    let none = no_rows a.now b.now d.now e.now one two (c.in_ok-make_silence.ensures.ok clean_e two.schema) in
    on_ok_weaker c.put_version.result (λ put. founds a.now e.now f.now blank none put) (c.put_version.ensures.ok clean none.schema)

pub returns-in_err-make_config-clause-fails : goal.returns-in_err-make_config-clause-fails
returns-in_err-make_config-clause-fails g c clean inside blank =
    let a = state g.S.Store c.args.tx.now.conn.now in
    let b = state g.S.Store c.make_version.new.tx.conn.now in
    let d = state g.S.Store c.make_config.new.tx.conn.now in
    let clean_b = clean_before b d _ c.make_config.ensures.survives clean in
    let one = c.in_ok-make_version.ensures.ok clean_b blank in
    let excused = excused_after a b d _ _ clean_b c.make_version.ensures.survives c.make_config.ensures.survives _
    (c.in_err-make_config.ensures.fails clean (c.in_ok-make_version.ensures.inside clean_b inside) one.schema) in
    search rules

pub returns-in_err-make_silence-clause-fails : goal.returns-in_err-make_silence-clause-fails
returns-in_err-make_silence-clause-fails g c clean inside blank =
    let a = state g.S.Store c.args.tx.now.conn.now in
    let b = state g.S.Store c.make_version.new.tx.conn.now in
    let d = state g.S.Store c.make_config.new.tx.conn.now in
    let e = state g.S.Store c.make_silence.new.tx.conn.now in
    let clean_d = clean_before d e _ c.make_silence.ensures.survives clean in
    let clean_b = clean_before b d _ c.make_config.ensures.survives clean_d in
    let one = c.in_ok-make_version.ensures.ok clean_b blank in
    let two = c.in_ok-make_config.ensures.ok clean_d one.schema in
    let within = c.in_ok-make_config.ensures.inside clean_d (c.in_ok-make_version.ensures.inside clean_b inside) in
    let before = both_survive a b d c.make_version.ensures.survives c.make_config.ensures.survives in
    let excused = excused_after a d e _ _ clean_d before c.make_silence.ensures.survives _ (c.in_err-make_silence.ensures.fails clean within two.schema) in
    search rules

pub returns-clause-fails : goal.returns-clause-fails
returns-clause-fails g c clean inside blank =
    let a = state g.S.Store c.args.tx.now.conn.now in
    let b = state g.S.Store c.make_version.new.tx.conn.now in
    let d = state g.S.Store c.make_config.new.tx.conn.now in
    let e = state g.S.Store c.make_silence.new.tx.conn.now in
    let f = state g.S.Store c.put_version.new.tx.conn.now in
    let clean_e = clean_before e f _ c.put_version.ensures.survives clean in
    let clean_d = clean_before d e _ c.make_silence.ensures.survives clean_e in
    let clean_b = clean_before b d _ c.make_config.ensures.survives clean_d in
    let one = c.in_ok-make_version.ensures.ok clean_b blank in
    let two = c.in_ok-make_config.ensures.ok clean_d one.schema in
    let none = no_rows a.now b.now d.now e.now one two (c.in_ok-make_silence.ensures.ok clean_e two.schema) in
    let within = c.in_ok-make_silence.ensures.inside clean_e (c.in_ok-make_config.ensures.inside clean_d (c.in_ok-make_version.ensures.inside clean_b inside)) in
    let before = both_survive a d e (both_survive a b d c.make_version.ensures.survives c.make_config.ensures.survives) c.make_silence.ensures.survives in
    IfErr-weaker c.put_version.result _ _ (λ error. excused_after a e f _ _ clean_e before c.put_version.ensures.survives error) (c.put_version.ensures.fails clean within none)
