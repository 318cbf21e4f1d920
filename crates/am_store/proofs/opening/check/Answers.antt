use Rattle.std.proofs.Common.{◌≡◌, ◌∙◌, ap, rules}
use Rattle.std.proofs.lemmas.Result.{on_ok_weaker}
use Rattle.sqlite.specs.Effect.{Database}
use Rattle.sqlite.specs.Held.{state}
use Rattle.sqlite.specs.State.{HasCleanDisk}
use Rattle.am_store.specs.Tables.{store_schema}
use Rattle.am_store.proofs.Checks.{all_checked}
use Rattle.am_store.proofs.Failing.{judged_then, opens_then}
use Rattle.am_store.proofs.Resting.{rests_then}
use Rattle.am_store.proofs.opening.check.Goals as goal

pub returns-in_err-check_configs-clause-rests : goal.returns-in_err-check_configs-clause-rests
returns-in_err-check_configs-clause-rests g c =
    let a = state g.S.Store c.args.conn.now in
    let b = state g.S.Store c.check_version.new.conn in
    let d = state g.S.Store c.check_configs.new.conn in
    let has : a.now.schema ≡ store_schema = search rules in
    rests_then a b d (c.check_version.ensures.rests (λ _. has))
    (c.check_configs.ensures.rests (λ clean. ap (λ (db : Database). db.schema) (c.in_ok-check_version.ensures.ok (c.check_configs.ensures.clean clean) has).0.0.now_is ∙ has))

pub returns-clause-rests : goal.returns-clause-rests
returns-clause-rests g c =
    let a = state g.S.Store c.args.conn.now in
    let b = state g.S.Store c.check_version.new.conn in
    let d = state g.S.Store c.check_configs.new.conn in
    let e = state g.S.Store c.check_silences.new.conn in
    let has : a.now.schema ≡ store_schema = search rules in
    let at_b : HasCleanDisk b → b.now.schema ≡ store_schema = λ clean. ap (λ (db : Database). db.schema) (c.in_ok-check_version.ensures.ok clean has).0.0.now_is ∙ has in
    rests_then a b e (c.check_version.ensures.rests (λ _. has))
    (rests_then b d e (c.check_configs.ensures.rests (λ clean. at_b (c.check_configs.ensures.clean clean)))
    (c.check_silences.ensures.rests (λ clean.
    let clean_d = c.check_silences.ensures.clean clean in
    ap (λ (db : Database). db.schema) (c.in_ok-check_configs.ensures.ok clean_d (at_b (c.check_configs.ensures.clean clean_d))).0.0.now_is ∙ at_b (c.check_configs.ensures.clean clean_d))))

pub returns-clause-ok : goal.returns-clause-ok
returns-clause-ok g c clean =
    let a = state g.S.Store c.args.conn.now in
    let b = state g.S.Store c.check_version.new.conn in
    let d = state g.S.Store c.check_configs.new.conn in
    let e = state g.S.Store c.check_silences.new.conn in
    let has : a.now.schema ≡ store_schema = search rules in
    let clean_d = c.check_silences.ensures.clean clean in
    let clean_b = c.check_configs.ensures.clean clean_d in
    let one = c.in_ok-check_version.ensures.ok clean_b has in
    let at_b : b.now.schema ≡ store_schema = ap (λ (db : Database). db.schema) one.0.0.now_is ∙ has in
    let two = c.in_ok-check_configs.ensures.ok clean_d at_b in
    let at_d : d.now.schema ≡ store_schema = ap (λ (db : Database). db.schema) two.0.0.now_is ∙ at_b in
    on_ok_weaker c.check_silences.result (λ three. all_checked a b d e has c.schema.ensures.live one two three) (c.check_silences.ensures.ok clean at_d)

pub returns-in_err-check_configs-clause-fails : goal.returns-in_err-check_configs-clause-fails
returns-in_err-check_configs-clause-fails g c clean =
    let a = state g.S.Store c.args.conn.now in
    let b = state g.S.Store c.check_version.new.conn in
    let d = state g.S.Store c.check_configs.new.conn in
    let has : a.now.schema ≡ store_schema = search rules in
    let same = (c.in_ok-check_version.ensures.ok (c.check_configs.ensures.clean clean) has).0 in
    let read = c.in_err-check_configs.ensures.fails clean (ap (λ (db : Database). db.schema) same.0.now_is ∙ has) in
    let judged = judged_then a b d _ same (c.check_version.ensures.rests (λ _. has)).survives _ read in
    search rules

pub returns-clause-fails : goal.returns-clause-fails
returns-clause-fails g c clean =
    let a = state g.S.Store c.args.conn.now in
    let b = state g.S.Store c.check_version.new.conn in
    let d = state g.S.Store c.check_configs.new.conn in
    let e = state g.S.Store c.check_silences.new.conn in
    let has : a.now.schema ≡ store_schema = search rules in
    let clean_d = c.check_silences.ensures.clean clean in
    let one = (c.in_ok-check_version.ensures.ok (c.check_configs.ensures.clean clean_d) has).0 in
    let at_b : b.now.schema ≡ store_schema = ap (λ (db : Database). db.schema) one.0.now_is ∙ has in
    let two = (c.in_ok-check_configs.ensures.ok clean_d at_b).0 in
    let at_d : d.now.schema ≡ store_schema = ap (λ (db : Database). db.schema) two.0.now_is ∙ at_b in
    opens_then a b e _ one (c.check_version.ensures.rests (λ _. has)).survives c.check_silences.result
    (opens_then b d e _ two (c.check_configs.ensures.rests (λ _. at_b)).survives c.check_silences.result (c.check_silences.ensures.fails clean at_d))
