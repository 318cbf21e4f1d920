use Rattle.std.proofs.Common.{rules}
use Rattle.std.proofs.lemmas.Result.{on_ok_weaker}
use Rattle.sqlite.specs.Held.{state}
use Rattle.am_store.specs.Texts.{select_all_configs}
use Rattle.am_store.specs.Reading.{GivesValue, RefusesForeign}
use Rattle.am_store.specs.Rows.{IsStore}
use Rattle.am_store.proofs.Passing.{configs_pass}
use Rattle.am_store.proofs.Asked.{asks_configs}
use Rattle.am_store.proofs.Failing.{caused_judged, tested}
use Rattle.am_store.proofs.Checks.{configs_checked, plain_at}
use Rattle.am_store.proofs.CompiledOpening.{select_all_configs_plain}
use Rattle.am_store.proofs.opening.check_configs.Goals as goal

pub returns-in_err-rows-clause-rests : goal.returns-in_err-rows-clause-rests
returns-in_err-rows-clause-rests g c has = c.rows.ensures.rests (λ clean. plain_at (state g.S.Store c.args.conn.now) select_all_configs (has clean) select_all_configs_plain)

pub returns-in_err-test_configs-clause-rests : goal.returns-in_err-test_configs-clause-rests
returns-in_err-test_configs-clause-rests g c has = c.rows.ensures.rests (λ clean. plain_at (state g.S.Store c.args.conn.now) select_all_configs (has clean) select_all_configs_plain)

pub returns-clause-rests : goal.returns-clause-rests
returns-clause-rests g c has = c.rows.ensures.rests (λ clean. plain_at (state g.S.Store c.args.conn.now) select_all_configs (has clean) select_all_configs_plain)

pub returns-clause-ok : goal.returns-clause-ok
returns-clause-ok g c clean has =
    let old = state g.S.Store c.args.conn.now in
    let new = state g.S.Store c.rows.new.conn in
    let rows = c.in_ok-rows.rows.items in
    on_ok_weaker c.test_rowids.result (λ rising. configs_checked old new has rows (c.in_ok-rows.ensures.shown clean) (rw c.deref.ensures.value at c.in_ok-test_configs.ensures.ok) (rw c.deref-2.ensures.value at rising)) c.test_rowids.ensures.ok

pub returns-in_err-test_configs-clause-fails : goal.returns-in_err-test_configs-clause-fails
returns-in_err-test_configs-clause-fails g c clean has =
    let old = state g.S.Store c.args.conn.now in
    let new = state g.S.Store c.rows.new.conn in
    let foreign : RefusesForeign c.from_residual-in_err-test_configs.result = search rules in
    let given : IsStore old.now → GivesValue c.from_residual-in_err-test_configs.result = λ store.
    (let passed = configs_pass old new store c.in_ok-rows.rows.items (c.in_ok-rows.ensures.shown clean) in
    let read = c.in_err-test_configs.ensures.given (rw c.deref.ensures.value passed.all) in
    search rules) in
    tested old new c.from_residual-in_err-test_configs.result foreign given

pub returns-clause-fails : goal.returns-clause-fails
returns-clause-fails g c clean has =
    let old = state g.S.Store c.args.conn.now in
    let new = state g.S.Store c.rows.new.conn in
    tested old new c.test_rowids.result c.test_rowids.ensures.foreign (λ store.
    let passed = configs_pass old new store c.in_ok-rows.rows.items (c.in_ok-rows.ensures.shown clean) in
    c.test_rowids.ensures.given (rw c.deref-2.ensures.value passed.ids) (rw c.deref-2.ensures.value passed.rising))

pub returns-in_err-rows-clause-fails : goal.returns-in_err-rows-clause-fails
returns-in_err-rows-clause-fails g c clean has =
    let judged = caused_judged (state g.S.Store c.args.conn.now) (state g.S.Store c.rows.new.conn) _ (c.in_err-rows.ensures.fails clean has asks_configs) in
    search rules
