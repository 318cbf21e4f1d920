use Rattle.std.proofs.Common.{◌≡◌, inl, [], ◌∷◌, ap, get_or, length, refl, rules, subst, sym, ◌∙◌}
use Rattle.std.proofs.lemmas.Result.{on_ok_weaker}
use Rattle.sqlite.specs.Held.{state}
use Rattle.am_store.specs.Opening.{IsVersionRow}
use Rattle.am_store.specs.Rows.{IsStore}
use Rattle.am_store.specs.Texts.{select_version}
use Rattle.am_store.proofs.Asked.{asks_version}
use Rattle.am_store.proofs.Failing.{caused_judged, tested}
use Rattle.am_store.proofs.Checks.{plain_at, single, version_checked}
use Rattle.am_store.proofs.Passing.{version_passes}
use Rattle.am_store.proofs.CompiledOpening.{select_version_plain}
use Rattle.am_store.proofs.opening.check_version.Goals as goal

pub returns-in_err-rows-clause-rests : goal.returns-in_err-rows-clause-rests
returns-in_err-rows-clause-rests g c has = c.rows.ensures.rests (λ clean. plain_at (state g.S.Store c.args.conn.now) select_version (has clean) select_version_plain)

pub returns-then-len-ne1-clause-rests : goal.returns-then-len-ne1-clause-rests
returns-then-len-ne1-clause-rests g c has = c.rows.ensures.rests (λ clean. plain_at (state g.S.Store c.args.conn.now) select_version (has clean) select_version_plain)

pub returns-clause-rests : goal.returns-clause-rests
returns-clause-rests g c has = c.rows.ensures.rests (λ clean. plain_at (state g.S.Store c.args.conn.now) select_version (has clean) select_version_plain)

pub returns-clause-ok : goal.returns-clause-ok
returns-clause-ok g c clean has =
    let old = state g.S.Store c.args.conn.now in
    let new = state g.S.Store c.rows.new.conn in
    let rows = c.in_ok-rows.rows.items in
    let one : rows ≡ c.index.result.now ∷ [] = single rows c.index.result.now (search rules) c.index.ensures in
    on_ok_weaker c.test_version.result (λ is. version_checked old new has rows c.index.result.now (c.in_ok-rows.ensures.shown clean) one is) c.test_version.ensures.ok

pub returns-then-len-ne1-clause-fails : goal.returns-then-len-ne1-clause-fails
returns-then-len-ne1-clause-fails g c clean has =
    let old = state g.S.Store c.args.conn.now in
    let new = state g.S.Store c.rows.new.conn in
    let rows = c.in_ok-rows.rows.items in
    let no_store : IsStore old.now → ⊥ = λ store. (let one : length rows ≡ 1 = ap length (version_passes old new store rows (c.in_ok-rows.ensures.shown clean)) in search rules) in
    inl (refl, no_store)

pub returns-clause-fails : goal.returns-clause-fails
returns-clause-fails g c clean has =
    let old = state g.S.Store c.args.conn.now in
    let new = state g.S.Store c.rows.new.conn in
    let rows = c.in_ok-rows.rows.items in
    let row = c.index.result.now in
    tested old new c.test_version.result c.test_version.ensures.foreign (λ store.
    let same = c.index.ensures ∙ ap (λ xs. get_or xs 0 row) (version_passes old new store rows (c.in_ok-rows.ensures.shown clean)) in
    c.test_version.ensures.given (subst IsVersionRow (sym same) (record { id = store.version.0; id_is = refl; number = refl })))

pub returns-in_err-rows-clause-fails : goal.returns-in_err-rows-clause-fails
returns-in_err-rows-clause-fails g c clean has =
    let judged = caused_judged (state g.S.Store c.args.conn.now) (state g.S.Store c.rows.new.conn) _ (c.in_err-rows.ensures.fails clean has asks_version) in
    search rules
