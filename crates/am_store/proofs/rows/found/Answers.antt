use Rattle.std.proofs.Common.{refl, rules, subst, sym, ◌∙◌}
use Rattle.sqlite.specs.Held.{state}
use Rattle.am_store.specs.Rows.{IsStore}
use Rattle.am_store.specs.Texts.{select_config, select_silences}
use Rattle.am_store.proofs.Asked.{asks_config, asks_tenant_silences}
use Rattle.am_store.proofs.Calls.{at_store}
use Rattle.am_store.proofs.Compiled.{select_config_plain, select_silences_plain}
use Rattle.am_store.proofs.Failing.{caused_then}
use Rattle.am_store.proofs.KeyOrder.{in_order}
use Rattle.am_store.proofs.Resting.{rests_then}
use Rattle.am_store.proofs.RowsOf.{all_rows, configs_shown, silences_shown}
use Rattle.am_store.proofs.rows.found.Goals as goal

pub returns-in_err-configs-clause-rests : goal.returns-in_err-configs-clause-rests
returns-in_err-configs-clause-rests g c store =
    let old = state g.S.Store c.args.conn.now in
    c.rows.ensures.rests (λ clean. at_store old old (store (c.rows.ensures.clean clean)) select_config select_config_plain)

pub returns-in_err-silences-clause-rests : goal.returns-in_err-silences-clause-rests
returns-in_err-silences-clause-rests g c store =
    let old = state g.S.Store c.args.conn.now in
    let mid = state g.S.Store c.rows.new.conn in
    let new = state g.S.Store c.rows-2.new.conn in
    rests_then old mid new (c.rows.ensures.rests (λ clean. at_store old old (store (c.rows.ensures.clean clean)) select_config select_config_plain))
    (c.rows-2.ensures.rests (λ clean.
    let clean_mid = c.rows-2.ensures.clean clean in
    let was = store (c.rows.ensures.clean clean_mid) in
    let one = configs_shown old mid was c.args.tenant.now c.in_ok-configs.configs.items (rw c.named.ensures.bound at (c.in_ok-configs.ensures.shown clean_mid)) in
    at_store mid mid (subst IsStore (sym one.0.0.now_is) was) select_silences select_silences_plain))

pub returns-clause-rests : goal.returns-clause-rests
returns-clause-rests g c store =
    let old = state g.S.Store c.args.conn.now in
    let mid = state g.S.Store c.rows.new.conn in
    let new = state g.S.Store c.rows-2.new.conn in
    rests_then old mid new (c.rows.ensures.rests (λ clean. at_store old old (store (c.rows.ensures.clean clean)) select_config select_config_plain))
    (c.rows-2.ensures.rests (λ clean.
    let clean_mid = c.rows-2.ensures.clean clean in
    let was = store (c.rows.ensures.clean clean_mid) in
    let one = configs_shown old mid was c.args.tenant.now c.in_ok-configs.configs.items (rw c.named.ensures.bound at (c.in_ok-configs.ensures.shown clean_mid)) in
    at_store mid mid (subst IsStore (sym one.0.0.now_is) was) select_silences select_silences_plain))

pub returns-clause-rows : goal.returns-clause-rows
returns-clause-rows g c clean store =
    let old = state g.S.Store c.args.conn.now in
    let mid = state g.S.Store c.rows.new.conn in
    let new = state g.S.Store c.rows-2.new.conn in
    let t = c.args.tenant.now in
    let one = configs_shown old mid store t c.in_ok-configs.configs.items (rw c.named.ensures.bound at (c.in_ok-configs.ensures.shown (c.rows-2.ensures.clean clean))) in
    let two = silences_shown mid new (subst IsStore (sym one.0.0.now_is) store) t c.in_ok-silences.silences.items (rw c.named-2.ensures.bound at (c.in_ok-silences.ensures.shown clean)) in
    all_rows old.now mid.now store one.0.0.now_is t c.in_ok-configs.configs.items c.in_ok-silences.silences.items _ one.1 two.1 refl

pub returns-clause-same : goal.returns-clause-same
returns-clause-same g c clean store =
    let old = state g.S.Store c.args.conn.now in
    let mid = state g.S.Store c.rows.new.conn in
    let new = state g.S.Store c.rows-2.new.conn in
    let t = c.args.tenant.now in
    let one = configs_shown old mid store t c.in_ok-configs.configs.items (rw c.named.ensures.bound at (c.in_ok-configs.ensures.shown (c.rows-2.ensures.clean clean))) in
    let two = silences_shown mid new (subst IsStore (sym one.0.0.now_is) store) t c.in_ok-silences.silences.items (rw c.named-2.ensures.bound at (c.in_ok-silences.ensures.shown clean)) in
    two.0.0.now_is ∙ one.0.0.now_is

pub returns-clause-order : goal.returns-clause-order
returns-clause-order g c clean store =
    let old = state g.S.Store c.args.conn.now in
    let mid = state g.S.Store c.rows.new.conn in
    let new = state g.S.Store c.rows-2.new.conn in
    let t = c.args.tenant.now in
    let cs = c.in_ok-configs.configs.items in
    let ss = c.in_ok-silences.silences.items in
    let one = rw c.named.ensures.bound at (c.in_ok-configs.ensures.shown (c.rows-2.ensures.clean clean)) in
    let two = rw c.named-2.ensures.bound at (c.in_ok-silences.ensures.shown clean) in
    let same = (configs_shown old mid store t cs one).0 in
    in_order old mid new store (c.schema-live.ensures.live same.0.was_open).0 same.0.now_is t cs ss one two

pub returns-in_err-configs-clause-fails : goal.returns-in_err-configs-clause-fails
returns-in_err-configs-clause-fails g c clean store =
    let caused = (rw c.named.ensures.bound at c.in_err-configs.ensures.fails) clean store.schema (asks_config c.args.tenant.now) in
    search rules

pub returns-in_err-silences-clause-fails : goal.returns-in_err-silences-clause-fails
returns-in_err-silences-clause-fails g c clean store =
    let old = state g.S.Store c.args.conn.now in
    let mid = state g.S.Store c.rows.new.conn in
    let new = state g.S.Store c.rows-2.new.conn in
    let t = c.args.tenant.now in
    let same = (configs_shown old mid store t c.in_ok-configs.configs.items (rw c.named.ensures.bound at (c.in_ok-configs.ensures.shown (c.rows-2.ensures.clean clean)))).0 in
    let read = (rw c.named-2.ensures.bound at c.in_err-silences.ensures.fails) clean (subst IsStore (sym same.0.now_is) store).schema (asks_tenant_silences t) in
    let caused = caused_then old mid new _ same (c.rows.ensures.rests (λ _. at_store old old store select_config select_config_plain)).survives _ read in
    search rules
