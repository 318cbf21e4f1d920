use Rattle.std.proofs.Common.{rules, subst, sym, ◌∙◌}
use Rattle.sqlite.specs.Held.{state}
use Rattle.am_store.specs.Rows.{IsStore}
use Rattle.am_store.specs.Texts.{select_config_tenants, select_silence_tenants}
use Rattle.am_store.proofs.Asked.{asks_config_tenants, asks_silence_tenants}
use Rattle.am_store.proofs.Calls.{at_store}
use Rattle.am_store.proofs.CompiledOpening.{select_config_tenants_plain, select_silence_tenants_plain}
use Rattle.am_store.proofs.Failing.{caused_then}
use Rattle.am_store.proofs.Named.{both_named, configs_all_named, configs_named, silences_all_named, silences_named}
use Rattle.am_store.proofs.Resting.{rests_then}
use Rattle.am_store.proofs.tenants.named.Goals as goal

pub returns-in_err-configs-clause-rests : goal.returns-in_err-configs-clause-rests
returns-in_err-configs-clause-rests g c store =
    let old = state g.S.Store c.args.conn.now in
    c.rows.ensures.rests (λ clean. at_store old old (store (c.rows.ensures.clean clean)) select_config_tenants select_config_tenants_plain)

pub returns-in_err-silences-clause-rests : goal.returns-in_err-silences-clause-rests
returns-in_err-silences-clause-rests g c store =
    let old = state g.S.Store c.args.conn.now in
    let mid = state g.S.Store c.rows.new.conn in
    let new = state g.S.Store c.rows-2.new.conn in
    rests_then old mid new (c.rows.ensures.rests (λ clean. at_store old old (store (c.rows.ensures.clean clean)) select_config_tenants select_config_tenants_plain))
    (c.rows-2.ensures.rests (λ clean.
    let clean_mid = c.rows-2.ensures.clean clean in
    let was = store (c.rows.ensures.clean clean_mid) in
    at_store mid mid (subst IsStore (sym (configs_named old mid was c.in_ok-configs.configs.items (c.in_ok-configs.ensures.shown clean_mid)).0.0.now_is) was) select_silence_tenants select_silence_tenants_plain))

pub returns-clause-rests : goal.returns-clause-rests
returns-clause-rests g c store =
    let old = state g.S.Store c.args.conn.now in
    let mid = state g.S.Store c.rows.new.conn in
    let new = state g.S.Store c.rows-2.new.conn in
    rests_then old mid new (c.rows.ensures.rests (λ clean. at_store old old (store (c.rows.ensures.clean clean)) select_config_tenants select_config_tenants_plain))
    (c.rows-2.ensures.rests (λ clean.
    let clean_mid = c.rows-2.ensures.clean clean in
    let was = store (c.rows.ensures.clean clean_mid) in
    at_store mid mid (subst IsStore (sym (configs_named old mid was c.in_ok-configs.configs.items (c.in_ok-configs.ensures.shown clean_mid)).0.0.now_is) was) select_silence_tenants select_silence_tenants_plain))

pub returns-clause-names : goal.returns-clause-names
returns-clause-names g c clean store =
    let old = state g.S.Store c.args.conn.now in
    let mid = state g.S.Store c.rows.new.conn in
    let new = state g.S.Store c.rows-2.new.conn in
    let one = configs_named old mid store c.in_ok-configs.configs.items (c.in_ok-configs.ensures.shown (c.rows-2.ensures.clean clean)) in
    let same_db = one.0.0.now_is in
    let two = silences_named mid new (subst IsStore (sym same_db) store) c.in_ok-silences.silences.items (c.in_ok-silences.ensures.shown clean) in
    both_named old.now mid.now same_db c.in_ok-configs.configs.items c.in_ok-silences.silences.items one.1 two.1

pub returns-clause-same : goal.returns-clause-same
returns-clause-same g c clean store =
    let old = state g.S.Store c.args.conn.now in
    let mid = state g.S.Store c.rows.new.conn in
    let new = state g.S.Store c.rows-2.new.conn in
    let one = configs_named old mid store c.in_ok-configs.configs.items (c.in_ok-configs.ensures.shown (c.rows-2.ensures.clean clean)) in
    let two = silences_named mid new (subst IsStore (sym one.0.0.now_is) store) c.in_ok-silences.silences.items (c.in_ok-silences.ensures.shown clean) in
    two.0.0.now_is ∙ one.0.0.now_is

pub returns-clause-named : goal.returns-clause-named
returns-clause-named g c clean store =
    let old = state g.S.Store c.args.conn.now in
    let mid = state g.S.Store c.rows.new.conn in
    let new = state g.S.Store c.rows-2.new.conn in
    let shown = c.in_ok-configs.ensures.shown (c.rows-2.ensures.clean clean) in
    let same_db = (configs_named old mid store c.in_ok-configs.configs.items shown).0.0.now_is in (
      configs_all_named old mid store c.in_ok-configs.configs.items shown,
      silences_all_named mid new (subst IsStore (sym same_db) store) c.in_ok-silences.silences.items (c.in_ok-silences.ensures.shown clean),
    )

pub returns-in_err-configs-clause-fails : goal.returns-in_err-configs-clause-fails
returns-in_err-configs-clause-fails g c clean store =
    let caused = c.in_err-configs.ensures.fails clean store.schema asks_config_tenants in
    search rules

pub returns-in_err-silences-clause-fails : goal.returns-in_err-silences-clause-fails
returns-in_err-silences-clause-fails g c clean store =
    let old = state g.S.Store c.args.conn.now in
    let mid = state g.S.Store c.rows.new.conn in
    let new = state g.S.Store c.rows-2.new.conn in
    let same = (configs_named old mid store c.in_ok-configs.configs.items (c.in_ok-configs.ensures.shown (c.rows-2.ensures.clean clean))).0 in
    let read = c.in_err-silences.ensures.fails clean (subst IsStore (sym same.0.now_is) store).schema asks_silence_tenants in
    let caused = caused_then old mid new _ same (c.rows.ensures.rests (λ _. at_store old old store select_config_tenants select_config_tenants_plain)).survives _ read in
    search rules
