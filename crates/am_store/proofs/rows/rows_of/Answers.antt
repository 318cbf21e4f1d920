use Rattle.std.proofs.Common.{◌≡◌, ◌++◌, ◌∙◌, ap, map, rules, subst, sym}
use Rattle.std.specs.List.Sorted.{IsPermutation}
use Rattle.sqlite.specs.Held.{state}
use Rattle.am_item.specs.Best.{IsRising}
use Rattle.am_item.specs.Key.{key_of}
use Rattle.am_store.proofs.Bests.{nothing_rises}
use Rattle.am_store.proofs.KeyOrder.{rise_front}
use Rattle.am_store.proofs.Failing.{given_fails}
use Rattle.am_store.specs.Reading.{GivesValue, KeysRise, config_key, silence_key}
use Rattle.am_store.specs.Rows.{config_in, silence_in}
use Rattle.am_store.specs.Stored.{stored_items}
use Rattle.am_store.proofs.Shelves.{rows_whole}
use Rattle.am_store.proofs.rows.rows_of.Goals as goal

pub returns-clause-rows : goal.returns-clause-rows
returns-clause-rows g c clean store =
    let is = (rw c.deref-2.ensures.value at c.in_ok-push_silences.ensures.items) ∙ ap (λ xs. xs ++ map (λ r. (silence_in r).1) c.in_ok-configs.silences.items) ((rw c.deref.ensures.value at c.in_ok-push_configs.ensures.items) ∙ ap (λ xs. stored_items xs ++ map (λ r. (config_in r).1) c.in_ok-configs.configs.items) c.new-items.ensures.items) in
    subst (IsPermutation _) (sym is) (c.in_ok-configs.ensures.rows clean store)

pub returns-clause-order : goal.returns-clause-order
returns-clause-order g c = c.in_ok-push_silences.ensures.rising (c.in_ok-push_configs.ensures.rising (subst IsRising (sym c.new-items.ensures.items) nothing_rises))

pub returns-in_err-push_configs-clause-fails : goal.returns-in_err-push_configs-clause-fails
returns-in_err-push_configs-clause-fails g c clean store =
    let order = c.in_ok-configs.ensures.order clean store in
    let cs = c.in_ok-configs.configs.items in
    let ss = c.in_ok-configs.silences.items in
    let rise : KeysRise (map key_of c.new-items.result.items ++ map config_key cs) =
    subst (λ xs. KeysRise (map key_of xs ++ map config_key cs)) (sym c.new-items.ensures.items) (rise_front (map config_key cs) (map silence_key ss) order.keys) in
    let read = c.in_err-push_configs.ensures.given (rw c.deref.ensures.value order.are_configs) (rw c.deref.ensures.value rise) in
    let given : GivesValue c.from_residual-in_err-push_configs.result = search rules in
    given_fails (state g.S.Store c.args.conn.now) (state g.S.Store c.found.new.conn) c.from_residual-in_err-push_configs.result given

pub returns-in_err-push_silences-clause-fails : goal.returns-in_err-push_silences-clause-fails
returns-in_err-push_silences-clause-fails g c clean store =
    let order = c.in_ok-configs.ensures.order clean store in
    let cs = c.in_ok-configs.configs.items in
    let ss = c.in_ok-configs.silences.items in
    let keys : map key_of c.push_configs.new.items.items ≡ map config_key cs =
    (rw c.deref.ensures.value at c.in_ok-push_configs.ensures.keys) ∙ ap (λ xs. map key_of xs ++ map config_key cs) c.new-items.ensures.items in
    let rise : KeysRise (map key_of c.push_configs.new.items.items ++ map silence_key ss) =
    subst (λ ks. KeysRise (ks ++ map silence_key ss)) (sym keys) order.keys in
    let read = c.in_err-push_silences.ensures.given (rw c.deref-2.ensures.value order.are_silences) (rw c.deref-2.ensures.value rise) in
    let given : GivesValue c.from_residual-in_err-push_silences.result = search rules in
    given_fails (state g.S.Store c.args.conn.now) (state g.S.Store c.found.new.conn) c.from_residual-in_err-push_silences.result given

pub returns-clause-stored : goal.returns-clause-stored
returns-clause-stored g c =
    let cs = c.in_ok-configs.configs.items in
    let ss = c.in_ok-configs.silences.items in
    let one : map key_of c.push_configs.new.items.items ≡ map config_key cs =
    (rw c.deref.ensures.value at c.in_ok-push_configs.ensures.keys) ∙ ap (λ xs. map key_of xs ++ map config_key cs) c.new-items.ensures.items in
    rows_whole _ cs ss ((rw c.deref-2.ensures.value at c.in_ok-push_silences.ensures.keys) ∙ ap (λ ks. ks ++ map silence_key ss) one)
