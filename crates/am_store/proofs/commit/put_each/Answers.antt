use Rattle.std.proofs.Common.{IfErr, rules, sym, subst, ◌∙◌}
use Rattle.std.proofs.lemmas.Result.{IfErr-weaker}
use Rattle.sqlite.specs.Held.{state}
use Rattle.sqlite.proofs.InsideLemmas.{keeps_then}
use Rattle.sqlite.proofs.StateLemmas.{survives_then}
use Rattle.am_store.specs.Failing.{IsPutExcused, IsReady, PutsEach}
use Rattle.am_store.specs.Steps.{Stores}
use Rattle.am_store.specs.Stored.{stored_items}
use Rattle.am_store.proofs.Calls.{clean_before}
use Rattle.am_store.proofs.Puts.{put_excused_within, puts_then, stored_around, stored_more}
use Rattle.am_store.proofs.Stores.{stores_then}
use Rattle.am_store.proofs.commit.put_each.Goals as goal

pub loop-item-preserved : goal.loop-item-preserved
loop-item-preserved g c =
    let start = state g.S.Store c.args.tx.now.conn.now in
    let now = state g.S.Store c.loop-item.tx.conn.now in
    let next = state g.S.Store c.put_one.new.tx.conn.now in
    let inv = c.loop-item.invariant in
    let t = c.args.tenant.now in
    record {
      same = c.put_one.ensures.same_reference ∙ inv.same;
      survives = survives_then start now next (λ _. ⊥) (λ _. ⊥) (λ _. ⊥) (λ _ db none. none) (λ _ db none. none) inv.survives c.put_one.ensures.survives;
      kept = λ clean store.
          let before = clean_before now next _ c.put_one.ensures.survives clean in
          keeps_then start now next (inv.kept before store) (c.put_one.ensures.kept clean (inv.goes before store).store);
      inside = λ clean store was.
          let before = clean_before now next _ c.put_one.ensures.survives clean in
          c.in_ok-put_one.ensures.inside clean (inv.goes before store).store (inv.inside before store was);
      goes = λ clean store.
          let before = clean_before now next _ c.put_one.ensures.survives clean in
          subst (λ xs. Stores t xs start.now next.now) (sym (stored_more c.args.items.now c.loop-item.item-index c.item-item.result c.loop-item-test.true c.item-item.is))
          (stores_then start.now now.now next.now t _ _ (inv.goes before store) (c.in_ok-put_one.ensures.ok clean (inv.goes before store).store));
      sound = λ clean ready.
          let before = clean_before now next _ c.put_one.ensures.survives clean in
          c.in_ok-put_one.ensures.sound clean (record { store = (inv.goes before ready.store).store; sound = inv.sound before ready; inside = inv.inside before ready.store ready.inside });
      puts = λ clean store.
          let before = clean_before now next _ c.put_one.ensures.survives clean in
          subst (λ xs. PutsEach t xs start.now next.now) (sym (stored_more c.args.items.now c.loop-item.item-index c.item-item.result c.loop-item-test.true c.item-item.is))
          (puts_then t _ _ start.now now.now next.now (inv.puts before store) (c.in_ok-put_one.ensures.puts clean (inv.goes before store).store));
    }

pub returns-in_err-put_one-clause-fails : goal.returns-in_err-put_one-clause-fails
returns-in_err-put_one-clause-fails g c clean ready =
    let start = state g.S.Store c.args.tx.now.conn.now in
    let now = state g.S.Store c.loop-item.tx.conn.now in
    let next = state g.S.Store c.put_one.new.tx.conn.now in
    let inv = c.loop-item.invariant in
    let t = c.args.tenant.now in
    let before = clean_before now next _ c.put_one.ensures.survives clean in
    let ready_now : IsReady now = record { store = (inv.goes before ready.store).store; sound = inv.sound before ready; inside = inv.inside before ready.store ready.inside } in
    let around = stored_around c.args.items.now c.loop-item.item-index c.item-item.result c.loop-item-test.true c.item-item.is in
    let excused : IfErr c.put_one.result (IsPutExcused t (stored_items c.args.items.now) start next) =
    subst (λ xs. IfErr c.put_one.result (IsPutExcused t xs start next)) (sym around)
    (IfErr-weaker c.put_one.result _ _ (λ e. put_excused_within start now next _ _ before inv.survives c.put_one.ensures.survives t _ _ _ e (inv.puts before ready.store)) (c.put_one.ensures.fails clean ready_now)) in
    search rules
