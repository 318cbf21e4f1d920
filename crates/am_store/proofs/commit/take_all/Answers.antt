use Rattle.std.proofs.lemmas.Result.{IfErr-weaker, on_ok_weaker}
use Rattle.sqlite.specs.Held.{state}
use Rattle.am_store.specs.Failing.{IsReady}
use Rattle.am_store.proofs.Calls.{clean_before}
use Rattle.am_store.proofs.Failing.{excused_after}
use Rattle.am_store.proofs.Gone.{mid_store, tenant_gone}
use Rattle.am_store.proofs.commit.take_all.Goals as goal

pub returns-clause-ok : goal.returns-clause-ok
returns-clause-ok g c clean store =
    let old = state g.S.Store c.args.tx.now.conn.now in
    let mid = state g.S.Store c.take_out.new.tx.conn.now in
    let new = state g.S.Store c.take_out_all.new.tx.conn.now in
    let clean_mid = clean_before mid new _ c.take_out_all.ensures.survives clean in
    let one = c.in_ok-take_out.ensures.ok clean_mid store in
    on_ok_weaker c.take_out_all.result (λ two. tenant_gone old.now mid.now new.now c.args.tenant.now store one two)
    (c.take_out_all.ensures.ok clean (mid_store old.now mid.now c.args.tenant.now store one))

pub returns-clause-fails : goal.returns-clause-fails
returns-clause-fails g c clean ready =
    let old = state g.S.Store c.args.tx.now.conn.now in
    let mid = state g.S.Store c.take_out.new.tx.conn.now in
    let new = state g.S.Store c.take_out_all.new.tx.conn.now in
    let clean_mid = clean_before mid new _ c.take_out_all.ensures.survives clean in
    let one = c.in_ok-take_out.ensures.ok clean_mid ready.store in
    let ready_mid : IsReady mid = record {
      store = mid_store old.now mid.now c.args.tenant.now ready.store one;
      sound = c.in_ok-take_out.ensures.sound clean_mid ready;
      inside = c.in_ok-take_out.ensures.inside clean_mid ready.inside;
    } in
    IfErr-weaker c.take_out_all.result _ _ (λ e. excused_after old mid new _ _ clean_mid c.take_out.ensures.survives c.take_out_all.ensures.survives e) (c.take_out_all.ensures.fails clean ready_mid)
