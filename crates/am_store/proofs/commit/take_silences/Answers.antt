use Rattle.std.proofs.Common.{IfErr, rules, sym, subst, ◌∙◌}
use Rattle.sqlite.specs.Held.{state}
use Rattle.sqlite.proofs.InsideLemmas.{keeps_then}
use Rattle.sqlite.proofs.StateLemmas.{survives_then}
use Rattle.std.proofs.lemmas.List.{take_more}
use Rattle.std.proofs.lemmas.Result.{IfErr-weaker}
use Rattle.am_store.specs.Failing.{IsExcused, IsReady}
use Rattle.am_store.proofs.Failing.{excused_after}
use Rattle.am_store.specs.Steps.{RemovesEach}
use Rattle.am_store.proofs.Calls.{clean_before}
use Rattle.am_store.proofs.Removed.{each_store, each_then}
use Rattle.am_store.proofs.commit.take_silences.Goals as goal

pub loop-tenant-preserved : goal.loop-tenant-preserved
loop-tenant-preserved g c =
    let start = state g.S.Store c.args.tx.now.conn.now in
    let now = state g.S.Store c.loop-tenant.tx.conn.now in
    let next = state g.S.Store c.take_silence.new.tx.conn.now in
    let inv = c.loop-tenant.invariant in
    record {
      same = c.take_silence.ensures.same_reference ∙ inv.same;
      survives = survives_then start now next (λ _. ⊥) (λ _. ⊥) (λ _. ⊥) (λ _ db none. none) (λ _ db none. none) inv.survives c.take_silence.ensures.survives;
      kept = λ clean.
          let before = clean_before now next _ c.take_silence.ensures.survives clean in
          keeps_then start now next (inv.kept before) (c.take_silence.ensures.kept clean);
      inside = λ clean was.
          let before = clean_before now next _ c.take_silence.ensures.survives clean in
          c.in_ok-take_silence.ensures.inside clean (inv.inside before was);
      goes = λ clean store.
          let before = clean_before now next _ c.take_silence.ensures.survives clean in
          subst (λ xs. RemovesEach xs start.now next.now) (sym (take_more c.args.silences.now c.loop-tenant.tenant-index c.loop-tenant-item.result c.loop-tenant-test.true ∙ rw (← c.loop-tenant-item.is)))
          (each_then _ c.loop-tenant-item.result start.now now.now next.now (inv.goes before store) (c.in_ok-take_silence.ensures.ok clean (each_store _ start.now now.now store (inv.goes before store))));
      sound = λ clean ready.
          let before = clean_before now next _ c.take_silence.ensures.survives clean in
          c.in_ok-take_silence.ensures.sound clean (record {
            store = each_store _ start.now now.now ready.store (inv.goes before ready.store);
            sound = inv.sound before ready;
            inside = inv.inside before ready.inside;
          });
    }

pub returns-in_err-take_silence-clause-fails : goal.returns-in_err-take_silence-clause-fails
returns-in_err-take_silence-clause-fails g c clean ready =
    let start = state g.S.Store c.args.tx.now.conn.now in
    let now = state g.S.Store c.loop-tenant.tx.conn.now in
    let next = state g.S.Store c.take_silence.new.tx.conn.now in
    let inv = c.loop-tenant.invariant in
    let before = clean_before now next _ c.take_silence.ensures.survives clean in
    let ready_now : IsReady now = record {
      store = each_store _ start.now now.now ready.store (inv.goes before ready.store);
      sound = inv.sound before ready;
      inside = inv.inside before ready.inside;
    } in
    let excused : IfErr c.take_silence.result (IsExcused start next) =
    IfErr-weaker c.take_silence.result _ _ (λ e. excused_after start now next _ _ before inv.survives c.take_silence.ensures.survives e) (c.take_silence.ensures.fails clean ready_now) in
    search rules
