use Rattle.std.proofs.Common.{◌≡◌, ◌∙◌, ◌+◌, ◌∷◌, ◌++◌, [], refl, sym, take}
use Rattle.std.proofs.lemmas.List.{take_all, take_more}
use Rattle.std.proofs.lemmas.Result.{err_from_is_err_and}
use Rattle.am_rows.proofs.Wearing.{refuses_later, unworn, wears_then}
use Rattle.am_instance.proofs.Dropping.{kept_before, more_dropped}
use Rattle.am_instance.proofs.leaving.drop_rows.Goals as goal

pub loop-tenant-init : goal.loop-tenant-init
loop-tenant-init g c = record {
  clean = λ clean. clean;
  opened = c.requires;
  rows = λ clean t. refl;
  wears = λ clean. unworn (g.R.Rows.medium c.args.store.now);
}

pub loop-tenant-preserved : goal.loop-tenant-preserved
loop-tenant-preserved g c =
    let names = c.args.names.now in
    let i = c.loop-tenant.tenant-index in
    let n = c.tenant-item.result in
    let m = g.R.Rows.medium in
    let p = g.R.Rows.pairs in
    let so_far = c.loop-tenant.invariant in
    let more : take (i + 1) names ≡ take i names ++ n ∷ [] = take_more names i n c.loop-tenant-test.true ∙ rw (← c.tenant-item.is) in
    rw more (record {
      clean = λ clean. so_far.clean (c.drop_rows_of.ensures.clean clean);
      opened = c.in_ok-drop_rows_of.ensures.«open»;
      rows = λ clean.
          more_dropped n (take i names) (p c.args.store.now) (p c.loop-tenant.store) (p c.drop_rows_of.new.store)
          (so_far.rows (c.drop_rows_of.ensures.clean clean)) (c.in_ok-drop_rows_of.ensures.dropped clean);
      wears = λ clean.
          wears_then (m c.args.store.now) (m c.loop-tenant.store) (m c.drop_rows_of.new.store)
          (so_far.wears (c.drop_rows_of.ensures.clean clean)) (c.drop_rows_of.ensures.wears clean);
    })

pub returns-clause-left : goal.returns-clause-left
returns-clause-left g c clean = record {
  rows = rw (take_all c.loop-tenant.tenant-index c.args.names.now c.loop-tenant-test.false) at (c.loop-tenant.invariant.rows clean);
  cause = λ is. absurd (let clash = is in cc);
}

pub returns-in_err-drop_rows_of-clause-left : goal.returns-in_err-drop_rows_of-clause-left
returns-in_err-drop_rows_of-clause-left g c clean =
    let m = g.R.Rows.medium in
    let p = g.R.Rows.pairs in
    let so_far = c.loop-tenant.invariant in
    let before = c.drop_rows_of.ensures.clean clean in
    let e = err_from_is_err_and c.from_residual.result c.from_residual.ensures.1 in
    rw (e.1, e.2) (record {
      rows = λ t shut.
          kept_before c.args.names.now c.loop-tenant.tenant-index (p c.args.store.now) (p c.loop-tenant.store) (p c.drop_rows_of.new.store)
          (so_far.rows before) (c.in_err-drop_rows_of.ensures.err clean shut) t;
      cause = λ is.
          refuses_later (m c.args.store.now) (m c.loop-tenant.store) (m c.drop_rows_of.new.store) (so_far.wears before)
          (c.drop_rows_of.ensures.wears clean) (c.in_err-drop_rows_of.ensures.cause clean is);
    })

pub returns-in_err-drop_rows_of-clause-clean : goal.returns-in_err-drop_rows_of-clause-clean
returns-in_err-drop_rows_of-clause-clean g c clean = c.loop-tenant.invariant.clean (c.drop_rows_of.ensures.clean clean)

pub returns-in_err-drop_rows_of-clause-fault : goal.returns-in_err-drop_rows_of-clause-fault
returns-in_err-drop_rows_of-clause-fault g c =
    let e = err_from_is_err_and c.from_residual.result c.from_residual.ensures.1 in
    rw (e.1, e.2) c.in_err-drop_rows_of.ensures.fault
