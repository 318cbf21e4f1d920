use Rattle.am_incarnation.proofs.Greatest.{one_bounded, one_reached}
use Rattle.std.proofs.Common.{◌≡◌, ◌∙◌, inl, refl, rules, true}
use Rattle.am_rows.specs.Rows.{rows_of}
use Rattle.am_rows.proofs.Wearing.{caused_later, unworn, wears_then}
use Rattle.am_incarnation.proofs.incarnations.greatest_of.Goals as goal

pub loop-tenant-init : goal.loop-tenant-init
loop-tenant-init g c =
    (c.requires, λ clean. clean, λ clean t. refl, λ clean. refl, λ clean. inl refl, λ clean. unworn (g.R.Rows.medium c.args.store.now))

pub loop-tenant-preserved : goal.loop-tenant-preserved
loop-tenant-preserved g c =
    let i = c.loop-tenant.tenant-index in
    let t = c.tenant-item.result in
    let before = g.R.Rows.pairs c.args.store.now in
    let was : g.R.Rows.is_clean c.rows_of.new.self ≡ true → g.R.Rows.is_clean c.loop-tenant.store ≡ true = c.in_ok-rows.ensures.clean in
    let read : (clean : g.R.Rows.is_clean c.rows_of.new.self ≡ true) → c.deref.result.now ≡ rows_of t before =
    λ clean. c.deref.ensures.value ∙ c.in_ok-rows.ensures.rows clean ∙ c.loop-tenant.invariant.2 (was clean) t in (
      c.in_ok-rows.ensures.open,
      λ clean. c.loop-tenant.invariant.1 (was clean),
      λ clean u. c.in_ok-rows.ensures.stays clean u ∙ c.loop-tenant.invariant.2 (was clean) u,
      λ clean. one_bounded c.loop-tenant.greatest c.greatest_from-greatest.result before c.args.tenants.now i t c.deref.result.now
          c.loop-tenant-test.true c.tenant-item.is (read clean) c.greatest_from-greatest.ensures (c.loop-tenant.invariant.3 (was clean)),
      λ clean. one_reached c.loop-tenant.greatest c.greatest_from-greatest.result before t c.deref.result.now (read clean) c.greatest_from-greatest.ensures
          (c.loop-tenant.invariant.4 (was clean)),
      λ clean. wears_then (g.R.Rows.medium c.args.store.now) (g.R.Rows.medium c.loop-tenant.store) (g.R.Rows.medium c.rows_of.new.self)
          (c.loop-tenant.invariant.5 (was clean)) (c.in_ok-rows.ensures.wears clean),
    )

pub returns-in_err-rows-clause-fails : goal.returns-in_err-rows-clause-fails
returns-in_err-rows-clause-fails g c = λ clean.
    let caused = caused_later (g.R.Rows.medium c.args.store.now) (g.R.Rows.medium c.loop-tenant.store) (g.R.Rows.medium c.rows_of.new.self)
    (c.loop-tenant.invariant.5 (c.rows_of.ensures.clean clean)) (c.rows_of.ensures.wears clean) _ (c.in_err-rows.ensures.fails clean) in
    search rules

pub returns-in_err-rows-clause-wears : goal.returns-in_err-rows-clause-wears
returns-in_err-rows-clause-wears g c = λ clean.
    wears_then (g.R.Rows.medium c.args.store.now) (g.R.Rows.medium c.loop-tenant.store) (g.R.Rows.medium c.rows_of.new.self)
    (c.loop-tenant.invariant.5 (c.rows_of.ensures.clean clean)) (c.rows_of.ensures.wears clean)
