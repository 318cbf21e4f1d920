use Rattle.std.proofs.Common.{◌≡◌, ◌∙◌, ◌+◌, ◌++◌, ◌∷◌, [], refl, rules, take}
use Rattle.std.proofs.lemmas.List.{take_all, take_more}
use Rattle.am_rows.proofs.Wearing.{caused_later, unworn, wears_then}
use Rattle.am_site.proofs.Opened.{none_come, one_comes, some_kept}
use Rattle.am_site.proofs.opening.keep_own_among.Goals as goal

pub loop-tenant-init : goal.loop-tenant-init
loop-tenant-init g c = record {
  clean = λ clean. clean;
  opened = c.requires;
  kept = λ clean. none_come c.args.ring.now.instances c.args.instance (g.R.Rows.pairs c.args.store.now);
  wears = λ clean. unworn (g.R.Rows.medium c.args.store.now);
}

pub loop-tenant-preserved : goal.loop-tenant-preserved
loop-tenant-preserved g c =
    let names = c.args.names.now in
    let i = c.loop-tenant.tenant-index in
    let n = c.tenant-item.result in
    let more : take (i + 1) names ≡ take i names ++ n ∷ [] = take_more names i n c.loop-tenant-test.true ∙ rw (← c.tenant-item.is) in
    rw more (record {
      clean = λ clean. c.loop-tenant.invariant.clean (c.keep_if_own.ensures.clean clean);
      opened = c.in_ok-keep_if_own.ensures.«open»;
      kept = λ clean.
          one_comes c.args.ring.now.instances c.args.instance (take i names) n (g.R.Rows.pairs c.args.store.now) (g.R.Rows.pairs c.loop-tenant.store) (g.R.Rows.pairs c.keep_if_own.new.store)
          (c.loop-tenant.invariant.kept (c.keep_if_own.ensures.clean clean)) (c.in_ok-keep_if_own.ensures.kept clean);
      wears = λ clean.
          wears_then (g.R.Rows.medium c.args.store.now) (g.R.Rows.medium c.loop-tenant.store) (g.R.Rows.medium c.keep_if_own.new.store)
          (c.loop-tenant.invariant.wears (c.keep_if_own.ensures.clean clean)) (c.keep_if_own.ensures.wears clean);
    })

pub returns-clause-kept : goal.returns-clause-kept
returns-clause-kept g c = λ clean. rw (take_all c.loop-tenant.tenant-index c.args.names.now c.loop-tenant-test.false) at (c.loop-tenant.invariant.kept clean)

pub returns-in_err-keep_if_own-clause-fails : goal.returns-in_err-keep_if_own-clause-fails
returns-in_err-keep_if_own-clause-fails g c = λ clean.
    let caused = caused_later (g.R.Rows.medium c.args.store.now) (g.R.Rows.medium c.loop-tenant.store) (g.R.Rows.medium c.keep_if_own.new.store)
    (c.loop-tenant.invariant.wears (c.keep_if_own.ensures.clean clean)) (c.keep_if_own.ensures.wears clean) _ (c.in_err-keep_if_own.ensures.fails clean) in
    search rules

pub returns-in_err-keep_if_own-clause-wears : goal.returns-in_err-keep_if_own-clause-wears
returns-in_err-keep_if_own-clause-wears g c = λ clean.
    wears_then (g.R.Rows.medium c.args.store.now) (g.R.Rows.medium c.loop-tenant.store) (g.R.Rows.medium c.keep_if_own.new.store)
    (c.loop-tenant.invariant.wears (c.keep_if_own.ensures.clean clean)) (c.keep_if_own.ensures.wears clean)

pub returns-clause-left : goal.returns-clause-left
returns-clause-left g c = λ clean whole.
    some_kept c.args.ring.now.instances c.args.instance (take c.loop-tenant.tenant-index c.args.names.now) (g.R.Rows.pairs c.args.store.now) (g.R.Rows.pairs c.loop-tenant.store) (g.R.Rows.pairs c.loop-tenant.store)
    (c.loop-tenant.invariant.kept clean) (λ t. refl)

pub returns-in_err-keep_if_own-clause-left : goal.returns-in_err-keep_if_own-clause-left
returns-in_err-keep_if_own-clause-left g c = λ clean whole.
    some_kept c.args.ring.now.instances c.args.instance (take c.loop-tenant.tenant-index c.args.names.now) (g.R.Rows.pairs c.args.store.now) (g.R.Rows.pairs c.loop-tenant.store) (g.R.Rows.pairs c.keep_if_own.new.store)
    (c.loop-tenant.invariant.kept (c.keep_if_own.ensures.clean clean)) (c.in_err-keep_if_own.ensures.err clean whole)
