use Rattle.std.proofs.Common.{◌≡◌, inl, true}
use Rattle.std.proofs.lemmas.Result.{IfErr-weaker, on_ok_weaker}
use Rattle.am_rows.proofs.Wearing.{caused_later, wears_then}
use Rattle.am_site.proofs.Opened.{all_come, kept_behind}
use Rattle.am_site.proofs.opening.keep_own.Goals as goal

pub returns-clause-kept : goal.returns-clause-kept
returns-clause-kept g c = λ clean.
    let named : g.R.Rows.is_clean c.tenants.new.self ≡ true = c.keep_own_among.ensures.clean clean in
    let names = c.in_ok-names.names.items in
    on_ok_weaker c.keep_own_among.result
    (λ kept. all_come c.args.ring.now.instances c.args.instance names (g.R.Rows.pairs c.args.store.now) (g.R.Rows.pairs c.tenants.new.self) (g.R.Rows.pairs c.keep_own_among.new.store)
    (c.in_ok-names.ensures.names named) (c.in_ok-names.ensures.stays named) (rw c.deref.ensures.value at kept))
    (c.keep_own_among.ensures.kept clean)

pub returns-clause-fails : goal.returns-clause-fails
returns-clause-fails g c = λ clean.
    let m = g.R.Rows.medium in
    IfErr-weaker c.keep_own_among.result _ _
    (caused_later (m c.args.store.now) (m c.tenants.new.self) (m c.keep_own_among.new.store) (c.tenants.ensures.wears (c.keep_own_among.ensures.clean clean)) (c.keep_own_among.ensures.wears clean))
    (c.keep_own_among.ensures.fails clean)

pub returns-clause-wears : goal.returns-clause-wears
returns-clause-wears g c = λ clean.
    wears_then (g.R.Rows.medium c.args.store.now) (g.R.Rows.medium c.tenants.new.self) (g.R.Rows.medium c.keep_own_among.new.store)
    (c.tenants.ensures.wears (c.keep_own_among.ensures.clean clean)) (c.keep_own_among.ensures.wears clean)

pub returns-in_err-names-clause-left : goal.returns-in_err-names-clause-left
returns-in_err-names-clause-left g c = λ clean whole t. inl (c.in_err-names.ensures.err clean whole t)

pub returns-clause-left : goal.returns-clause-left
returns-clause-left g c = λ clean whole.
    kept_behind c.args.ring.now.instances c.args.instance (g.R.Rows.pairs c.args.store.now) (g.R.Rows.pairs c.tenants.new.self) (g.R.Rows.pairs c.keep_own_among.new.store)
    (c.in_ok-names.ensures.stays (c.keep_own_among.ensures.clean clean)) (c.keep_own_among.ensures.left clean whole)
