use Rattle.std.proofs.Common.{◌≡◌, inl, refl, true}
use Rattle.std.proofs.lemmas.Result.{IfErr-weaker, IfOk-weaker, err_from_is_err_and, on_ok_weaker}
use Rattle.am_rows.proofs.Wearing.{judged_later, wears_then}
use Rattle.am_site.proofs.Opened.{all_kept, begins, kept_ahead, kept_behind, opens, own_behind}
use Rattle.am_site.proofs.site.Site.open.Goals as goal

pub returns-clause-opened : goal.returns-clause-opened
returns-clause-opened g c = λ clean.
    let left : g.R.Rows.is_clean c.keep_own.new.store ≡ true = c.hold_open.ensures.clean clean in
    let found : g.R.Rows.is_clean c.open.new.self ≡ true = c.keep_own.ensures.clean left in
    let pairs = g.R.Rows.pairs in
    let ring = c.args.ring.now.instances in
    on_ok_weaker c.hold_open.result
    (λ held. opens ring c.args.instance c.args.moment c.args.self.now c.hold_open.new.self c.requires (pairs c.args.store.now) (pairs c.keep_own.new.store)
    (own_behind ring c.args.instance (pairs c.args.store.now) (pairs c.open.new.self) (pairs c.keep_own.new.store) (c.in_ok-open.ensures.opened found) (c.in_ok-keep_own.ensures.kept left))
    held)
    (c.hold_open.ensures.held clean)

pub returns-clause-begins : goal.returns-clause-begins
returns-clause-begins g c =
    IfOk-weaker c.hold_open.result _ _
    (λ names. begins c.args.self.now names.items c.hold_open.new.self c.requires) c.hold_open.ensures.begins

pub returns-clause-rest : goal.returns-clause-rest
returns-clause-rest g c = record { operations = refl; settling = refl }

pub returns-clause-stores : goal.returns-clause-stores
returns-clause-stores g c = λ clean. on_ok_weaker c.hold_open.result (λ still. still.stores) (c.hold_open.ensures.stores clean)

pub returns-clause-fails : goal.returns-clause-fails
returns-clause-fails g c = λ clean.
    let m = g.R.Rows.medium in
    let left = c.hold_open.ensures.clean clean in
    let found = c.keep_own.ensures.clean left in
    let worn = wears_then (m c.args.store.now) (m c.open.new.self) (m c.keep_own.new.store) (c.open.ensures.wears found) (c.keep_own.ensures.wears left) in
    IfErr-weaker c.hold_open.result _ _
    (judged_later (m c.args.store.now) (m c.keep_own.new.store) (m c.hold_open.new.store) worn (c.hold_open.ensures.wears clean) (g.R.Rows.is_foreign c.args.store.now))
    (c.hold_open.ensures.fails clean)

pub returns-in_err-open-clause-fails : goal.returns-in_err-open-clause-fails
returns-in_err-open-clause-fails g c = λ clean.
    let p = err_from_is_err_and c.from_residual.result c.from_residual.ensures.1 in
    rw (p.1, p.2) (c.in_err-open.ensures.fails clean)

pub returns-in_err-keep_own-clause-fails : goal.returns-in_err-keep_own-clause-fails
returns-in_err-keep_own-clause-fails g c = λ clean.
    let m = g.R.Rows.medium in
    let p = err_from_is_err_and c.from_residual-in_err-keep_own.result c.from_residual-in_err-keep_own.ensures.1 in
    rw (p.1, p.2)
    (judged_later (m c.args.store.now) (m c.open.new.self) (m c.keep_own.new.store) (c.open.ensures.wears (c.keep_own.ensures.clean clean)) (c.keep_own.ensures.wears clean)
    (g.R.Rows.is_foreign c.args.store.now) _ (c.in_err-keep_own.ensures.fails clean))

pub returns-clause-kept : goal.returns-clause-kept
returns-clause-kept g c = λ clean.
    let pairs = g.R.Rows.pairs in
    let ring = c.args.ring.now.instances in
    let left = c.hold_open.ensures.clean clean in
    on_ok_weaker c.hold_open.result
    (λ still. kept_ahead ring c.args.instance (pairs c.args.store.now) (pairs c.keep_own.new.store) (pairs c.hold_open.new.store)
    (own_behind ring c.args.instance (pairs c.args.store.now) (pairs c.open.new.self) (pairs c.keep_own.new.store) (c.in_ok-open.ensures.opened (c.keep_own.ensures.clean left)) (c.in_ok-keep_own.ensures.kept left))
    still.keeps)
    (c.hold_open.ensures.stores clean)

pub returns-clause-left : goal.returns-clause-left
returns-clause-left g c = λ clean whole.
    let pairs = g.R.Rows.pairs in
    let ring = c.args.ring.now.instances in
    let left = c.hold_open.ensures.clean clean in
    all_kept ring c.args.instance (pairs c.args.store.now) (pairs c.hold_open.new.store)
    (kept_ahead ring c.args.instance (pairs c.args.store.now) (pairs c.keep_own.new.store) (pairs c.hold_open.new.store)
    (own_behind ring c.args.instance (pairs c.args.store.now) (pairs c.open.new.self) (pairs c.keep_own.new.store) (c.in_ok-open.ensures.opened (c.keep_own.ensures.clean left)) (c.in_ok-keep_own.ensures.kept left))
    (c.hold_open.ensures.left clean whole))

pub returns-in_err-open-clause-left : goal.returns-in_err-open-clause-left
returns-in_err-open-clause-left g c = λ clean whole t. inl (c.in_err-open.ensures.err clean whole t)

pub returns-in_err-keep_own-clause-left : goal.returns-in_err-keep_own-clause-left
returns-in_err-keep_own-clause-left g c = λ clean whole.
    let pairs = g.R.Rows.pairs in
    kept_behind c.args.ring.now.instances c.args.instance (pairs c.args.store.now) (pairs c.open.new.self) (pairs c.keep_own.new.store)
    (c.in_ok-open.ensures.opened (c.keep_own.ensures.clean clean)) (c.keep_own.ensures.left clean whole)
