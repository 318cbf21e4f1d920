use Rattle.std.proofs.Common.{◌≡◌, true}
use Rattle.std.proofs.lemmas.Result.{err_from_is_err_and}
use Rattle.am_rows.proofs.Wearing.{judged_later}
use Rattle.am_node.proofs.Begun.{held_before, stores_before}
use Rattle.am_node.proofs.node.Node.hold.Goals as goal

pub returns-clause-held : goal.returns-clause-held
returns-clause-held g c = λ clean.
    let found : g.R.Rows.is_clean c.open.new.self ≡ true = c.hold_open.ensures.clean clean in
    held_before c.args.moment (g.R.Rows.pairs c.args.store.now) (g.R.Rows.pairs c.open.new.self) c.hold_open.new.self
    (c.in_ok-open.ensures.opened found) (c.in_ok-hold_open.ensures.held clean)

pub returns-clause-keeps : goal.returns-clause-keeps
returns-clause-keeps g c = λ clean.
    let p = g.R.Rows.pairs in
    let found = c.hold_open.ensures.clean clean in
    (stores_before c.hold_open.new.self (p c.args.store.now) (p c.open.new.self) (p c.hold_open.new.store)
    (c.in_ok-open.ensures.opened found) (c.in_ok-hold_open.ensures.stores clean)).keeps

pub returns-clause-stores : goal.returns-clause-stores
returns-clause-stores g c = λ clean. (c.in_ok-hold_open.ensures.stores clean).stores

pub returns-in_err-hold_open-clause-fails : goal.returns-in_err-hold_open-clause-fails
returns-in_err-hold_open-clause-fails g c = λ clean.
    let m = g.R.Rows.medium in
    let p = err_from_is_err_and c.from_residual-in_err-hold_open.result c.from_residual-in_err-hold_open.ensures.1 in
    rw (p.1, p.2)
    (judged_later (m c.args.store.now) (m c.open.new.self) (m c.hold_open.new.store)
    (c.open.ensures.wears (c.hold_open.ensures.clean clean)) (c.hold_open.ensures.wears clean)
    (g.R.Rows.is_foreign c.args.store.now) _ (c.in_err-hold_open.ensures.fails clean))
