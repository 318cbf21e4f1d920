use Rattle.std.proofs.Common.{◌≡◌, ◌∙◌, true, List, ap}
use Rattle.std.specs.List.{list_any}
use Rattle.std.proofs.lemmas.Result.{err_from_is_err_and}
use Rattle.am_item.specs.declared.item.Item.{Item}
use Rattle.am_tenant.specs.Names.{same}
use Rattle.am_rows.proofs.Wearing.{caused_later, wears_then}
use Rattle.am_node.proofs.Begun.{begun, begun_all}
use Rattle.am_node.proofs.parts.Parts.hold_open.Goals as goal

pub returns-clause-planned : goal.returns-clause-planned
returns-clause-planned g c = rw c.deref.ensures.value at c.in_ok-hold_each.ensures.planned

pub returns-clause-held : goal.returns-clause-held
returns-clause-held g c = λ clean.
    let named : g.R.Rows.is_clean c.tenants.new.self ≡ true = c.hold_each.ensures.clean clean in
    let names = c.in_ok-names.names.items in
    begun_all names c.args.moment (g.R.Rows.pairs c.args.store.now) c.hold_each.new.self
    (λ t none. c.in_ok-names.ensures.names named t none)
    (λ t. (rw c.deref.ensures.value at (c.in_ok-hold_each.ensures.held clean)) t
    ∙ ap (λ (xs : List Item). begun (list_any (same t) names) c.args.moment xs) (c.in_ok-names.ensures.stays named t))

pub returns-in_err-hold_each-clause-fails : goal.returns-in_err-hold_each-clause-fails
returns-in_err-hold_each-clause-fails g c = λ clean.
    let m = g.R.Rows.medium in
    let p = err_from_is_err_and c.from_residual-in_err-hold_each.result c.from_residual-in_err-hold_each.ensures.1 in
    rw (p.1, p.2)
    (caused_later (m c.args.store.now) (m c.tenants.new.self) (m c.hold_each.new.store)
    (c.tenants.ensures.wears (c.hold_each.ensures.clean clean)) (c.hold_each.ensures.wears clean) _
    (c.in_err-hold_each.ensures.fails clean))

pub returns-in_err-hold_each-clause-wears : goal.returns-in_err-hold_each-clause-wears
returns-in_err-hold_each-clause-wears g c = λ clean.
    let m = g.R.Rows.medium in
    wears_then (m c.args.store.now) (m c.tenants.new.self) (m c.hold_each.new.store) (c.tenants.ensures.wears (c.hold_each.ensures.clean clean)) (c.hold_each.ensures.wears clean)

pub returns-clause-wears : goal.returns-clause-wears
returns-clause-wears g c = λ clean.
    let m = g.R.Rows.medium in
    wears_then (m c.args.store.now) (m c.tenants.new.self) (m c.hold_each.new.store) (c.tenants.ensures.wears (c.hold_each.ensures.clean clean)) (c.hold_each.ensures.wears clean)

pub returns-clause-left : goal.returns-clause-left
returns-clause-left g c = λ clean whole t.
    c.hold_each.ensures.left clean whole t ∙ c.in_ok-names.ensures.stays (c.hold_each.ensures.clean clean) t

pub returns-in_err-hold_each-clause-left : goal.returns-in_err-hold_each-clause-left
returns-in_err-hold_each-clause-left g c = λ clean whole t.
    c.hold_each.ensures.left clean whole t ∙ c.in_ok-names.ensures.stays (c.hold_each.ensures.clean clean) t
