use Rattle.std.proofs.Common.{ap, map, rules, subst, take, ◌++◌, ◌∷◌, [], ◌∙◌, sym}
use Rattle.sqlite.specs.Order.{bytes, column}
use Rattle.am_store.specs.Reading.{IsNamed}
use Rattle.am_store.proofs.Named.{one_name_more}
use Rattle.am_store.proofs.tenants.push_names.Goals as goal

pub loop-row-preserved : goal.loop-row-preserved
loop-row-preserved c =
    let row = c.row-item.result in
    c.in_ok-push.ensures.items
    ∙ ap (λ done. done ++ c.in_ok-name.name ∷ []) c.loop-row.invariant
    ∙ ap (λ name. (c.args.names.now.items ++ map (λ r. bytes (column r 0)) (take c.loop-row.row-index c.args.rows.now)) ++ name ∷ []) (ap bytes (sym c.in_ok-name.ensures.text))
    ∙ one_name_more c.args.rows.now c.loop-row.row-index row c.args.names.now.items c.loop-row-test.true c.row-item.is

pub returns-in_err-name-clause-given : goal.returns-in_err-name-clause-given
returns-in_err-name-clause-given c all =
    let row = c.row-item.result in
    let is : IsNamed row = subst IsNamed (sym c.row-item.is) (all c.loop-row.row-index row c.loop-row-test.true) in
    let given = c.in_err-name.ensures.given is.tenant is.tenant_is is.named in
    search rules
