use Rattle.std.proofs.Common.{◌≡◌, ◌∙◌, ap, map}
use Rattle.am_match.proofs.FailureLemmas.{handed_on}
use Rattle.am_table.specs.Tables.{all_matchers}
use Rattle.am_route.specs.Asked.{route_matchers}
use Rattle.am_route.proofs.TableLemmas.{all_of_routes, rows_of_routes}
use Rattle.am_route.proofs.answers.answers_of.Goals as goal

pub returns-in_err-table-clause-misses : goal.returns-in_err-table-clause-misses
returns-in_err-table-clause-misses c =
    let same : all_matchers (map (λ list. list.now) c.deref.result.now) ≡ route_matchers c.args.routes.now =
    ap all_matchers (ap (map (λ list. list.now)) c.deref.ensures.value ∙ c.in_ok-lists.ensures) ∙ all_of_routes c.args.routes.now in
    rw same at c.in_err-table.ensures.misses

pub returns-in_err-table-clause-failure : goal.returns-in_err-table-clause-failure
returns-in_err-table-clause-failure c =
    let same : all_matchers (map (λ list. list.now) c.deref.result.now) ≡ route_matchers c.args.routes.now =
    ap all_matchers (ap (map (λ list. list.now)) c.deref.ensures.value ∙ c.in_ok-lists.ensures) ∙ all_of_routes c.args.routes.now in
    handed_on _ c.from_residual-in_err-table.result c.in_err-table.field-0.0 c.from_residual-in_err-table.ensures.1
    (rw same at c.in_err-table.ensures.failure)

pub returns-clause-table : goal.returns-clause-table
returns-clause-table c =
    c.in_ok-table.ensures.table
    ∙ rows_of_routes c.args.sets.now c.args.routes.now c.deref.result.now
    (ap (map (λ list. list.now)) c.deref.ensures.value ∙ c.in_ok-lists.ensures)

pub returns-clause-misses : goal.returns-clause-misses
returns-clause-misses c =
    let same : all_matchers (map (λ list. list.now) c.deref.result.now) ≡ route_matchers c.args.routes.now =
    ap all_matchers (ap (map (λ list. list.now)) c.deref.ensures.value ∙ c.in_ok-lists.ensures) ∙ all_of_routes c.args.routes.now in
    rw same at c.in_ok-table.ensures.misses
