use Rattle.std.proofs.Common.{◌++◌, List, ℕ, ◌∙◌, ap, map, rules}
use Rattle.sqlite.specs.Held.{state}
use Rattle.sqlite.specs.Order.{Row, bytes, column}
use Rattle.am_store.specs.Reading.{GivesValue}
use Rattle.am_store.proofs.Failing.{given_fails}
use Rattle.am_store.proofs.Named.{all_named}
use Rattle.am_store.proofs.tenants.tenants.Goals as goal

pub returns-clause-names : goal.returns-clause-names
returns-clause-names g c clean store t =
    let name : Row → List ℕ = λ r. bytes (column r 0) in
    let cs = c.in_ok-configs.configs.items in
    let ss = c.in_ok-configs.silences.items in
    let are = (rw c.deref-2.ensures.value at c.in_ok-push_names-2.ensures.names) ∙ ap (λ xs. xs ++ map name ss) ((rw c.deref.ensures.value at c.in_ok-push_names.ensures.names) ∙ ap (λ xs. xs ++ map name cs) c.new-names.ensures.items) in
    c.in_ok-sort.ensures.same t ∙ all_named t c.push_names-2.new.names.items cs ss are ∙ c.in_ok-configs.ensures.names clean store t

pub returns-in_err-push_names-clause-fails : goal.returns-in_err-push_names-clause-fails
returns-in_err-push_names-clause-fails g c clean store =
    let read = c.in_err-push_names.ensures.given (rw (← c.deref.ensures.value) at (c.in_ok-configs.ensures.named clean store).0) in
    let given : GivesValue c.from_residual-in_err-push_names.result = search rules in
    given_fails (state g.S.Store c.args.conn.now) (state g.S.Store c.named.new.conn) c.from_residual-in_err-push_names.result given

pub returns-in_err-push_names-2-clause-fails : goal.returns-in_err-push_names-2-clause-fails
returns-in_err-push_names-2-clause-fails g c clean store =
    let read = c.in_err-push_names-2.ensures.given (rw (← c.deref-2.ensures.value) at (c.in_ok-configs.ensures.named clean store).1) in
    let given : GivesValue c.from_residual-in_err-push_names-2.result = search rules in
    given_fails (state g.S.Store c.args.conn.now) (state g.S.Store c.named.new.conn) c.from_residual-in_err-push_names-2.result given
