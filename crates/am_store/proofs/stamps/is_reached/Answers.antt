use Rattle.std.proofs.Common.{rules, subst, sym}
use Rattle.am_store.specs.Reading.{IsStamped}
use Rattle.am_store.proofs.stamps.is_reached.Goals as goal

pub returns-in_err-stamp_of-clause-given : goal.returns-in_err-stamp_of-clause-given
returns-in_err-stamp_of-clause-given c all =
    let row = c.row-item.result in
    let is : IsStamped row = subst IsStamped (sym c.row-item.is) (all c.loop-row.row-index row c.loop-row-test.true) in
    let given = c.in_err-stamp_of.ensures.given is.0 is.1 in
    search rules
