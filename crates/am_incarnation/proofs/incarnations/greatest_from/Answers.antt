use Rattle.std.proofs.Common.{subst}
use Rattle.std.proofs.lemmas.List.{take_all}
use Rattle.am_incarnation.specs.Incarnations.{IsGreatestFrom}
use Rattle.am_incarnation.proofs.Greatest.{none_from, one_from}
use Rattle.am_incarnation.proofs.incarnations.greatest_from.Goals as goal

pub loop-row-init : goal.loop-row-init
loop-row-init c = none_from c.args.least

pub loop-row-preserved : goal.loop-row-preserved
loop-row-preserved c =
    rw (c.max-greatest.ensures, c.stamp.ensures)
    (one_from c.args.least c.loop-row.greatest c.args.rows.now c.loop-row.row-index c.row-item.result c.loop-row-test.true c.row-item.is c.loop-row.invariant)

pub returns : goal.returns
returns c = subst (IsGreatestFrom c.args.least c.loop-row.greatest) (take_all c.loop-row.row-index c.args.rows.now c.loop-row-test.false) c.loop-row.invariant
