use Rattle.std.proofs.Common.{◌∙◌, arith}
use Rattle.am_text.proofs.PrintingLemmas.{sum_is, sum_fits}
use Rattle.am_text.proofs.printing.utc_clock.Goals as goal

pub unwrap-requires : goal.unwrap-requires
unwrap-requires c =
    let sum = sum_is c.to_datetime-epoch.result c.date.result c.midnight.result c.from_millis-since.result.nanos c.milliseconds.result c.args.moment c.to_datetime-epoch.ensures.date c.to_datetime-epoch.ensures.time c.date.ensures c.midnight.ensures c.from_millis-since.ensures c.milliseconds.ensures.value c.milliseconds.ensures.bound in
    c.checked_add.ensures.succeeds.1 (sum_fits _ c.args.moment (omega arith) sum)

pub returns-clause-value : goal.returns-clause-value
returns-clause-value c =
    let sum = sum_is c.to_datetime-epoch.result c.date.result c.midnight.result c.from_millis-since.result.nanos c.milliseconds.result c.args.moment c.to_datetime-epoch.ensures.date c.to_datetime-epoch.ensures.time c.date.ensures c.midnight.ensures c.from_millis-since.ensures c.milliseconds.ensures.value c.milliseconds.ensures.bound in
    (rw c.unwrap.ensures at c.checked_add.ensures.value) ∙ sum
