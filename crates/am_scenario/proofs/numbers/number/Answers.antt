use Rattle.std.proofs.Common.{◌≢◌, get_or, rules, sym}
use Rattle.am_scenario.proofs.NumberLemmas.{not_plus, number_of-parse, number_of-no_parse}
use Rattle.am_scenario.proofs.numbers.number.Goals as goal

pub returns-in-Ok : goal.returns-in-Ok
returns-in-Ok c =
    let plain : get_or c.args.text.now 0 0 ≢ 43 = not_plus c.args.text.now c.starts_with.result c.if-starts_with.false (search rules) in
    sym (number_of-parse c.args.text.now c.parse.result _ c.parse.ensures.value.0 plain c.in-Ok.is)

pub returns-in-Err : goal.returns-in-Err
returns-in-Err c =
    let plain : get_or c.args.text.now 0 0 ≢ 43 = not_plus c.args.text.now c.starts_with.result c.if-starts_with.false (search rules) in
    sym (number_of-no_parse c.args.text.now c.parse.result _ c.parse.ensures.value.0 plain c.in-Err.is)
