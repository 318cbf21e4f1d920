use Rattle.std.proofs.Common.{◌≡◌, ◌≢◌, length, arith}
use Rattle.std.proofs.lemmas.Bool.Decides.{nat_tests}
use Rattle.am_scenario.proofs.LineLemmas.{command_of-text, command_of-bytes}
use Rattle.am_scenario.specs.Line.{text_command, command_of}
use Rattle.am_scenario.proofs.line.read_command.Goals as goal

pub returns-in-Ok : goal.returns-in-Ok
returns-in-Ok c =
    let some : length c.args.line.now ≢ 0 = grind (arith, nat_tests) in
    let same : c.in-Ok.text.now ≡ c.args.line.now = c.in-Ok.ensures.cases.0 in
    let reads : command_of c.args.line.now ≡ text_command c.args.line.now = command_of-text c.args.line.now some c.if-line-eq35.false c.in-Ok.ensures.cases.1 in
    rw (reads, ← same) c.read_text.ensures

pub returns-in-Err : goal.returns-in-Err
returns-in-Err c =
    let some : length c.args.line.now ≢ 0 = grind (arith, nat_tests) in
    command_of-bytes c.args.line.now some c.if-line-eq35.false c.in-Err.ensures.cases.0
