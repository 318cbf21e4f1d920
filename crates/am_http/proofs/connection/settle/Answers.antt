use Rattle.std.proofs.Common.{◌<◌, ◌≤◌, ◌+◌, ◌-◌, sym, length, drop, arith}
use Rattle.std.proofs.lemmas.List.{length-drop, take_all}
use Rattle.am_http.proofs.StageLemmas.{waits, whole}
use Rattle.am_http.proofs.connection.settle.Goals as goal

pub returns-then-rest-body_len : goal.returns-then-rest-body_len
returns-then-rest-body_len c =
    let rest = length-drop c.args.n c.args.text.now in
    let short : length c.args.text.now < c.args.n + c.args.plan.body_len = omega arith in
    sym (waits c.args.text.now c.args.plan c.args.n c.requires short)

pub returns : goal.returns
returns c =
    let size = length-drop c.args.n c.args.text.now in
    let inside = c.requires.within in
    let long : c.args.n + c.args.plan.body_len ≤ length c.args.text.now = omega arith in
    let rest = take_all (length c.args.text.now - c.args.n) (drop c.args.n c.args.text.now) (omega arith) in
    rw (whole c.args.text.now c.args.plan c.args.n c.requires long) (rw rest at c.ask.ensures)
