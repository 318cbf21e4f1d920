use Rattle.std.proofs.Common.{◌≤◌, length, arith}
use Rattle.am_judge.proofs.judging.judge_document.Goals as goal

pub returns-in-Ok : goal.returns-in-Ok
returns-in-Ok c =
    let within : length c.args.document.now ≤ c.args.limits.configuration = omega (arith, c.if-limits-document.false) in
    record { built = c.read_document.new.cache; is = (within, c.in-Ok.ensures.accepted) }

pub returns-in_ok-finding-in-Err-Refused : goal.returns-in_ok-finding-in-Err-Refused
returns-in_ok-finding-in-Err-Refused c =
    let within : length c.args.document.now ≤ c.args.limits.configuration = omega (arith, c.if-limits-document.false) in
    let failed = rw c.in-Err-Refused.field-0-is at c.in-Err-Refused.ensures.failure in
    record {
      built = c.read_document.new.cache;
      is = (within, (failed, c.in_ok-finding-in-Err-Refused.ensures));
    }
