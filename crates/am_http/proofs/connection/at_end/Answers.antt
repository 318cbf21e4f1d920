use Rattle.std.proofs.Common.{sym, arith}
use Rattle.am_http.proofs.StageLemmas.{long_head, refused_head}
use Rattle.am_http.proofs.connection.at_end.Goals as goal

pub returns-then-n-gt-HEAD_LIMIT : goal.returns-then-n-gt-HEAD_LIMIT
returns-then-n-gt-HEAD_LIMIT c = long_head c.args.text.now c.args.n c.requires.ended (omega arith)

pub returns-in-Err : goal.returns-in-Err
returns-in-Err c =
    refused_head c.args.text.now c.args.n c.in-Err.refusal c.requires.ended (omega arith) (sym (rw c.in-Err.is at c.read_plan.ensures.wanted))
