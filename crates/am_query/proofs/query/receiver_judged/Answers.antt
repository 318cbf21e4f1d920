use Rattle.std.proofs.Common.{[]}
use Rattle.std.proofs.lemmas.List.Elements.{All-cons, All-nil}
use Rattle.am_pattern.specs.Kept.{HasRegex}
use Rattle.am_query.proofs.QueryLemmas.{receiver_refused}
use Rattle.am_query.proofs.query.receiver_judged.Goals as goal

pub returns-in-Err-Refused-clause-read : goal.returns-in-Err-Refused-clause-read
returns-in-Err-Refused-clause-read c =
    rw c.in-Err-Refused.refusal-is
    (receiver_refused (tt {0}) c.args.value.now c.args.cache.now c.check_pattern.new.cache c.in-Err-Refused.refusal
    (rw c.in-Err-Refused.field-0-is at c.in-Err-Refused.ensures.failure)
    (rw c.in-Err-Refused.field-0-is at c.in-Err-Refused.ensures.meaning))

pub returns-in-Ok-clause-built : goal.returns-in-Ok-clause-built
returns-in-Ok-clause-built c = All-cons HasRegex _ [] c.in-Ok.ensures.built (All-nil HasRegex)

pub returns-in-Err-Refused-clause-failure : goal.returns-in-Err-Refused-clause-failure
returns-in-Err-Refused-clause-failure c =
    rw c.in-Err-Refused.refusal-is (rw c.in-Err-Refused.field-0-is at c.in-Err-Refused.ensures.failure)
