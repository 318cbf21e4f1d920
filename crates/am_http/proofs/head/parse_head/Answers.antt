use Rattle.std.proofs.Common.{None, [], arith}
use Rattle.am_http.proofs.HeadLemmas.{whole_head, not_whole}
use Rattle.am_http.proofs.ReadingLemmas.{read_head-same}
use Rattle.am_http.proofs.head.parse_head.Goals as goal

pub returns-then-spans-text-clause-found : goal.returns-then-spans-text-clause-found
returns-then-spans-text-clause-found c =
    let complete = rw c.in-Ok-Complete.field-0-is at c.in-Ok-Complete.ensures.complete in
    let within = rw c.in-Ok-Complete.field-0-is at c.in-Ok-Complete.ensures.within in
    (complete.0, whole_head c.args.text.now c.parse_request.new.headers c.in-Ok-Complete.spans complete.0 within complete.1 c.if-spans-text.true (omega arith))

pub returns-else-spans-text-clause-none : goal.returns-else-spans-text-clause-none
returns-else-spans-text-clause-none c =
    let found = rw c.in-Ok-Complete.field-0-is at c.in-Ok-Complete.ensures.found in
    read_head-same c.args.text.now None (λ h reads few. c.if-spans-text.false (not_whole c.args.text.now c.parse_request.new.headers c.in-Ok-Complete.spans h (found h [] reads (omega arith)) reads))

pub returns-in-Ok-Partial-clause-none : goal.returns-in-Ok-Partial-clause-none
returns-in-Ok-Partial-clause-none c =
    let found = rw c.in-Ok-Partial.field-0-is at c.in-Ok-Partial.ensures.found in
    read_head-same c.args.text.now None (λ h reads few. found h [] reads (omega arith))

pub returns-in-Err-clause-none : goal.returns-in-Err-clause-none
returns-in-Err-clause-none c =
    read_head-same c.args.text.now None (λ h reads few. c.in-Err.ensures.found h [] reads (omega arith))
