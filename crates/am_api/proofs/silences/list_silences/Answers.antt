use Rattle.std.proofs.Common.{[], refl}
use Rattle.am_query.specs.Queries.{filters_among, filters_in, parameters_in}
use Rattle.am_api.proofs.Replies.{filters_refused}
use Rattle.am_query.specs.Patterns.{patterns_of_filters}
use Rattle.am_api.proofs.Adding.{query_adds, stays_adds}
use Rattle.am_api.proofs.Accepting.{built_accepts, query_high, refusal_accepts}
use Rattle.am_api.proofs.silences.list_silences.Goals as goal

pub returns-in-Err-Refused-clause-decides : goal.returns-in-Err-Refused-clause-decides
unfolding patterns_of_filters
returns-in-Err-Refused-clause-decides c =
    filters_refused (filters_among (parameters_in c.args.query.now)) c.args.cache.now c.read_filters.new.cache (patterns_of_filters c.args.query.now) []
    c.in-Err-Refused.reason c.args.held.now c.args.moment (filters_in c.args.query.now) c.refuse.result refl
    (rw c.in-Err-Refused.field-0-is at c.in-Err-Refused.ensures.read)
    (rw c.in-Err-Refused.field-0-is at c.in-Err-Refused.ensures.stop)
    (rw (c.status.ensures, c.code.ensures, c.in-Err-Refused.reason-is) at c.refuse.ensures)

pub returns-in-Err-Refused-clause-adds : goal.returns-in-Err-Refused-clause-adds
unfolding patterns_of_filters
returns-in-Err-Refused-clause-adds c =
    query_adds _ _ _ _ c.in-Err-Refused.ensures.stop

pub returns-in-Err-OutOfMemory-clause-adds : goal.returns-in-Err-OutOfMemory-clause-adds
unfolding patterns_of_filters
returns-in-Err-OutOfMemory-clause-adds c =
    query_adds _ _ _ _ c.in-Err-OutOfMemory.ensures.stop

pub returns-in-Ok-clause-adds : goal.returns-in-Ok-clause-adds
returns-in-Ok-clause-adds c =
    stays_adds _ _ _ c.in-Ok.ensures.asked

pub returns-in-Ok-clause-built : goal.returns-in-Ok-clause-built
returns-in-Ok-clause-built c = built_accepts _ c.list_having.result c.in-Ok.ensures.built

pub returns-in-Err-Refused-clause-built : goal.returns-in-Err-Refused-clause-built
returns-in-Err-Refused-clause-built c =
    refusal_accepts _ _ _ c.refuse.result (query_high c.in-Err-Refused.reason)
    (rw (c.status.ensures, c.code.ensures, c.in-Err-Refused.reason-is) at c.refuse.ensures)
