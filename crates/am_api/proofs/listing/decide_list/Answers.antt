use Rattle.std.proofs.Common.{inr, refl}
use Rattle.am_listing.specs.Written.{alerts_text}
use Rattle.am_query.specs.Queries.{parameters_in}
use Rattle.am_listing.specs.Failing.{patterns_in_use}
use Rattle.am_api.specs.Refusing.{IsNotAnswered, ListRefuses}
use Rattle.am_api.specs.Replied.{replied}
use Rattle.am_api.proofs.Builds.{decides_weaker}
use Rattle.am_api.proofs.Replies.{query_refused}
use Rattle.am_query.specs.Patterns.{patterns_of_query}
use Rattle.am_muting.proofs.Failures.{adds_behind}
use Rattle.am_api.proofs.Adding.{own_adds, query_adds}
use Rattle.am_api.proofs.Accepting.{built_accepts, query_high, refusal_accepts}
use Rattle.am_api.proofs.listing.decide_list.Goals as goal

pub returns-in-Err-Refused-clause-decides : goal.returns-in-Err-Refused-clause-decides
unfolding patterns_of_query
returns-in-Err-Refused-clause-decides c =
    query_refused _ _ _ _ _ c.in-Err-Refused.reason _ _ c.refuse.result refl
    (rw c.in-Err-Refused.field-0-is at c.in-Err-Refused.ensures.read)
    (rw c.in-Err-Refused.field-0-is at c.in-Err-Refused.ensures.stop)
    (rw (c.status.ensures, c.code.ensures, c.in-Err-Refused.reason-is) at c.refuse.ensures)

pub returns-in-Ok-clause-decides : goal.returns-in-Ok-clause-decides
returns-in-Ok-clause-decides c =
    rw c.in-Ok.ensures.read
    (decides_weaker (IsNotAnswered (parameters_in c.args.query.now)) (ListRefuses (parameters_in c.args.query.now) c.args.cache.now c.list_asked.new.cache) _ _ c.list_asked.new.cache.refused
    (patterns_of_query c.args.query.now) (patterns_in_use c.args.config.now c.args.moment c.args.held.now) c.list_asked.result
    (replied 200 (alerts_text c.args.config.now c.in-Ok.asked c.args.moment c.args.held.now)) c.in-Ok.ensures.asked.refused (λ d not. inr not) c.list_asked.ensures.decides)

pub returns-in-Err-Refused-clause-adds : goal.returns-in-Err-Refused-clause-adds
unfolding patterns_of_query
returns-in-Err-Refused-clause-adds c =
    own_adds _ _ _ _ (query_adds _ _ _ _ c.in-Err-Refused.ensures.stop)

pub returns-in-Err-OutOfMemory-clause-adds : goal.returns-in-Err-OutOfMemory-clause-adds
unfolding patterns_of_query
returns-in-Err-OutOfMemory-clause-adds c =
    own_adds _ _ _ _ (query_adds _ _ _ _ c.in-Err-OutOfMemory.ensures.stop)

pub returns-in-Ok-clause-adds : goal.returns-in-Ok-clause-adds
returns-in-Ok-clause-adds c =
    adds_behind _ _ _ _ c.in-Ok.ensures.asked c.list_asked.ensures.adds

pub returns-in-Ok-clause-built : goal.returns-in-Ok-clause-built
returns-in-Ok-clause-built c = built_accepts _ c.list_asked.result c.in-Ok.ensures.built

pub returns-in-Err-Refused-clause-built : goal.returns-in-Err-Refused-clause-built
returns-in-Err-Refused-clause-built c =
    refusal_accepts _ _ _ c.refuse.result (query_high c.in-Err-Refused.reason)
    (rw (c.status.ensures, c.code.ensures, c.in-Err-Refused.reason-is) at c.refuse.ensures)
