use Rattle.am_limit.proofs.CountLemmas.{asked_counted, fresh_counted, room_agrees}
use Rattle.am_limit.proofs.laws.given_notices_are_counted.Goals as goal

pub returns-clause-first : goal.returns-clause-first
returns-clause-first c = fresh_counted

pub returns-clause-answer : goal.returns-clause-answer
returns-clause-answer c = room_agrees

pub returns-clause-counted : goal.returns-clause-counted
returns-clause-counted c = asked_counted

pub returns-clause-limit_set : goal.returns-clause-limit_set
returns-clause-limit_set c = λ a taken limit h. h
