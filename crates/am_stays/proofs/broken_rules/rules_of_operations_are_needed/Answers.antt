use Rattle.std.proofs.Common.{refl}
use Rattle.am_stays.specs.BrokenRules.{one_answer, one_ack, late_put, late_get, unsettled_answer, newcomer_answer}
use Rattle.am_stays.proofs.Failing.{pairs-fail, sees-fail, ends-fail}
use Rattle.am_stays.proofs.broken_rules.rules_of_operations_are_needed.Goals as goal

pub returns-clause-one_answer : goal.returns-clause-one_answer
returns-clause-one_answer c = pairs-fail one_answer 7 2 3 refl refl refl refl refl refl refl refl refl

pub returns-clause-one_ack : goal.returns-clause-one_ack
returns-clause-one_ack c = pairs-fail one_ack 7 2 3 refl refl refl refl refl refl refl refl refl

pub returns-clause-late_put : goal.returns-clause-late_put
returns-clause-late_put c = pairs-fail late_put 7 3 4 refl refl refl refl refl refl refl refl refl

pub returns-clause-late_get : goal.returns-clause-late_get
returns-clause-late_get c = sees-fail late_get 2 7 2 3 refl refl refl refl refl refl refl

pub returns-clause-unsettled : goal.returns-clause-unsettled
returns-clause-unsettled c = sees-fail unsettled_answer 2 7 1 3 refl refl refl refl refl refl refl

pub returns-clause-newcomer : goal.returns-clause-newcomer
returns-clause-newcomer c = ends-fail newcomer_answer 1 1 0 4 0 2 3 refl refl refl refl refl refl refl refl
