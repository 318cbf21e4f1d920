use Rattle.std.proofs.Common.{refl}
use Rattle.am_stays.specs.BrokenRules.{restart_refuses_nothing, one_list, piece_missing, second_list}
use Rattle.am_stays.proofs.Failing.{pairs-fail, lists-fail}
use Rattle.am_stays.proofs.broken_rules.rules_of_settling_are_needed.Goals as goal

pub returns-clause-restart : goal.returns-clause-restart
returns-clause-restart c = pairs-fail restart_refuses_nothing 7 1 3 refl refl refl refl refl refl refl refl refl

pub returns-clause-one_list : goal.returns-clause-one_list
returns-clause-one_list c = pairs-fail one_list 7 1 3 refl refl refl refl refl refl refl refl refl

pub returns-clause-piece_missing : goal.returns-clause-piece_missing
returns-clause-piece_missing c = pairs-fail piece_missing 7 1 3 refl refl refl refl refl refl refl refl refl

pub returns-clause-second_list : goal.returns-clause-second_list
returns-clause-second_list c = lists-fail second_list 7 3 1 refl refl refl refl refl
