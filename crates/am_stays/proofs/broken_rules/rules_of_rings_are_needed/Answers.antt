use Rattle.std.proofs.Common.{refl}
use Rattle.am_stays.specs.Places.{Third}
use Rattle.am_stays.specs.BrokenRules.{two_moves, place_lost}
use Rattle.am_stays.proofs.Failing.{eras-fail, others-fail}
use Rattle.am_stays.proofs.broken_rules.rules_of_rings_are_needed.Goals as goal

pub returns-clause-two_moves : goal.returns-clause-two_moves
returns-clause-two_moves c = eras-fail two_moves 0 Third refl refl refl refl

pub returns-clause-place_lost : goal.returns-clause-place_lost
returns-clause-place_lost c = others-fail place_lost 2 7 refl refl refl refl
