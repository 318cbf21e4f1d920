use Rattle.am_text.proofs.RoundTrip.{moment_of-moment_text, moment_of-spelled, moment_spelled}
use Rattle.am_text.proofs.laws.moment_of_a_text.Goals as goal

pub returns-clause-spelled : goal.returns-clause-spelled
returns-clause-spelled c = moment_of-spelled

pub returns-clause-only : goal.returns-clause-only
returns-clause-only c = moment_spelled

pub returns-clause-printed : goal.returns-clause-printed
returns-clause-printed c = moment_of-moment_text
