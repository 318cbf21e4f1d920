use Rattle.am_text.proofs.SpellingLemmas.{duration_only, duration_spelled}
use Rattle.am_text.proofs.laws.duration_of_a_text.Goals as goal

pub returns-clause-spelled : goal.returns-clause-spelled
returns-clause-spelled c = duration_spelled

pub returns-clause-only : goal.returns-clause-only
returns-clause-only c = duration_only
