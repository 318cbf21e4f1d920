use Rattle.am_log.proofs.LawLemmas.{apart}
use Rattle.am_log.proofs.laws.what_is_told_is_a_second_apart.Goals as goal

pub returns : goal.returns
returns c = apart
