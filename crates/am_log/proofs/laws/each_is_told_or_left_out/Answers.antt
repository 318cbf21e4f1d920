use Rattle.am_log.proofs.LawLemmas.{counted}
use Rattle.am_log.proofs.laws.each_is_told_or_left_out.Goals as goal

pub returns : goal.returns
returns c = counted
