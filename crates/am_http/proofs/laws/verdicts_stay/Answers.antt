use Rattle.am_http.proofs.VerdictLemmas.{verdict-more}
use Rattle.am_http.proofs.laws.verdicts_stay.Goals as goal

pub returns : goal.returns
returns c = verdict-more
