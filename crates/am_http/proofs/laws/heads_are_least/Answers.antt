use Rattle.am_http.proofs.HeadEndLemmas.{head_len-least}
use Rattle.am_http.proofs.laws.heads_are_least.Goals as goal

pub returns : goal.returns
returns c = head_len-least
