use Rattle.am_http.proofs.ReadingLemmas.{read_head_is}
use Rattle.am_http.proofs.laws.heads_by_grammar.Goals as goal

pub returns : goal.returns
returns c = read_head_is
