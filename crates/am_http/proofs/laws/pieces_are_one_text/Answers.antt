use Rattle.std.proofs.Common.{[]}
use Rattle.am_http.proofs.VerdictLemmas.{verdict-pieces}
use Rattle.am_http.proofs.laws.pieces_are_one_text.Goals as goal

pub returns : goal.returns
returns c = verdict-pieces []
