use Rattle.am_http.proofs.BoundLemmas.{few_waiting}
use Rattle.am_http.proofs.laws.waiting_bytes_are_few.Goals as goal

pub returns : goal.returns
returns c = few_waiting
