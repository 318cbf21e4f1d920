use Rattle.am_limit.proofs.AllowanceLemmas.{none_used}
use Rattle.am_limit.proofs.allowances.Allowances.new.Goals as goal

pub returns : goal.returns
returns c = λ t. none_used t c.new.result.entries c.new.ensures.empty
