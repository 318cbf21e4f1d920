use Rattle.am_limit.proofs.AllowanceLemmas.{none_used}
use Rattle.am_limit.proofs.allowances.Allowances.clear.Goals as goal

pub returns : goal.returns
returns c = λ t. none_used t c.clear.new.self.entries c.clear.ensures.empty
