use Rattle.am_log.proofs.ThrottleLemmas.{none_kept}
use Rattle.am_log.proofs.throttle.Throttle.new.Goals as goal

pub returns : goal.returns
returns c = λ t. none_kept t c.new.result.entries c.new.ensures.empty
