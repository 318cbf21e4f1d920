use Rattle.am_limit.proofs.CountLemmas.{each_minute}
use Rattle.am_limit.proofs.laws.each_minute_has_its_limit.Goals as goal

pub returns : goal.returns
returns c = each_minute
