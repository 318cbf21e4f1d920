use Rattle.am_world.proofs.PostingLemmas.{filed_lost}
use Rattle.am_world.proofs.posting.lose_one.Goals as goal

pub returns-in-Send-clause-filed : goal.returns-in-Send-clause-filed
returns-in-Send-clause-filed c = filed_lost c.of.result c.args.messages.now c.lose.new.self c.lose.ensures
