use Rattle.am_world.proofs.PostingLemmas.{lost_after}
use Rattle.am_world.proofs.posting.post.Goals as goal

pub returns-in-Err-clause-lost : goal.returns-in-Err-clause-lost
returns-in-Err-clause-lost c =
    lost_after c.args.told.now c.args.messages.now c.post_each.new.messages c.lose_all.new.messages
    c.post_each.ensures.spared c.lose_all.ensures.lost
