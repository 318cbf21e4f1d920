use Rattle.am_world.proofs.PostingLemmas.{filed_either}
use Rattle.am_world.proofs.posting.post_one.Goals as goal

pub returns-in_ok-share-in-Send-clause-filed : goal.returns-in_ok-share-in-Send-clause-filed
returns-in_ok-share-in-Send-clause-filed c =
    filed_either c.send.result c.in_ok-share-in-Send.field-0 c.args.moment c.args.messages.now c.send.new.self
    c.send.ensures.sent c.send.ensures.err
