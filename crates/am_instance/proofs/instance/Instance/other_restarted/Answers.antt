use Rattle.am_instance.proofs.Following.{followed_stored}
use Rattle.am_instance.proofs.instance.Instance.other_restarted.Goals as goal

pub returns-clause-stored : goal.returns-clause-stored
returns-clause-stored c = followed_stored c.args.self.now c.follow_start.new.self c.follow_start.ensures.node
