use Rattle.am_world.proofs.RefusalSeen.{refusal_follows}
use Rattle.am_world.proofs.theorem.refusals_are_seen.Goals as goal

pub returns : goal.returns
returns c v w alone e whole f s = refusal_follows v w alone e whole f s
