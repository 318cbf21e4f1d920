use Rattle.am_group.proofs.Telling.{rising_none}
use Rattle.am_group.proofs.notice.make_notice.Goals as goal

pub sets_of-requires-else-sends_resolved : goal.sets_of-requires-else-sends_resolved
sets_of-requires-else-sends_resolved c = rising_none
