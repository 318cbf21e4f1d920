use Rattle.am_alert.specs.Held.{fires}
use Rattle.std.proofs.Common.{not}
use Rattle.am_group.proofs.Telling.{rising_filtered}
use Rattle.am_group.proofs.notice.act_for.Goals as goal

pub make_notice-requires-clause-firing : goal.make_notice-requires-clause-firing
make_notice-requires-clause-firing c = rw c.requires.parted.firing (rising_filtered (fires c.args.moment) _ c.requires.rising)

pub make_notice-requires-clause-resolved : goal.make_notice-requires-clause-resolved
make_notice-requires-clause-resolved c = rw c.requires.parted.resolved (rising_filtered (λ alert. not (fires c.args.moment alert)) _ c.requires.rising)
