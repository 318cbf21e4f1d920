use Rattle.am_transfer.proofs.Timed.{cancelled_one}
use Rattle.am_transfer.proofs.refresh.cancel.Goals as goal

pub returns : goal.returns
returns c =
    cancelled_one c.args.tenant.now c.args.instance c.name_of.result c.args.timers.now.timers c.cancel.new.self.timers c.name_of.ensures c.cancel.ensures.cancelled
