use Rattle.std.proofs.lemmas.Result.{on_ok_weaker}
use Rattle.am_timer.specs.Timer.{Timer}
use Rattle.am_transfer.proofs.Timed.{cancelled_for, set_for}
use Rattle.am_transfer.proofs.refresh.refresh.Goals as goal

pub returns-in-Some : goal.returns-in-Some
returns-in-Some c =
    let timer : Timer = record { due = c.in-Some.due; name = c.name_of-name.result } in
    on_ok_weaker c.set.result
    (λ is. set_for c.args.tenant.now c.args.instance c.args.tenants.now c.args.timers.now.timers c.set.new.self.timers timer c.name_of-name.ensures c.in-Some.ensures is)
    c.set.ensures.set

pub returns-in-None : goal.returns-in-None
returns-in-None c =
    cancelled_for c.args.tenant.now c.args.instance c.args.tenants.now c.args.timers.now.timers c.cancel.new.self.timers c.name_of-name.result c.name_of-name.ensures
    c.in-None.ensures c.cancel.ensures.cancelled
