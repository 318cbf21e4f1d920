use Rattle.std.proofs.Common.{refl}
use Rattle.am_cluster.specs.Events.{Limits}
use Rattle.am_world.proofs.Beside.{step_beside}
use Rattle.am_world.proofs.Faults.{faulted_limits, step_faulted}
use Rattle.am_world.proofs.KeptQuiet.{kept_limits}
use Rattle.am_world.proofs.KeptQuietWhole.{consistent_limits}
use Rattle.am_world.proofs.state.State.on_limits.Goals as goal

pub returns-in-Ok-clause-step : goal.returns-in-Ok-clause-step
returns-in-Ok-clause-step c =
    step_beside c.args.self.now (Limits c.args.tenant.now c.args.limits) _ refl
    (kept_limits c.args.self.now _ c.args.tenant.now c.args.limits c.in-Ok.ensures.set
    (record { service_key = refl; rings = refl; first = refl; clock = refl; messages = refl; instances = refl })
    refl refl)

pub returns-in-Ok-clause-consistent : goal.returns-in-Ok-clause-consistent
returns-in-Ok-clause-consistent c =
    consistent_limits c.args.self.now _
    (record { service_key = refl; rings = refl; first = refl; clock = refl; messages = refl; instances = refl })
    c.requires

pub returns-in-Err-clause-step : goal.returns-in-Err-clause-step
returns-in-Err-clause-step c = rw c.count_fault.ensures
    (step_faulted c.args.self.now (Limits c.args.tenant.now c.args.limits) _
    (λ shelves. faulted_limits c.args.self.now _ shelves c.args.tenant.now c.args.limits
    (record { service_key = refl; rings = refl; first = refl; clock = refl; messages = refl; instances = refl })
    c.in-Err.ensures.err refl refl))

pub returns-in-Err-clause-consistent : goal.returns-in-Err-clause-consistent
returns-in-Err-clause-consistent c = rw c.count_fault.ensures
    (consistent_limits c.args.self.now _
    (record { service_key = refl; rings = refl; first = refl; clock = refl; messages = refl; instances = refl })
    c.requires)
