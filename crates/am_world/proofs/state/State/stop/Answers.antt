use Rattle.std.proofs.Common.{arith, refl}
use Rattle.am_world.proofs.Stopped.{backed_stopped, cause_here, consistent_stopped, exists_at}
use Rattle.am_world.proofs.state.State.stop.Goals as goal

pub returns-clause-stopped : goal.returns-clause-stopped
returns-clause-stopped c = rw c.count_fault.ensures (record {
  down = c.stop.ensures.down;
  cause = cause_here c.args.number c.stop.new.self c.args.fault
      (exists_at c.args.number c.stop.new.self c.stop.ensures.at.numbered c.number-number.ensures.range)
      c.stop.ensures.cause;
  stays = c.stop.ensures.stays;
  others = c.stop.ensures.at;
  messages = refl;
  outputs = refl;
  beside = record { clock = refl; common = refl };
  counted = refl;
})

pub returns-clause-consistent : goal.returns-clause-consistent
returns-clause-consistent c = rw c.count_fault.ensures
    (consistent_stopped c.args.number c.args.self.now _ c.requires c.stop.ensures.at c.stop.ensures.down refl refl
    refl (c.stop.ensures.whole _)
    (λ x x' was is. let same = (c.stop.ensures.stays x x' was is).0.incarnation in omega (arith, same)))

pub returns-clause-backed : goal.returns-clause-backed
returns-clause-backed c = rw c.count_fault.ensures
    (backed_stopped c.args.number c.args.self.now.instances c.stop.new.self c.stop.ensures.at c.stop.ensures.down)
