use Rattle.std.proofs.Common.{◌≡◌, ap}
use Rattle.am_ring.specs.Instances.{flagged}
use Rattle.am_ring.proofs.Admitted.{may_join}
use Rattle.am_ring.proofs.Flags.{flagged-set_true, joined_ring}
use Rattle.am_ring.proofs.Replaced.{joins_one, same_ring}
use Rattle.am_ring.proofs.ring.Ring.join.Goals as goal

pub returns-in_err-instance-clause-one : goal.returns-in_err-instance-clause-one
returns-in_err-instance-clause-one c = λ tenant. same_ring tenant c.args.self.now.instances

pub invariant_of-self : goal.invariant_of-self
invariant_of-self c = rw c.index.ensures.index (joined_ring c.self.inside.members c.in_ok-instance.instance c.self.invariant c.index.ensures.range)

pub returns-clause-one : goal.returns-clause-one
returns-clause-one c = λ tenant.
    let shown : flagged c.self.inside.members ≡ c.args.self.now.instances = ap (λ m. m.instances) c.self.view_is in
    let may = rw (← shown, ← c.in_ok-instance.ensures.instance) at (may_join c.args.number c.args.self.now.instances c.in_ok-instance.ensures.none) in
    rw (← shown, c.index.ensures.index, flagged-set_true c.self.inside.members c.in_ok-instance.instance c.self.told may.is)
    (joins_one tenant c.self.inside.members c.in_ok-instance.instance c.self.told may.is may.new)

pub returns-clause-ok : goal.returns-clause-ok
returns-clause-ok c =
    rw (← c.self.view_is, c.index.ensures.index, flagged-set_true c.self.inside.members c.in_ok-instance.instance c.self.told c.index.ensures.range, c.in_ok-instance.ensures.instance)
