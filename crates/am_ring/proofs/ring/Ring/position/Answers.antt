use Rattle.std.proofs.Common.{◌≡◌, ap}
use Rattle.am_ring.specs.Instances.{flagged}
use Rattle.am_ring.proofs.Flags.{members_differ}
use Rattle.am_ring.proofs.Positions.{position_is}
use Rattle.am_ring.proofs.ring.Ring.position.Goals as goal

pub returns : goal.returns
returns c =
    let shown : flagged c.self.inside.members ≡ c.args.self.now.instances = ap (λ m. m.instances) c.self.view_is in
    rw (c.position_in.ensures, c.replicas.ensures, ← shown)
    (position_is c.args.tenant.now (flagged c.self.inside.members) c.args.instance (members_differ c.self.inside.members) c.self.invariant.enough)
