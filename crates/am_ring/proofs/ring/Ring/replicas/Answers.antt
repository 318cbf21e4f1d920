use Rattle.std.proofs.Common.{◌≡◌, ap, sym, arith}
use Rattle.am_ring.specs.Instances.{flagged}
use Rattle.am_ring.proofs.Flags.{members_differ}
use Rattle.am_ring.proofs.Positions.{fewer, nearest_three}
use Rattle.am_ring.proofs.ring.Ring.replicas.Goals as goal

pub take_nearest-second-requires : goal.take_nearest-second-requires
take_nearest-second-requires c =
    fewer c.self.inside.members _ c.take_nearest-first.result 0 c.take_nearest-first.ensures.left c.take_nearest-first.ensures.first.among
    (omega (arith, c.self.invariant.enough))

pub take_nearest-third-requires : goal.take_nearest-third-requires
take_nearest-third-requires c =
    fewer c.take_nearest-first.new.left _ c.take_nearest-second.result 0 c.take_nearest-second.ensures.left c.take_nearest-second.ensures.first.among
    (fewer c.self.inside.members _ c.take_nearest-first.result 1 c.take_nearest-first.ensures.left c.take_nearest-first.ensures.first.among
    (omega (arith, c.self.invariant.enough)))

pub returns : goal.returns
returns c =
    let shown : flagged c.self.inside.members ≡ c.args.self.now.instances = ap (λ m. m.instances) c.self.view_is in
    let second = rw (c.place-place.ensures, c.take_nearest-first.ensures.left) at c.take_nearest-second.ensures.first in
    let third = rw (c.place-place.ensures, c.take_nearest-second.ensures.left, c.take_nearest-first.ensures.left) at c.take_nearest-third.ensures.first in
    rw (← shown) (sym (nearest_three c.args.tenant.now (flagged c.self.inside.members) _ _ _ (members_differ c.self.inside.members)
    (rw c.place-place.ensures at c.take_nearest-first.ensures.first) second third))
