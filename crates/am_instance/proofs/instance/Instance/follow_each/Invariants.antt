use Rattle.std.proofs.Common.{take}
use Rattle.am_instance.specs.Here.{circumstances}
use Rattle.am_instance.proofs.Following.{FollowsThrough}
use Rattle.am_instance.proofs.instance.Instance.follow_each.Given as goal

abbrev pub invariant-loop-tenant : goal.invariant-loop-tenant
invariant-loop-tenant l =
    FollowsThrough (circumstances l.occasion) l.start (take l.tenant-index l.names) l.fn.self l.self l.told.items
