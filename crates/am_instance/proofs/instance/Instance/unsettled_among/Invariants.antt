use Rattle.std.proofs.Common.{◌≡◌, filter, take}
use Rattle.am_instance.specs.Here.{circumstances}
use Rattle.am_instance.specs.Standing.{is_unsettled_for}
use Rattle.am_instance.proofs.instance.Instance.unsettled_among.Given as goal

abbrev pub invariant-loop-tenant : goal.invariant-loop-tenant
invariant-loop-tenant l =
    l.unsettled.items ≡ filter (is_unsettled_for (circumstances l.occasion) l.self) (take l.tenant-index l.tenants)
