use Rattle.std.proofs.Common.{◌≡◌, count_by, take}
use Rattle.am_instance.specs.Here.{circumstances}
use Rattle.am_instance.specs.Standing.{is_replica_for}
use Rattle.am_instance.proofs.instance.Instance.replicas_among.Given as goal

abbrev pub invariant-loop-tenant : goal.invariant-loop-tenant
invariant-loop-tenant l = l.count ≡ count_by (is_replica_for (circumstances l.occasion) l.self) (take l.tenant-index l.tenants)
