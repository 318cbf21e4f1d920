use Rattle.std.proofs.Common.{◌≡◌, ◌++◌}
use Rattle.am_instance.proofs.tenants.Tenants.list.Given as goal

abbrev pub invariant-loop-tenant : goal.invariant-loop-tenant
invariant-loop-tenant l = l.names.items ++ l.tenant-iterator ≡ l.self
