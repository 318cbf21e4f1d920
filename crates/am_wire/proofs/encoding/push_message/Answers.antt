use Rattle.std.proofs.Common.{arith}
use Rattle.am_wire.proofs.Tenants.{length-tenant_name}
use Rattle.am_wire.proofs.encoding.push_message.Goals as goal

pub overflow_cast-tenant : goal.overflow_cast-tenant
overflow_cast-tenant c = rw c.as_bytes-tenant.ensures.bytes (let short = length-tenant_name _ c.as_bytes-tenant.ensures.name in omega arith)
