use Rattle.am_tenant.proofs.Ascii.{tenant_name-IsUtf8}
use Rattle.am_tenant.proofs.TenantName.as_str.Goals as goal

pub unreachable-requires : goal.unreachable-requires
unreachable-requires c = c.in-Err.ensures.cases.0 (rw c.as_bytes.ensures.bytes (tenant_name-IsUtf8 _ c.as_bytes.ensures.name))
