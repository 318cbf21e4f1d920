use Rattle.std.proofs.Common.{refl}
use Rattle.am_tenant.proofs.Refusal.{length-tenant_name, tenant_name_where, no_tenant_name_where, array-with_zeros}
use Rattle.am_tenant.proofs.TenantName.read.Goals as goal

pub pad-requires : goal.pad-requires
pad-requires c = length-tenant_name _ (tenant_name_where _ c.in-None.ensures)

pub invariant_of-result : goal.invariant_of-result
invariant_of-result c = rw c.pad.ensures (array-with_zeros _ (tenant_name_where _ c.in-None.ensures))

pub returns-in-Some-clause-ok : goal.returns-in-Some-clause-ok
returns-in-Some-clause-ok c = (λ h. absurd (cc), λ h. no_tenant_name_where _ _ c.in-Some.ensures h)

pub returns-in-None-clause-ok : goal.returns-in-None-clause-ok
returns-in-None-clause-ok c = (λ h. tenant_name_where _ c.in-None.ensures, λ h. refl)
