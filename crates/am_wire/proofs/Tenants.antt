-- The length of a tenant name fits a byte.
use Rattle.std.proofs.Common.{ℕ, ◌≤◌, List, length, IsTrue, arith}
use Rattle.std.proofs.lemmas.Bool.Decides.{nat_tests}
use Rattle.am_tenant.specs.Names.{is_tenant_name, longest_name}

pub length-tenant_name : (name : List ℕ) → IsTrue (is_tenant_name name) → length name ≤ longest_name
unfolding is_tenant_name
length-tenant_name name is = grind (arith, nat_tests)
