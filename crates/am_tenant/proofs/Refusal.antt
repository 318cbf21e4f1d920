-- A tenant name is a name that is not refused, and lies in its array as it should.
use Rattle.std.proofs.Common.{◌≡◌, ℕ, ◌≤◌, true, false, List, length, take, Some, None, IsTrue, arith, sym, ap, ◌∙◌, refl}
use Rattle.std.specs.Option.{is_none}
use Rattle.std.proofs.lemmas.Bool.Decides.{nat_tests}
use Rattle.std.proofs.lemmas.Grind.{common_steps}
use Rattle.am_tenant.specs.declared.NameRefusal.{NameRefusal}
use Rattle.am_tenant.specs.Names.{is_tenant_name, longest_name, name_refusal, with_zeros}

-- exactly the tenant names are not refused
pub is_none-name_refusal : (name : List ℕ) → is_none (name_refusal name) ≡ is_tenant_name name
unfolding is_tenant_name name_refusal
is_none-name_refusal name = grind (arith, nat_tests)

-- a name that is not refused is a tenant name
pub tenant_name_where : (name : List ℕ) → None ≡ name_refusal name → IsTrue (is_tenant_name name)
tenant_name_where name h = sym (is_none-name_refusal name) ∙ ap is_none (sym h)

-- and one that is refused is none
pub no_tenant_name_where : (name : List ℕ) (refusal : NameRefusal) → Some refusal ≡ name_refusal name → IsTrue (is_tenant_name name) → false ≡ true
no_tenant_name_where name refusal h is = ap is_none h ∙ is_none-name_refusal name ∙ is

-- a tenant name has at most the greatest length
pub length-tenant_name : (name : List ℕ) → IsTrue (is_tenant_name name) → length name ≤ longest_name
unfolding is_tenant_name
length-tenant_name name h = grind (arith, nat_tests)

-- the front of the array is the name
take-with_zeros : (bytes : List ℕ) → take (length bytes) (with_zeros bytes) ≡ bytes
take-with_zeros bytes = grind (arith, common_steps)

-- the array of a tenant name is the name with zeros after it
pub array-with_zeros : (name : List ℕ) → IsTrue (is_tenant_name name) → (length name ≡ length (take (length name) (with_zeros name))) × (with_zeros name ≡ with_zeros (take (length name) (with_zeros name))) × IsTrue (is_tenant_name (take (length name) (with_zeros name)))
array-with_zeros name h = rw (take-with_zeros name) (refl, refl, h)
