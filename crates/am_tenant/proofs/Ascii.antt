-- A tenant name is ASCII, and so a text.
use Rattle.std.proofs.Common.{◌≡◌, ℕ, ◌<◌, zero, suc, true, List, [], ◌∷◌, IsTrue, arith}
use Rattle.std.specs.List.{list_all}
use Rattle.std.specs.Str.{IsAscii, IsUtf8}
use Rattle.std.proofs.lemmas.Str.{IsUtf8-from_ascii}
use Rattle.std.proofs.lemmas.Bool.{and_parts}
use Rattle.std.proofs.lemmas.Bool.Decides.{nat_tests}
use Rattle.am_tenant.specs.Names.{is_name_byte, is_tenant_name}

-- a byte that may stand in a name is below 128
name_byte_below : (b : ℕ) → is_name_byte b ≡ true → b < 128
unfolding is_name_byte
name_byte_below b h = grind (arith, nat_tests)

-- and so is each byte of a list of them
name_bytes-IsAscii : (bytes : List ℕ) → list_all is_name_byte bytes ≡ true → IsAscii bytes
name_bytes-IsAscii [] h i = omega arith
name_bytes-IsAscii (b ∷ bytes) h zero = name_byte_below b (and_parts _ _ h).0
name_bytes-IsAscii (b ∷ bytes) h (suc i) = name_bytes-IsAscii bytes (and_parts _ _ h).1 i

-- a tenant name is UTF-8
pub tenant_name-IsUtf8 : (name : List ℕ) → IsTrue (is_tenant_name name) → IsUtf8 name
unfolding is_tenant_name
tenant_name-IsUtf8 name h = IsUtf8-from_ascii name (name_bytes-IsAscii name (grind arith))
