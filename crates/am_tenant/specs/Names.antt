-- Tenant names, as lists of bytes, and why some bytes are none.
use Rattle.std.specs.Prelude.{ℕ, ◌-◌, Bool, ◌&&◌, ◌||◌, not, nat_lt, nat_le, List, ◌++◌, length, replicate, Option, Some, None, if◌then◌else◌, codes, ◌==◌}
use Rattle.std.specs.List.{list_all, list_any}
use Rattle.std.specs.Char.{is_ascii_alphanumeric}
use Rattle.std.specs.Str.{bytes_eq}
use Rattle.am_tenant.specs.declared.NameRefusal.{NameRefusal}
use Rattle.am_tenant.specs.declared.NameRefusal.TheVariants.{Empty, TooLong, BadByte, Reserved}

-- the greatest length of a name, in bytes
abbrev pub longest_name : ℕ
longest_name = 150

-- whether two names are the same bytes
unfoldable pub same : List ℕ → List ℕ → Bool
same a b = bytes_eq a b

-- a byte that may stand in a name: a digit, a letter, or one of ! - _ . * ' ( )
unfoldable pub is_name_byte : ℕ → Bool
is_name_byte b = is_ascii_alphanumeric b || list_any (λ mark. b == mark) (codes "!-_.*'()")

-- the names that no tenant may have
unfoldable pub is_reserved : List ℕ → Bool
is_reserved name = bytes_eq name (codes ".") || bytes_eq name (codes "..") || bytes_eq name (codes "__mimir_cluster")

-- a tenant name: 1 to `longest_name` bytes that may stand in a name, and not reserved
unfoldable pub is_tenant_name : List ℕ → Bool
is_tenant_name name =
    nat_lt 0 (length name) && nat_le (length name) longest_name && list_all is_name_byte name && not (is_reserved name)

-- the first of the four refusals that a name meets: no byte, over `longest_name` bytes, a byte that may not stand in a
-- name, reserved
unfoldable pub name_refusal : List ℕ → Option NameRefusal
name_refusal name =
    if length name == 0 then Some Empty else (
    if nat_lt longest_name (length name) then Some TooLong else (
    if not (list_all is_name_byte name) then Some BadByte else (
    if is_reserved name then Some Reserved else None)))

-- the code of a refusal
abbrev pub code_of : NameRefusal → List ℕ
code_of Empty = codes "N1"
code_of TooLong = codes "N2"
code_of BadByte = codes "N3"
code_of Reserved = codes "N4"

-- how a name lies in its array: its bytes, then zeros up to the greatest length
abbrev pub with_zeros : List ℕ → List ℕ
with_zeros name = name ++ replicate (longest_name - length name) 0
