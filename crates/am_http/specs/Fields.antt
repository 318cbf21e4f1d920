-- What the fields of a head say: a field is its name and its value, the latter without blanks at both ends.
use Rattle.std.specs.Prelude.{ℕ, Bool, false, ◌&&◌, nat_lt, List, [], ◌∷◌, length, map, Option, Some, None, Result, Ok, Err, if◌then◌else◌, ◌==◌, codes}
use Rattle.std.specs.List.{list_all, list_any}
use Rattle.std.specs.Str.{str_eq_ignore_ascii_case}
use Rattle.std.specs.Char.{is_ascii_digit}
use Rattle.std.specs.Str.Parse.{digits_value}
use Rattle.am_tenant.specs.Names.{name_refusal}
use Rattle.am_tenant.specs.declared.NameRefusal.{NameRefusal}
use Rattle.am_tenant.specs.declared.NameRefusal.TheVariants.{Empty, TooLong, BadByte, Reserved}
use Rattle.am_http.specs.declared.refusal.FrontRefusal.{FrontRefusal}
use Rattle.am_http.specs.declared.refusal.FrontRefusal.TheVariants.{BadLength, NoTenant, EmptyTenant, TenantTooLong, BadTenant, TenantTwice, ReservedTenant}

-- the fields as names and values
abbrev pub Fields : Type 0
Fields = List (List ℕ × List ℕ)

-- whether there is a field of this name, in any case
abbrev pub has_field : List ℕ → Fields → Bool
has_field name fields = list_any (λ f. str_eq_ignore_ascii_case f.0 name) fields

-- the values of the fields of a name, whatever its case, in order
abbrev pub values_of : List ℕ → Fields → List (List ℕ)
values_of name [] = []
values_of name (f ∷ fields) =
    if str_eq_ignore_ascii_case f.0 name then f.1 ∷ values_of name fields else values_of name fields

-- decimal digits, one at least
abbrev pub is_digits : List ℕ → Bool
is_digits digits = nat_lt 0 (length digits) && list_all is_ascii_digit digits

-- the number that decimal digits write
abbrev pub number : List ℕ → Option ℕ
number digits = if is_digits digits then Some (digits_value 10 digits) else None

-- whether this is the number n
abbrev pub is_number : ℕ → Option ℕ → Bool
is_number n None = false
is_number n (Some m) = m == n

-- the number that all of them are; refused where one is none, or two differ
abbrev pub agreed : List (Option ℕ) → Result (Option ℕ) FrontRefusal
agreed [] = Ok None
agreed (None ∷ numbers) = Err BadLength
agreed (Some n ∷ numbers) = if list_all (is_number n) numbers then Ok (Some n) else Err BadLength

-- the length of the body, where Content-Length states one
abbrev pub content_length : Fields → Result (Option ℕ) FrontRefusal
content_length fields = agreed (map number (values_of (codes "Content-Length") fields))

-- the front's refusal for a tenant's name that is refused
abbrev pub tenant_refusal : NameRefusal → FrontRefusal
tenant_refusal Empty = EmptyTenant
tenant_refusal TooLong = TenantTooLong
tenant_refusal BadByte = BadTenant
tenant_refusal Reserved = ReservedTenant

-- a name that isn't refused
abbrev pub named : List ℕ → Option NameRefusal → Result (List ℕ) FrontRefusal
named name None = Ok name
named name (Some refusal) = Err (tenant_refusal refusal)

-- the tenant that the values of X-Scope-OrgID name: one value, which is a tenant's name
abbrev pub tenant_in : List (List ℕ) → Result (List ℕ) FrontRefusal
tenant_in [] = Err NoTenant
tenant_in (value ∷ []) = named value (name_refusal value)
tenant_in (_ ∷ _ ∷ _) = Err TenantTwice

-- the tenant of a head
abbrev pub tenant_of : Fields → Result (List ℕ) FrontRefusal
tenant_of fields = tenant_in (values_of (codes "X-Scope-OrgID") fields)
