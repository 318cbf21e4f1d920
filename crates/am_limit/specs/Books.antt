-- The limits of all tenants.
use Rattle.std.specs.Prelude.{ℕ, List, [], unwrap_or}
use Rattle.std.specs.Map.{lookup}
use Rattle.am_tenant.specs.Names.{same}
use Rattle.am_limit.specs.declared.limits.Limits.{Limits}

-- the limits of a tenant until others are set for it, and those that were set, as pairs of a tenant and its limits
pub record Book : Type 0 where
  pub usual : Limits
  pub own : List (List ℕ × Limits)

-- none were set
abbrev pub unset_book : Limits → Book
unset_book usual = record { usual = usual; own = [] }

-- the limits of a tenant: the usual ones where none were set
unfoldable pub limits_of : List ℕ → Book → Limits
limits_of t book = unwrap_or (lookup (λ s. same t s) book.own) book.usual
