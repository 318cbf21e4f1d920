-- The tenants of whom an instance may have something.
use Rattle.std.specs.Prelude.{◌≡◌, ℕ, Bool, false, ◌||◌, List}
use Rattle.std.specs.Cmp.Lexicographic.{slice_cmp}
use Rattle.std.specs.List.{list_any}
use Rattle.std.specs.List.Sorted.{IsStrictlySortedBy}
use Rattle.std.specs.Ordering.{nat_cmp}
use Rattle.am_cluster.specs.Local.{blank}
use Rattle.am_tenant.specs.Names.{same}
use Rattle.am_instance.specs.declared.instance.Instance.{Instance}
use Rattle.am_instance.specs.Instance.{local_in}

-- the tenant is one of these
abbrev pub is_noted : List ℕ → (names : List (List ℕ)) → Bool
is_noted t names = list_any (same t) names

-- these are noted too
abbrev pub NotesAll : (more old new : List (List ℕ)) → Type 0
NotesAll more old new = (t : List ℕ) → is_noted t new ≡ (is_noted t more || is_noted t old)

-- one is
abbrev pub Notes : (tenant : List ℕ) → (old new : List (List ℕ)) → Type 0
Notes tenant old new = (t : List ℕ) → is_noted t new ≡ (same t tenant || is_noted t old)

-- whoever isn't noted is a tenant of whom the instance has nothing
abbrev pub AreNoted : Instance → Type 0
AreNoted x = (t : List ℕ) → is_noted t x.tenants ≡ false → local_in t x ≡ blank

-- these are all that are noted, in order
pub record AreAllNoted (names : List (List ℕ)) (x : Instance) : Type 0 where
  pub all : names ≡ x.tenants
  pub order : IsStrictlySortedBy (slice_cmp nat_cmp) names
