-- The attempts of all tenants, as pairs of a tenant and an attempt with its number.
use Rattle.std.specs.Prelude.{◌≡◌, ◌⊎◌, ℕ, List, [], ◌∷◌, ◌++◌, map, unwrap_or, if◌then◌else◌}
use Rattle.std.specs.BTreeMap.{BTreeMap}
use Rattle.std.specs.Map.{lookup}
use Rattle.am_tenant.specs.Names.{same}
use Rattle.am_share.specs.Pairs.{things_of}
use Rattle.am_outlet.specs.declared.attempt.Attempt.{Attempt}
use Rattle.am_item.specs.declared.entry.EntryKey.{EntryKey}
use Rattle.am_outlet.specs.Attempts.{Desk, without}

-- the open attempts with their numbers, each tenant's in order of number, and how many numbers each tenant has used
pub record Desks : Type 0 where
  pub attempts : List (List ℕ × (ℕ × Attempt))
  pub counts : List (List ℕ × ℕ)

-- what a tenant has of them
unfoldable pub desk_of : List ℕ → Desks → Desk
desk_of t desks = record { used = unwrap_or (lookup (λ s. same t s) desks.counts) 0; open_ones = things_of t desks.attempts }

-- the attempts of several tenants' desks, and their counts
abbrev pub pairs_in : List (List ℕ × Desk) → List (List ℕ × (ℕ × Attempt))
pairs_in [] = []
pairs_in (e ∷ es) = map (λ p. (e.0, p)) e.1.open_ones ++ pairs_in es

unfoldable pub desks_in : BTreeMap (List ℕ) Desk → Desks
desks_in m = record { attempts = pairs_in m.entries; counts = map (λ e. (e.0, e.1.used)) m.entries }

-- all is as it was, or all but the attempt of one tenant's key, which is gone
abbrev pub IsSameOrWithout : EntryKey → List ℕ → Desks → Desks → Type 0
IsSameOrWithout key tenant old new =
    ((t : List ℕ) → desk_of t new ≡ desk_of t old)
    ⊎ ((t : List ℕ) → desk_of t new ≡ (if same t tenant then without key (desk_of t old) else desk_of t old))
