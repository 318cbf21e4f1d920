-- Of each tenant something is told at most once a second, with how many were left out since it was last told.
use Rattle.std.specs.Prelude.{◌≤◌, ℕ, ◌+◌, ◌-◌, ◌==◌, ◌&&◌, Bool, List, [], ◌∷◌, Option, None, Some}
use Rattle.std.specs.Prelude.{min, nat_le, sum_by, if◌then◌else◌}
use Rattle.std.specs.Map.{lookup}
use Rattle.am_tenant.specs.Names.{same}
use Rattle.am_log.specs.declared.throttle.Recent.{Recent}

-- what is kept of a tenant
unfoldable pub recent_of : List ℕ → List (List ℕ × Recent) → Option Recent
recent_of t kept = lookup (λ name. same t name) kept

-- whether a second has passed since something was told
abbrev pub is_past : ℕ → Recent → Bool
is_past moment recent = nat_le 1000 (moment - recent.told)

-- whether it makes no difference any more that something was told
abbrev pub is_over : ℕ → Recent → Bool
is_over moment recent = is_past moment recent && (recent.left_out == 0)

-- what is kept of a tenant, once those are forgotten of whom it makes no difference
abbrev pub once_forgotten : ℕ → Option Recent → Option Recent
once_forgotten moment None = None
once_forgotten moment (Some recent) = if is_over moment recent then None else Some recent

-- one more came at a moment: how many were left out before it, where it is told
abbrev pub told_at : ℕ → Option Recent → Option ℕ
told_at moment None = Some 0
told_at moment (Some recent) = if is_past moment recent then Some recent.left_out else None

-- what is kept then
abbrev pub after_one : ℕ → Option Recent → Recent
after_one moment None = record { told = moment; left_out = 0 }
after_one moment (Some recent) =
    if is_past moment recent
    then record { told = moment; left_out = 0 }
    else record { told = recent.told; left_out = min (recent.left_out + 1) 18446744073709551615 }

-- what is told of a tenant of whom something comes at each of these moments: when, and with how many that were left out
abbrev pub with_told : ℕ → Option ℕ → List (ℕ × ℕ) → List (ℕ × ℕ)
with_told moment None told = told
with_told moment (Some left_out) told = (moment, left_out) ∷ told

abbrev pub told_of_all : Option Recent → List ℕ → List (ℕ × ℕ)
told_of_all recent [] = []
told_of_all recent (moment ∷ later) =
    with_told moment (told_at moment recent) (told_of_all (Some (after_one moment recent)) later)

-- what is kept of it then
abbrev pub after_all : Option Recent → List ℕ → Option Recent
after_all recent [] = recent
after_all recent (moment ∷ later) = after_all (Some (after_one moment recent)) later

-- how many were left out since something was last told
abbrev pub left_out_in : Option Recent → ℕ
left_out_in None = 0
left_out_in (Some recent) = recent.left_out

-- how many were told, or left out before they were
abbrev pub count_in : List (ℕ × ℕ) → ℕ
count_in told = sum_by (λ (one : ℕ × ℕ). one.1 + 1) told

-- these were told one after the other, at least a second apart, the first at least a second after a moment
abbrev pub AreApartAfter : ℕ → List (ℕ × ℕ) → Type 0
AreApartAfter before [] = Unit {0}
AreApartAfter before (one ∷ later) = (before + 1000 ≤ one.0) × AreApartAfter one.0 later

-- .. whenever the first was
abbrev pub AreApart : List (ℕ × ℕ) → Type 0
AreApart [] = Unit {0}
AreApart (one ∷ later) = AreApartAfter one.0 later
