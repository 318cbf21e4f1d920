-- What is to be set where a file of limits replaces another.
use Rattle.std.specs.Prelude.{◌≡◌, ℕ, ◌==◌, Bool, ◌&&◌, false, true, if◌then◌else◌, List, [], ◌∷◌, codes}
use Rattle.std.specs.Prelude.{Option, None, Some, Result, Ok, Err}
use Rattle.std.specs.List.{list_any}
use Rattle.std.specs.Map.{lookup}
use Rattle.am_tenant.specs.Names.{same}
use Rattle.am_limit.specs.Books.{Book, limits_of}
use Rattle.am_limit.specs.declared.limits.Limits.{Limits}
use Rattle.am_text.specs.Outcome.{◌>>=◌}
use Rattle.am_limits_file.specs.LimitsFiles.{file_in}
use Rattle.am_limits_file.specs.declared.reading.LimitsFile.{LimitsFile}
use Rattle.am_limits_file.specs.declared.reading.TenantLimits.{TenantLimits}
use Rattle.am_limits_file.specs.declared.refusal.LimitsFault.TheVariants.{Fixed}
use Rattle.am_limits_file.specs.declared.refusal.LimitsRefusal.{LimitsRefusal}

-- a tenant is one of these
abbrev pub names : List ℕ → List TenantLimits → Bool
names t tenants = list_any (λ named. same t named.tenant) tenants

-- the limits of a tenant among these, and where it isn't among them those
abbrev pub limits_among : List ℕ → Limits → List TenantLimits → Limits
limits_among t limits [] = limits
limits_among t limits (named ∷ later) = limits_among t (if same t named.tenant then named.limits else limits) later

-- the limits of a tenant by a file: the default where it isn't named
abbrev pub limits_by : List ℕ → LimitsFile → Limits
limits_by t file = limits_among t file.default file.tenants

-- two numbers are the same, or there is neither
abbrev pub same_if_any : Option ℕ → Option ℕ → Bool
same_if_any None None = true
same_if_any (Some m) (Some n) = m == n
same_if_any _ _ = false

abbrev pub same_limits : Limits → Limits → Bool
same_limits a b =
    a.alerts == b.alerts && (a.silences == b.silences && (a.configuration == b.configuration
    && (a.silence == b.silence && (a.notices == b.notices && same_if_any a.alert_bytes b.alert_bytes))))

-- what is to be set of a tenant that has these limits and is to have those: nothing where they are the same
abbrev pub change_of : Limits → Limits → Option Limits
change_of was next = if same_limits was next then None else Some next

-- .. by what all tenants have and are to have
abbrev pub change_for : List ℕ → Book → Book → Option Limits
change_for t before after = change_of (limits_of t before) (limits_of t after)

-- what is set of a tenant, by pairs of a tenant and its limits
abbrev pub set_of : List ℕ → List (List ℕ × Limits) → Option Limits
set_of t changes = lookup (λ s. same t s) changes

-- what is to be set where one file replaces another: of each tenant its limits by the other, unless they are the same
abbrev pub AreChanges : LimitsFile → LimitsFile → List (List ℕ × Limits) → Type 0
AreChanges was next changes = (t : List ℕ) → set_of t changes ≡ change_of (limits_by t was) (limits_by t next)

-- a file with another default replaces none
abbrev pub default_fixed : LimitsRefusal
default_fixed = record { place = codes "default"; fault = Fixed }

-- a file may replace one that has the same default
abbrev pub with_same_default : LimitsFile → LimitsFile → Result LimitsFile LimitsRefusal
with_same_default was next = if same_limits was.default next.default then Ok next else Err default_fixed

-- the file that a text puts in the place of one, or why it is refused, where these limits are the usual ones
unfoldable pub file_after : (usual : Limits) → LimitsFile → List ℕ → Result LimitsFile LimitsRefusal
file_after usual was text = file_in usual text >>= with_same_default was

-- what is set of a tenant once it was noted, or not: what was set of it before stays where nothing is to be set
abbrev pub noted : Bool → Option Limits → Option Limits → Option Limits
noted true (Some limits) before = Some limits
noted true None before = before
noted false change before = before
