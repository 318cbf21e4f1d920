-- The file of limits: what it says, or the first place at which it isn't of its form.
use Rattle.std.specs.Prelude.{ℕ, Bool, List, [], ◌∷◌, codes, Option, Some, None, option_and_then, Result, Ok, Err}
use Rattle.std.specs.Prelude.{if◌then◌else◌}
use Rattle.std.specs.List.{list_any}
use Rattle.std.specs.Str.{bytes_eq}
use Rattle.serde_json.specs.Data.{Data, Members, no_members, member}
use Rattle.serde_json.specs.Find.{get, as_number, as_object, as_u64}
use Rattle.am_tenant.specs.Names.{is_tenant_name}
use Rattle.am_text.specs.Outcome.{◌>>=◌, outcome_as}
use Rattle.am_json.specs.Reading.{json}
use Rattle.am_limit.specs.declared.limits.Limits.{Limits}
use Rattle.am_place.specs.Places.{at_key}
use Rattle.am_limits_file.specs.declared.reading.Level.{Level}
use Rattle.am_limits_file.specs.declared.reading.Level.TheVariants as level
use Rattle.am_limits_file.specs.declared.reading.LimitsFile.{LimitsFile}
use Rattle.am_limits_file.specs.declared.reading.TenantLimits.{TenantLimits}
use Rattle.am_limits_file.specs.declared.refusal.LimitsFault.{LimitsFault}
use Rattle.am_limits_file.specs.declared.refusal.LimitsFault.TheVariants.{NotJson, NotObject, UnknownKey, NotNumber}
use Rattle.am_limits_file.specs.declared.refusal.LimitsFault.TheVariants.{NotTenant}
use Rattle.am_limits_file.specs.declared.refusal.LimitsRefusal.{LimitsRefusal}

-- the text is one of these
abbrev pub has_text : List (List ℕ) → List ℕ → Bool
has_text texts text = list_any (λ known. bytes_eq text known) texts

-- what must be there, else this is wrong at the place
abbrev pub stated : {A : Type 0} → List ℕ → LimitsFault → Option A → Result A LimitsRefusal
stated place fault None = Err (record { place = place; fault = fault })
stated place fault (Some x) = Ok x

-- the keys of an object
abbrev pub keys_of : Level → List (List ℕ)
keys_of level.File = codes "default" ∷ codes "tenants" ∷ []
keys_of level.Limits =
    codes "alerts" ∷ codes "silences" ∷ codes "configuration" ∷ codes "silence" ∷ codes "notices"
    ∷ codes "alert_bytes" ∷ []

-- each key is known
abbrev pub known_among : List ℕ → Level → Members → Result (Unit {0}) LimitsRefusal
known_among place l no_members = Ok tt
known_among place l (member key d ms) =
    if has_text (keys_of l) key then known_among place l ms
    else Err (record { place = at_key place key; fault = UnknownKey })

-- an object of keys that are known
abbrev pub known_in : List ℕ → Level → Data → Result (Unit {0}) LimitsRefusal
known_in place l d = stated place NotObject (as_object d) >>= known_among place l

-- a whole number of at most 64 bits
abbrev pub number_in : List ℕ → Data → Result ℕ LimitsRefusal
number_in place d = stated place NotNumber (option_and_then as_u64 (as_number d))

-- .. and this one where there is none
abbrev pub number_or : List ℕ → ℕ → Option Data → Result ℕ LimitsRefusal
number_or place default None = Ok default
number_or place default (Some d) = number_in place d

abbrev pub number_at : List ℕ → List ℕ → ℕ → Data → Result ℕ LimitsRefusal
number_at place key default d = number_or (at_key place key) default (get key d)

-- .. where there may be none either
abbrev pub number_if : List ℕ → Option ℕ → Option Data → Result (Option ℕ) LimitsRefusal
number_if place default None = Ok default
number_if place default (Some d) = do
  number ← number_in place d
  Ok (Some number)

abbrev pub number_if_at : List ℕ → List ℕ → Option ℕ → Data → Result (Option ℕ) LimitsRefusal
number_if_at place key default d = number_if (at_key place key) default (get key d)

-- the limits that an object says, and for the rest these
unfoldable pub limits_in : List ℕ → Limits → Data → Result Limits LimitsRefusal
limits_in place default d = do
  known ← known_in place level.Limits d
  alerts ← number_at place (codes "alerts") default.alerts d
  silences ← number_at place (codes "silences") default.silences d
  configuration ← number_at place (codes "configuration") default.configuration d
  silence ← number_at place (codes "silence") default.silence d
  notices ← number_at place (codes "notices") default.notices d
  alert_bytes ← number_if_at place (codes "alert_bytes") default.alert_bytes d
  Ok (record {
    alerts = alerts;
    silences = silences;
    configuration = configuration;
    silence = silence;
    notices = notices;
    alert_bytes = alert_bytes;
  })

-- the tenant of this name
abbrev pub tenant_named : List ℕ → List ℕ → Result (List ℕ) LimitsRefusal
tenant_named place name = if is_tenant_name name then Ok name else Err (record { place = place; fault = NotTenant })

-- a tenant by its name and what stands at it
unfoldable pub tenant_in : List ℕ → Limits → List ℕ → Data → Result TenantLimits LimitsRefusal
tenant_in place default name d = do
  tenant ← tenant_named (at_key place name) name
  limits ← limits_in (at_key place name) default d
  Ok (record { tenant = tenant; limits = limits })

unfoldable pub tenants_of : List ℕ → Limits → Members → Result (List TenantLimits) LimitsRefusal
tenants_of place default no_members = Ok []
tenants_of place default (member name d ms) = do
  tenant ← tenant_in place default name d
  tenants ← tenants_of place default ms
  Ok (tenant ∷ tenants)

abbrev pub tenants_from : Limits → Data → Result (List TenantLimits) LimitsRefusal
tenants_from default d = stated (codes "tenants") NotObject (as_object d) >>= tenants_of (codes "tenants") default

-- the tenants that are named, in order of name
abbrev pub tenants_or_none : Limits → Option Data → Result (List TenantLimits) LimitsRefusal
tenants_or_none default None = Ok []
tenants_or_none default (Some d) = tenants_from default d

abbrev pub tenants_in : Limits → Data → Result (List TenantLimits) LimitsRefusal
tenants_in default d = tenants_or_none default (get (codes "tenants") d)

-- what holds for a tenant that says nothing, where these limits are the usual ones
abbrev pub default_from : Limits → Option Data → Result Limits LimitsRefusal
default_from usual None = Ok usual
default_from usual (Some d) = limits_in (codes "default") usual d

abbrev pub default_in : Limits → Data → Result Limits LimitsRefusal
default_in usual d = default_from usual (get (codes "default") d)

unfoldable pub file_of : Limits → Data → Result LimitsFile LimitsRefusal
file_of usual d = do
  known ← known_in [] level.File d
  default ← default_in usual d
  tenants ← tenants_in default d
  Ok (record { default = default; tenants = tenants })

-- what the text of a file says, where these limits are the usual ones
abbrev pub file_in : Limits → List ℕ → Result LimitsFile LimitsRefusal
file_in usual text = outcome_as (record { place = []; fault = NotJson }) (json text) >>= file_of usual
