-- The limits of a tenant, and how many notices one instance may send it in a minute of the clock.
use Rattle.std.specs.Prelude.{◌≡◌, ◌≤◌, ℕ, ◌+◌, ◌/◌, ◌==◌, nat_lt, Bool, if◌then◌else◌, List, [], ◌∷◌, ◌++◌, None}
use Rattle.std.specs.List.{count_by}
use Rattle.am_limit.specs.declared.limits.Limits.{Limits}

-- the limits of a tenant for which none were set: 10,000 alerts, 1,000 silences, 131,072 and 16,384 bytes, 60 notices a
-- minute, and none on the bytes of its alerts
abbrev pub default_limits : Limits
default_limits = record {
  alerts = 10_000;
  silences = 1000;
  configuration = 131_072;
  silence = 16_384;
  notices = 60;
  alert_bytes = None;
}

-- the minute of the clock in which a moment lies
abbrev pub minute_of : ℕ → ℕ
minute_of moment = moment / 60_000

-- how many of these moments lie in a minute
abbrev pub count_in : ℕ → List ℕ → ℕ
count_in minute moments = count_by (λ moment. minute_of moment == minute) moments

-- whether a notice may be given, after those that were given at these moments
abbrev pub may_take : ℕ → List ℕ → ℕ → Bool
may_take limit taken moment = nat_lt (count_in (minute_of moment) taken) limit

-- the moments at which one was given, once one more was asked for
abbrev pub taken_after : ℕ → List ℕ → ℕ → List ℕ
taken_after limit taken moment = if may_take limit taken moment then taken ++ moment ∷ [] else taken

-- what an allowance holds: its limit, the last minute in which it gave a notice, and how many it gave then
pub record Count : Type 0 where
  pub limit : ℕ
  pub minute : ℕ
  pub used : ℕ

-- no notice was given yet
abbrev pub fresh : ℕ → Count
fresh limit = record { limit = limit; minute = 0; used = 0 }

-- another limit
abbrev pub with_limit : Count → ℕ → Count
with_limit a limit = record { limit = limit; minute = a.minute; used = a.used }

-- how many it gave in a minute, by what it holds
abbrev pub used_in : Count → ℕ → ℕ
used_in a minute = if a.minute == minute then a.used else 0

-- whether it gives one more
abbrev pub has_room : Count → ℕ → Bool
has_room a moment = nat_lt (used_in a (minute_of moment)) a.limit

-- the allowance, once one more was asked for
abbrev pub after_asking : Count → ℕ → Count
after_asking a moment =
    if has_room a moment
    then record { limit = a.limit; minute = minute_of moment; used = used_in a (minute_of moment) + 1 }
    else a

-- and once it was asked at each of these moments, in their order
abbrev pub after_asking_all : Count → List ℕ → Count
after_asking_all a [] = a
after_asking_all a (moment ∷ later) = after_asking_all (after_asking a moment) later

-- from its last minute on it has counted the notices that were given at these moments
abbrev pub HasCounted : Count → List ℕ → Type 0
HasCounted a taken = (minute : ℕ) → a.minute ≤ minute → used_in a minute ≡ count_in minute taken

-- a clock that shows these moments in their order, from a first one on, does not go back
abbrev pub IsForward : ℕ → List ℕ → Type 0
IsForward from [] = Unit {0}
IsForward from (moment ∷ later) = (from ≤ moment) × IsForward moment later
