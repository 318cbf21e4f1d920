-- The timers by which States and Asks are sent again.
use Rattle.std.specs.Prelude.{◌≡◌, ℕ, Bool, true, false, ◌&&◌, ◌==◌, List, ◌++◌, Option, Some, None, if◌then◌else◌}
use Rattle.std.specs.Map.{keys_of}
use Rattle.am_ring.specs.Instances.{is_among}
use Rattle.am_tenant.specs.Names.{same}
use Rattle.am_timer.specs.Tied.{has_timer}
use Rattle.am_timer.specs.Timer.{Key, Name, Timer}
use Rattle.am_timer.specs.declared.key.TimerKey.TheVariants.{Operation, Group, Retry, Push}
use Rattle.am_transfer.specs.Progress.{Progress, due_of}
use Rattle.am_transfer.specs.Tenants.{progress_of}

-- what is kept of all tenants, and the timers, in order
pub record Room : Type 0 where
  pub progress : List (List ℕ × Progress)
  pub timers : List Timer

-- the name of the timer of what is sent again to an instance
abbrev pub name_of : (tenant : List ℕ) → (instance : ℕ) → Name
name_of tenant instance = record { tenant = tenant; key = Push instance }

-- when what a key is for is sent again
abbrev pub due_for : Key → Progress → Option ℕ
due_for (Operation number) p = None
due_for (Group key) p = None
due_for (Retry number) p = None
due_for (Push instance) p = due_of instance p

-- it is at this moment
abbrev pub is_at : Option ℕ → ℕ → Bool
is_at None moment = false
is_at (Some due) moment = due == moment

-- a timer is told by what is kept of its tenant
abbrev pub is_told : Timer → List (List ℕ × Progress) → Bool
is_told x progress = is_at (due_for x.name.key (progress_of x.name.tenant progress)) x.due

-- the timers are exactly those that are told
abbrev pub AreTimed : Room → Type 0
AreTimed room = (x : Timer) → has_timer room.timers x ≡ is_told x room.progress

-- ---- the timers of a tenant that may change

-- the key is for something that goes to one of these instances
abbrev pub names_one : List ℕ → Key → Bool
names_one instances (Operation number) = false
names_one instances (Group key) = false
names_one instances (Retry number) = false
names_one instances (Push instance) = is_among instance instances

-- .. and it is this tenant's timer
abbrev pub is_for : (tenant instances : List ℕ) → Timer → Bool
is_for tenant instances x = same tenant x.name.tenant && names_one instances x.name.key

-- to whom something may be sent again
abbrev pub told_to : Progress → List ℕ
told_to p = p.asked ++ keys_of p.settling.pushes

-- the timers of a tenant for these instances are those that are told now, and all others stay
abbrev pub AreRefreshed : (tenant instances : List ℕ) → List (List ℕ × Progress) → (old new : List Timer) → Type 0
AreRefreshed tenant instances progress old new =
    (x : Timer) → has_timer new x ≡ (if is_for tenant instances x then is_told x progress else has_timer old x)

-- .. are gone, and all others stay
abbrev pub AreCancelled : (tenant instances : List ℕ) → (old new : List Timer) → Type 0
AreCancelled tenant instances old new =
    (x : Timer) → has_timer new x ≡ (if is_for tenant instances x then false else has_timer old x)
