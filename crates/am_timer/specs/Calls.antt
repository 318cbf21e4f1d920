-- What a queue answers over a list of calls.
use Rattle.std.specs.Prelude.{ℕ, Bool, true, List, [], ◌∷◌, filter}
use Rattle.am_tenant.specs.Names.{same}
use Rattle.am_timer.specs.Timer.{Name, Timer}
use Rattle.am_timer.specs.Queue.{due_at, with_timer, without}

-- a call: a timer is set or cancelled, or it is asked what is due at a moment
pub data Call : Type 0 where
  Sets : (timer : Timer) → Call
  Cancels : (name : Name) → Call
  Asks : (now : ℕ) → Call

-- what each question for due timers is answered, from a queue of these timers on
abbrev pub answers : List Call → List Timer → List (List Timer)
answers [] timers = []
answers (Sets timer ∷ calls) timers = answers calls (with_timer timer timers)
answers (Cancels name ∷ calls) timers = answers calls (without name timers)
answers (Asks now ∷ calls) timers = due_at now timers ∷ answers calls timers

-- the call is for the tenant: it is asked for all tenants at once
abbrev pub is_for : List ℕ → Call → Bool
is_for t (Sets timer) = same t timer.name.tenant
is_for t (Cancels name) = same t name.tenant
is_for t (Asks now) = true

-- the calls for a tenant, in their order
abbrev pub calls_of : List ℕ → List Call → List Call
calls_of t calls = filter (is_for t) calls
