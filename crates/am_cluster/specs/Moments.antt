-- The moments of events: which may be told, and when an event happens.
use Rattle.std.specs.Prelude.{ℕ, Bool, ◌||◌, nat_lt, max}

-- the last moment that an event may tell, in milliseconds since 1970
abbrev pub last_moment : ℕ
last_moment = 250_000_000_000_000

-- the moment lies past the last one
abbrev pub is_too_late : ℕ → Bool
is_too_late moment = nat_lt last_moment moment

-- the moment at which an event happens: its own, but never before the last tick
abbrev pub effective : (own clock : ℕ) → ℕ
effective own clock = max own clock

-- a tick is refused: its moment lies past the last one, or the clock would go back
abbrev pub is_refused_tick : (moment clock : ℕ) → Bool
is_refused_tick moment clock = is_too_late moment || nat_lt moment clock
