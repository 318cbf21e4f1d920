-- The moment by a wall clock that may be set while time goes on. All is in milliseconds; `now` is of the monotonic
-- clock.
use Rattle.std.specs.Prelude.{ℕ, ◌+◌, ◌-◌, min, max, nat_lt, Option, Some, None}
use Rattle.std.specs.Prelude.{Bool, true, not, ◌&&◌, ◌||◌, if◌then◌else◌}
use Rattle.am_serve.specs.declared.clock.ClockNews.{ClockNews}
use Rattle.am_serve.specs.declared.clock.ClockNews.TheVariants.{Behind, Ahead, Believed}
use Rattle.am_serve.specs.declared.clock.SteadyClock.{SteadyClock}

-- the last moment and what the monotonic clock went on since, below 2^64
abbrev pub paced : ℕ → SteadyClock → ℕ
paced now clock = min (clock.moment + (now - clock.at)) 18446744073709551615

-- a wall clock that is too far ahead hasn't been so for 30 seconds
abbrev pub is_young : ℕ → Option ℕ → Bool
is_young now None = true
is_young now (Some since) = nat_lt (now - since) 30000

-- the wall clock is over 60 seconds ahead, and hasn't been so for 30
abbrev pub is_doubted : ℕ → ℕ → SteadyClock → Bool
is_doubted wall now clock = nat_lt 60000 (wall - paced now clock) && is_young now clock.ahead_since

abbrev pub or_now : ℕ → Option ℕ → ℕ
or_now now None = now
or_now now (Some since) = since

-- the wall clock's moment where that is believed and not behind
abbrev pub after : ℕ → ℕ → SteadyClock → SteadyClock
after wall now clock = record {
  moment = if is_doubted wall now clock then paced now clock else max (paced now clock) wall;
  at = max clock.at now;
  ahead_since = if is_doubted wall now clock then Some (or_now now clock.ahead_since) else None;
  is_behind = nat_lt 0 (paced now clock - wall) && (clock.is_behind || not (nat_lt (paced now clock - wall) 1000));
}

-- it is told once that the wall clock isn't believed yet
abbrev pub first_ahead : Option ℕ → ℕ → Option ClockNews
first_ahead None by = Some (Ahead by)
first_ahead (Some _) by = None

abbrev pub news : ℕ → ℕ → SteadyClock → Option ClockNews
news wall now clock =
    if is_doubted wall now clock then first_ahead clock.ahead_since (wall - paced now clock)
    else if nat_lt 60000 (wall - paced now clock) then Some (Believed (wall - paced now clock))
    else if not clock.is_behind && not (nat_lt (paced now clock - wall) 1000)
    then Some (Behind (paced now clock - wall))
    else None
