-- What the outcome of a try makes of its attempt.
use Rattle.std.specs.Prelude.{ℕ, ◌+◌, ◌-◌, ◌==◌, Bool, true, false, ◌&&◌, nat_le, nat_lt, min, is_none, List, [], ◌∷◌, Option, Some, None, option_map, slice_get, if◌then◌else◌}
use Rattle.am_text.specs.Moment.{greatest_moment}
use Rattle.am_outlet.specs.declared.attempt.Attempt.{Attempt}
use Rattle.am_outlet.specs.declared.outcome.Outcome.{Outcome}
use Rattle.am_outlet.specs.declared.outcome.Outcome.TheVariants.{Delivered, Again, GivenUp}

-- the outcome of this try is awaited
abbrev pub awaits : ℕ → Attempt → Bool
awaits tries attempt = attempt.tries == tries && is_none attempt.again

-- a webhook that answers with a status from 200 to 299 was told
abbrev pub is_delivered : Option ℕ → Bool
is_delivered None = false
is_delivered (Some status) = nat_le 200 status && nat_lt status 300

-- one that doesn't answer, or answers with a status from 500 to 599, may be told again
abbrev pub is_to_retry : Option ℕ → Bool
is_to_retry None = true
is_to_retry (Some status) = nat_le 500 status && nat_lt status 600

-- how many milliseconds after the outcome of the first, second, third and fourth try the next one is due
abbrev pub waits : List ℕ
waits = 10_000 ∷ 20_000 ∷ 40_000 ∷ 80_000 ∷ []

-- when the next try is due after so many, where there is one
abbrev pub next_due : ℕ → ℕ → Option ℕ → Option ℕ
next_due tries moment status =
    if is_to_retry status then option_map (λ wait. min (moment + wait) greatest_moment) (slice_get waits (tries - 1)) else None

-- another try, or none
abbrev pub again_or_never : Option ℕ → Outcome
again_or_never None = GivenUp
again_or_never (Some due) = Again due

-- what the outcome of the open try makes of its attempt
abbrev pub fate_of : Attempt → ℕ → Option ℕ → Outcome
fate_of attempt moment status =
    if is_delivered status then Delivered attempt.notice else again_or_never (next_due attempt.tries moment status)
