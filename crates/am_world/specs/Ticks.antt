-- A tick of the instances, one after the other.
use Rattle.std.specs.Prelude.{◌≡◌, ◌⊎◌, ℕ, ◌+◌, ◌-◌, ◌^◌, true, List, [], ◌∷◌, ◌++◌, Some, min}
use Rattle.am_cluster.specs.Events.{Output}
use Rattle.am_item.specs.declared.fault.Fault.{Fault}
use Rattle.am_instance.specs.Instance.{IsDown, IsSameNode, refused_in}
use Rattle.am_instance.specs.Ticks.{StopsTicking, Ticks}
use Rattle.am_world.specs.Consistent.{around_at}
use Rattle.am_world.specs.Places.{At, ChangesAt, Turns, cause_at, up_at}
use Rattle.am_world.specs.Posting.{IsSamePost, Posts}
use Rattle.am_world.specs.Simulation.{IsSameBeside, fault_count, put_out}
use Rattle.am_world.specs.declared.state.State.{State}

-- the instance of a number ticked at the moment of the clock, where it is up: what it told is posted and put out
pub record TicksAt (i : ℕ) (w w' : State) : Type 0 where
  pub told : List Output
  pub ticks : Turns i (λ x x'. Ticks (around_at w.clock w) x x' [] told) w.instances w'.instances
  pub posts : Posts w.clock told w.messages w'.messages
  pub appended : put_out w' ≡ put_out w ++ told
  pub faults : fault_count w' ≡ fault_count w

-- it stopped for a cause, nothing is put out, every message is as it was, and one fault more is counted
pub record StopsAt (i : ℕ) (w w' : State) : Type 0 where
  pub worked : up_at i w.instances ≡ true
  pub down : At i IsDown w'.instances
  pub fault : Fault
  pub told : cause_at i w'.instances ≡ Some fault
  pub cause : Turns i (λ x x'. StopsTicking (around_at w.clock w) x (refused_in x') fault) w.instances w'.instances
  pub posted : IsSamePost w.messages w'.messages
  pub silent : put_out w' ≡ put_out w
  pub faults : fault_count w' ≡ min (fault_count w + 1) (2 ^ 64 - 1)

-- the turn of the instance of a number: it goes on, or stops
pub record TakesTurn (i : ℕ) (w w' : State) : Type 0 where
  pub ends : TicksAt i w w' ⊎ StopsAt i w w'
  pub stays : Turns i IsSameNode w.instances w'.instances
  pub others : ChangesAt i w.instances w'.instances
  pub beside : IsSameBeside w w'

-- instances of these numbers took their turns in this order
abbrev pub TakeTurns : List ℕ → State → State → Type 0
TakeTurns [] w w' = w' ≡ w
TakeTurns (i ∷ is) w w' = (mid : State) × TakesTurn i w mid × TakeTurns is mid w'
