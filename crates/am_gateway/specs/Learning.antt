-- Which instance goes on to the next ring.
use Rattle.std.specs.Prelude.{ℕ, Bool, Option, find, is_none}
use Rattle.am_event.specs.declared.event.Event.TheVariants as event
use Rattle.am_ring.specs.Instances.{all_instances}
use Rattle.am_world.specs.Refusal.{refusal}
use Rattle.am_world.specs.declared.state.State.{State}

-- the instance is up, and knows a ring that isn't the newest: it may learn
unfoldable pub is_behind : State → ℕ → Bool
is_behind state i = is_none (refusal state (event.Learn i))

-- the lowest of these, where one is
unfoldable pub behind : State → Option ℕ
behind state = find (is_behind state) all_instances
