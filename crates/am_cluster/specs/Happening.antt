-- What can happen to one tenant.
use Rattle.std.specs.Prelude.{ℕ, Option}
use Rattle.am_http.specs.declared.request.Request.{Request}
use Rattle.am_limit.specs.declared.limits.Limits.{Limits}
use Rattle.am_cluster.specs.Roster.{RingEvent}

pub data Happening : Type 0 where
  -- a whole request of the tenant came over the connection to the instance, at an event with this moment of its own
  Asked : (connection instance moment : ℕ) (request : Request) → Happening
  -- the tenant got these limits
  Limited : (limits : Limits) → Happening
  -- the clock was told this moment
  Ticked : (moment : ℕ) → Happening
  -- a try of the attempt of this number at the instance, in this incarnation, came to an end, at an event with this
  -- moment of its own: with the status of an answer, or without one
  Tried : (instance incarnation number tries moment : ℕ) (status : Option ℕ) → Happening
  -- the tenant's message of this name reached its receiver, at an event with this moment of its own
  Delivered : (from incarnation to count moment : ℕ) → Happening
  -- the transport gave up the tenant's message of this name
  Lost : (from incarnation to count : ℕ) → Happening
  -- the ring or one of its instances changed
  Changed : (event : RingEvent) → Happening
  -- the tenant's up replicas were made settled
  Forced : Happening
