-- Which client gives way to others, and what its going leaves.
use Rattle.std.specs.Prelude.{◌≡◌, ◌≢◌, ◌⊎◌, ℕ, ◌-◌, ◌/◌, ◌<◌, ◌≤◌, ⊤}
use Rattle.std.specs.Prelude.{List, Option, Some, None, IfSome, slice_index_or, sum_by}
use Rattle.std.specs.List.{FoldsTo}
use Rattle.std.specs.Time.{instant_nanos}
use Rattle.std.specs.declared.time.Instant.{Instant}
use Rattle.slab.specs.Slab.{Slab, Updates, get}
use Rattle.am_serve.specs.Clients.{AwaitsOn, IsAsking}
use Rattle.am_serve.specs.Outgoings.{undelivered}
use Rattle.am_serve.specs.declared.client.Client.{Client}
use Rattle.am_serve.specs.declared.client.Stage.{Stage}
use Rattle.am_serve.specs.declared.client.Stage.TheVariants.{Asking, Awaiting, Telling, Draining}
use Rattle.am_serve.specs.declared.giving.Wanted.{Wanted}
use Rattle.am_serve.specs.declared.giving.Wanted.TheVariants.{Reply, Place}

-- how many bytes a reply holds: all of it, until its last byte was taken
abbrev pub reply_bytes : Stage → ℕ
reply_bytes Asking = 0
reply_bytes Awaiting = 0
reply_bytes (Telling reply) = undelivered reply
reply_bytes Draining = 0

module _ {S : Type 0} where
  abbrev pub reply_bytes_at : Option (Client S) → ℕ
  reply_bytes_at None = 0
  reply_bytes_at (Some client) = reply_bytes client.stage

  -- how many bytes the replies of all clients hold
  abbrev pub reply_bytes_in : List (Option (Client S)) → ℕ
  reply_bytes_in slots = sum_by reply_bytes_at slots

  -- a client has what is wanted: a reply that is under way, or a place that it has had for a second while the host
  -- has no whole request of it
  abbrev pub Gives : Wanted → Client S → Type 0
  Gives Reply client = 0 < reply_bytes client.stage
  Gives (Place now) client =
      IsAsking client.stage × (1 ≤ (instant_nanos now - instant_nanos client.opened) / 1_000_000_000)

  -- a client that has it moved its last byte at this moment or later
  abbrev pub MovedFrom : Wanted → Instant → Option (Client S) → Type 0
  MovedFrom wanted moment slot =
      IfSome slot (λ client. Gives wanted client → instant_nanos moment ≤ instant_nanos client.moved)

  -- and later
  abbrev pub MovedAfter : Wanted → Instant → Option (Client S) → Type 0
  MovedAfter wanted moment slot =
      IfSome slot (λ client. Gives wanted client → instant_nanos moment < instant_nanos client.moved)

  abbrev pub NoneGives : Wanted → Slab (Client S) → Type 0
  NoneGives wanted clients = (key : ℕ) → IfSome (get clients key) (λ client. Gives wanted client → ⊥)

  -- no client waits for the reply to a connection
  abbrev pub NoneAwaits : (connection : ℕ) → Slab (Client S) → Type 0
  NoneAwaits connection clients = (key : ℕ) → IfSome (get clients key) (λ client. AwaitsOn connection client → ⊥)

  -- of the clients that have what is wanted this one is longest without a byte moved, and of those that are as long
  -- the first
  pub record GivesWay (wanted : Wanted) (clients : Slab (Client S)) (key : ℕ) : Type 0 where
    pub client : Client S
    pub there : get clients key ≡ Some client
    pub gives : Gives wanted client
    pub longest : (other : ℕ) → MovedFrom wanted client.moved (get clients other)
    pub first : (other : ℕ) → other < key → MovedAfter wanted client.moved (get clients other)

  -- the same of the keys below one
  pub record GivesWayBelow (wanted : Wanted) (clients : Slab (Client S)) (end key : ℕ) (moved : Instant) : Type 0 where
    pub client : Client S
    pub there : get clients key ≡ Some client
    pub gives : Gives wanted client
    pub moment : client.moved ≡ moved
    pub below : key < end
    pub longest : (other : ℕ) → other < end → MovedFrom wanted moved (get clients other)
    pub first : (other : ℕ) → other < key → MovedAfter wanted moved (get clients other)

  abbrev pub LongestBelow : Wanted → Slab (Client S) → ℕ → Option (ℕ × Instant) → Type 0
  LongestBelow wanted clients end None =
      (key : ℕ) → key < end → IfSome (get clients key) (λ client. Gives wanted client → ⊥)
  LongestBelow wanted clients end (Some found) = GivesWayBelow wanted clients end found.0 found.1

  -- the replies hold at most 256 MiB, or one client's holds all of it
  abbrev pub IsWithin : List (Option (Client S)) → Type 0
  IsWithin slots = (reply_bytes_in slots ≤ 268435456)
      ⊎ ((key : ℕ) × (reply_bytes_at (slice_index_or slots key None) ≡ reply_bytes_in slots))

  -- the replies held more, not one client's alone, and the client that is longest without a byte of its reply taken
  -- was let go
  pub record Relieves (old : Slab (Client S)) (key : ℕ) (new : Slab (Client S)) : Type 0 where
    pub over : 268435456 < reply_bytes_in old.slots
    pub shared : reply_bytes_at (get old key) ≢ reply_bytes_in old.slots
    pub longest : GivesWay Reply old key
    pub gone : Updates old new key None

  -- clients were let go, one after the other, until the replies held no more than they may
  abbrev pub RelievesAll : Slab (Client S) → Slab (Client S) → Type 0
  RelievesAll old new = ((keys : List ℕ) × FoldsTo Relieves old keys new) × IsWithin new.slots

-- a moment comes before that of a client that was found, if one was
abbrev pub IsEarlier : Instant → Option (ℕ × Instant) → Type 0
IsEarlier moved None = ⊤
IsEarlier moved (Some found) = instant_nanos moved < instant_nanos found.1
