-- What is done to a table of clients.
use Rattle.std.specs.Prelude.{◌≡◌, ◌≢◌, ◌⊎◌, ℕ, ◌+◌, Bool, true, false, not, List, Option, Some, None, IsSomeAnd}
use Rattle.std.specs.declared.time.Instant.{Instant}
use Rattle.slab.specs.Slab.{Slab, get}
use Rattle.am_serve.specs.Acts.{Act, Ask, standing}
use Rattle.am_serve.specs.Clients.{AwaitsOn, IsAsking, IsGiven, Turned, first_client, lets_go}
use Rattle.am_serve.specs.Giving.{GivesWay, RelievesAll}
use Rattle.am_serve.specs.Pools.{most_for}
use Rattle.am_serve.specs.declared.client.Client.{Client}
use Rattle.am_serve.specs.declared.client.Turn.{Turn}
use Rattle.am_serve.specs.declared.giving.Wanted.TheVariants.{Place}
use Rattle.am_serve.specs.declared.host.Verdict.{Verdict}

-- every other key keeps what it had
abbrev pub Others : {T : Type 0} → Slab T → Slab T → ℕ → Type 0
Others old new key = (other : ℕ) → other ≢ key → get new other ≡ get old other

module _ {S H : Type 0} (opens : H → ℕ → Bool → H → Type 0) where
  -- a client came under the vacant key, and the host opened its connection under the next number
  pub record Adds (old new : Slab (Client S)) (key : ℕ) (socket : S) (number next : ℕ) (now : Instant) (before after : H) : Type 0 where
    pub key_is_next : key ≡ old.vacant_key
    pub was_vacant : get old key ≡ None
    pub came : get new key ≡ Some (first_client socket number now)
    pub others : Others old new key
    pub counted : next ≡ number + 1
    pub opened : opens before number true after

  -- no client came: the host didn't take the connection of the next number, or there is no such number
  pub record Refuses (old new : Slab (Client S)) (number next : ℕ) (before after : H) : Type 0 where
    pub same : new ≡ old
    pub refused : ((next ≡ number + 1) × opens before number false after) ⊎ ((number ≡ 18446744073709551615) × (next ≡ number) × (after ≡ before))

module _ {S H : Type 0} (closes : H → ℕ → H → Type 0) where
  -- a client is no more there, and was closed in the host just where that had no whole request of it
  pub record LetsGo (client : Client S) (slot : Option (Client S)) (before after : H) : Type 0 where
    pub gone : slot ≡ None
    pub closed : IsAsking client.stage → closes before client.connection after
    pub kept : (IsAsking client.stage → ⊥) → after ≡ before

module _ {S H : Type 0} (does : S → Act → S → Type 0) (takes : H → ℕ → List ℕ → Verdict → H → Type 0) (closes : H → ℕ → H → Type 0) where
  -- a client of a table took its turn, and is kept as the turn left it, or let go
  pub record TakesTurn (now : Instant) (old new : Slab (Client S)) (key : ℕ) (client : Client S) (before after : H) (turn : Turn) : Type 0 where
    pub last : Client S
    pub middle : H
    pub turned : Turned does takes 16 (most_for old.slots client) now client last before middle turn
    pub stays : lets_go turn ≡ false → (get new key ≡ Some last) × (after ≡ middle)
    pub goes : lets_go turn ≡ true → LetsGo closes last (get new key) middle after

  -- what a turn at a key does; it does nothing where no client has the key
  abbrev pub TakesTurnAt : Instant → Slab (Client S) → Slab (Client S) → ℕ → Option (Client S) → H → H → Option Turn → Type 0
  TakesTurnAt now old new key None before after result = (result ≡ None) × (after ≡ before) × (new ≡ old)
  TakesTurnAt now old new key (Some client) before after result = IsSomeAnd result (TakesTurn now old new key client before after)

module _ {S H : Type 0} (does : S → Act → S → Type 0) (takes : H → ℕ → List ℕ → Verdict → H → Type 0)
    (closes : H → ℕ → H → Type 0) where
  -- a turn was taken at a key, and then clients were let go for what the replies held
  pub record TakesTurnWithin (now : Instant) (old new : Slab (Client S)) (key : ℕ) (client : Option (Client S))
      (before after : H) (result : Option Turn) : Type 0 where
    pub middle : Slab (Client S)
    pub turned : TakesTurnAt does takes closes now old middle key client before after result
    pub others : Others old middle key
    pub relieved : RelievesAll middle new

module _ {S : Type 0} where
  -- the client of a key got the reply that it waited for
  pub record GivesReplyAt (reply : List ℕ) (now : Instant) (old new : Slab (Client S)) (key : ℕ) : Type 0 where
    pub client : Client S
    pub there : get old key ≡ Some client
    pub later : Client S
    pub got : get new key ≡ Some later
    pub given : IsGiven reply now client later
    pub others : Others old new key

  -- the client of a key waited for the reply to this connection and got it, and then clients were let go for what the
  -- replies held
  pub record GivesReply (connection : ℕ) (reply : List ℕ) (now : Instant) (old new : Slab (Client S)) (key : ℕ) :
      Type 0 where
    pub middle : Slab (Client S)
    pub awaited : IsSomeAnd (get old key) (AwaitsOn connection)
    pub given : GivesReplyAt reply now old middle key
    pub relieved : RelievesAll middle new

module _ {S H : Type 0} (does : S → Act → S → Type 0) (closes : H → ℕ → H → Type 0) where
  -- the socket of a client whose request isn't whole was asked whether its connection stands, and the client was let
  -- go where it doesn't
  pub record Checks (old new : Slab (Client S)) (key : ℕ) (client : Client S)
      (before after : H) (lost : Bool) : Type 0 where
    pub socket : S
    pub asked : does client.socket (Ask (standing (not lost))) socket
    pub stays : lost ≡ false → (get new key ≡ Some (record client { socket = socket })) × (after ≡ before)
    pub goes : lost ≡ true → LetsGo closes client (get new key) before after

  -- what a check of a key does; it does nothing where no client has the key, or the host has its whole request
  abbrev pub ChecksAt : Slab (Client S) → Slab (Client S) → ℕ → Option (Client S) → H → H → Bool → Type 0
  ChecksAt old new key None before after lost = (lost ≡ false) × (new ≡ old) × (after ≡ before)
  ChecksAt old new key (Some client) before after lost =
      (IsAsking client.stage → Checks old new key client before after lost)
      × ((IsAsking client.stage → ⊥) → (lost ≡ false) × (new ≡ old) × (after ≡ before))

module _ {S H : Type 0} (closes : H → ℕ → H → Type 0) where
  -- of the clients without a whole request that are there for a second the one that is longest without a byte moved
  -- was let go
  pub record GivesPlace (old new : Slab (Client S)) (now : Instant) (before after : H) : Type 0 where
    pub key : ℕ
    pub longest : GivesWay (Place now) old key
    pub goes : LetsGo closes longest.client (get new key) before after
    pub others : Others old new key
