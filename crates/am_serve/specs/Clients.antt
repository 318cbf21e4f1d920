-- What a turn of a client does.
use Rattle.std.specs.Prelude.{◌≡◌, ◌⊎◌, ℕ, ◌+◌, ◌-◌, ◌/◌, ◌<◌, ◌≤◌, Bool, true, false, ◌||◌, if◌then◌else◌, List, [], ◌++◌, ◌∷◌, length, slice_get, Some, ⊤}
use Rattle.std.specs.List.{FoldsTo}
use Rattle.std.specs.Time.{instant_nanos}
use Rattle.std.specs.declared.time.Instant.{Instant}
use Rattle.am_serve.specs.Acts.{Act, Read, Write, Finish, EndsWith, moves_in, read_in, written_in}
use Rattle.am_serve.specs.Outgoings.{unsent}
use Rattle.am_serve.specs.declared.client.Client.{Client}
use Rattle.am_serve.specs.declared.client.Stage.{Stage}
use Rattle.am_serve.specs.declared.client.Stage.TheVariants.{Asking, Awaiting, Telling, Draining}
use Rattle.am_serve.specs.declared.client.Turn.{Turn}
use Rattle.am_serve.specs.declared.client.Turn.TheVariants.{More, Waits, Crowded, Answered, Drains, Drained, Lost, Gone as IsGone}
use Rattle.am_serve.specs.declared.host.Verdict.{Verdict}
use Rattle.am_serve.specs.declared.host.Verdict.TheVariants.{Undecided, Reply, Later, Gone}
use Rattle.am_serve.specs.declared.socket.Moved.{Moved}
use Rattle.am_serve.specs.declared.socket.Moved.TheVariants.{Blocked, Broken}

-- a turn lets its client go
abbrev pub lets_go : Turn → Bool
lets_go More = false
lets_go Waits = false
lets_go Crowded = false
lets_go Drains = false
lets_go Answered = true
lets_go Drained = true
lets_go Lost = true
lets_go IsGone = true

-- the host has no whole request yet
abbrev pub IsAsking : Stage → Type 0
IsAsking Asking = ⊤
IsAsking Awaiting = ⊥
IsAsking (Telling _) = ⊥
IsAsking Draining = ⊥

-- the host has the whole request, and gives its reply later
abbrev pub IsAwaiting : Stage → Type 0
IsAwaiting Asking = ⊥
IsAwaiting Awaiting = ⊤
IsAwaiting (Telling _) = ⊥
IsAwaiting Draining = ⊥

-- the host gave its reply
abbrev pub IsTelling : Stage → Type 0
IsTelling Asking = ⊥
IsTelling Awaiting = ⊥
IsTelling (Telling _) = ⊤
IsTelling Draining = ⊥

-- nothing is left to be said
abbrev pub IsDraining : Stage → Type 0
IsDraining Asking = ⊥
IsDraining Awaiting = ⊥
IsDraining (Telling _) = ⊥
IsDraining Draining = ⊤

-- what is still to be written of the host's reply
abbrev pub unsaid : Stage → List ℕ
unsaid Asking = []
unsaid Awaiting = []
unsaid (Telling reply) = unsent reply
unsaid Draining = []

-- the reply was written whole
abbrev pub IsTold : Stage → Type 0
IsTold Asking = ⊥
IsTold Awaiting = ⊥
IsTold (Telling reply) = unsent reply ≡ []
IsTold Draining = ⊥

-- the first digit of a reply's status, which comes after `HTTP/1.1 `, is a 2
abbrev pub IsSuccess : List ℕ → Type 0
IsSuccess reply = slice_get reply 9 ≡ Some 50

-- the host's whole reply, as long as it is kept
abbrev pub whole_reply : Stage → List ℕ
whole_reply Asking = []
whole_reply Awaiting = []
whole_reply (Telling reply) = reply.bytes.items
whole_reply Draining = []

-- the reply that a verdict gives
abbrev pub reply_of : Verdict → List ℕ
reply_of Undecided = []
reply_of (Reply bytes) = bytes.items
reply_of Later = []
reply_of Gone = []

abbrev pub is_gone : Verdict → Bool
is_gone Undecided = false
is_gone (Reply _) = false
is_gone Later = false
is_gone Gone = true

-- a piece that the host took, and the host's verdict
abbrev pub Heard : Type 0
Heard = List ℕ × Verdict

-- the pieces, end to end
abbrev pub bytes_of : List Heard → List ℕ
bytes_of [] = []
bytes_of (e ∷ es) = e.0 ++ bytes_of es

-- the replies, end to end
abbrev pub replies_of : List Heard → List ℕ
replies_of [] = []
replies_of (e ∷ es) = reply_of e.1 ++ replies_of es

-- the host said that it has no such connection
abbrev pub says_gone : List Heard → Bool
says_gone [] = false
says_gone (e ∷ es) = is_gone e.1 || says_gone es

-- the host was undecided after each piece
abbrev pub AllUndecided : List Heard → Type 0
AllUndecided [] = ⊤
AllUndecided (e ∷ es) = (e.1 ≡ Undecided) × AllUndecided es

-- the host was undecided after each piece but perhaps the last
abbrev pub DecidesLast : List Heard → Type 0
DecidesLast [] = ⊤
DecidesLast (e ∷ es) = ((e.1 ≡ Undecided) ⊎ (es ≡ [])) × DecidesLast es

-- a client's stage after a verdict
abbrev pub StageAfter : Verdict → Stage → Type 0
StageAfter Undecided stage = stage ≡ Asking
StageAfter (Reply bytes) stage = IsTelling stage × (unsaid stage ≡ bytes.items) × (whole_reply stage ≡ bytes.items)
StageAfter Later stage = stage ≡ Awaiting
StageAfter Gone stage = stage ≡ Draining

abbrev pub turn_after : Verdict → Turn
turn_after Undecided = More
turn_after (Reply _) = More
turn_after Later = More
turn_after Gone = IsGone

module _ {S : Type 0} where
  -- a client that sent nothing yet
  abbrev pub first_client : S → ℕ → Instant → Client S
  first_client socket connection now = record { socket = socket; connection = connection; stage = Asking; held = 0; opened = now; moved = now }

  -- how many bytes a client holds past its own share
  abbrev pub excess_of : Client S → ℕ
  excess_of client = client.held - 32768

  -- the client waits for the reply to this connection
  abbrev pub AwaitsOn : (connection : ℕ) → Client S → Type 0
  AwaitsOn connection client = (client.connection ≡ connection) × IsAwaiting client.stage

  -- the reply came that a client waited for, and its time begins anew
  pub record IsGiven (reply : List ℕ) (now : Instant) (old new : Client S) : Type 0 where
    pub awaited : IsAwaiting old.stage
    pub telling : IsTelling new.stage
    pub unsaid_is : unsaid new.stage ≡ reply
    pub whole : whole_reply new.stage ≡ reply
    pub rest : new ≡ record old { stage = new.stage; opened = now; moved = now }

-- no byte was moved for 5 seconds, or the client was there for 40; where it waits for its reply, 10 seconds of that
abbrev pub IsStaleAt : Stage → (silent there : ℕ) → Type 0
IsStaleAt Asking silent there = (5 ≤ silent) ⊎ (40 ≤ there)
IsStaleAt Awaiting silent there = 10 ≤ silent
IsStaleAt (Telling _) silent there = (5 ≤ silent) ⊎ (40 ≤ there)
IsStaleAt Draining silent there = (5 ≤ silent) ⊎ (40 ≤ there)

module _ {S : Type 0} where
  -- the client is so by its stage, and by what its two clocks say in seconds
  abbrev pub IsStale : Client S → Instant → Type 0
  IsStale client now = IsStaleAt client.stage ((instant_nanos now - instant_nanos client.moved) / 1_000_000_000)
      ((instant_nanos now - instant_nanos client.opened) / 1_000_000_000)

module _ {S H : Type 0} (takes : H → ℕ → List ℕ → Verdict → H → Type 0) where
  -- the host took a piece of the client's connection, and the client stands as the verdict says
  pub record HandsOn (piece : List ℕ) (old new : Client S) (before after : H) (turn : Turn) : Type 0 where
    pub verdict : Verdict
    pub taken : takes before old.connection piece verdict after
    pub stage : StageAfter verdict new.stage
    pub result : turn ≡ turn_after verdict
    pub grows : IsAsking new.stage → new.held ≡ old.held + length piece
    pub released : (IsAsking new.stage → ⊥) → new.held ≡ 0
    pub rest : new ≡ record old { stage = new.stage; held = new.held }

module _ {S : Type 0} where
  -- a client read these pieces, which its host took, and perhaps wrote, and threw bytes away
  pub record Moves (old new : Client S) (heard : List Heard) (acts : List Act) : Type 0 where
    pub thrown : List ℕ
    -- what left the socket is what the host took, in order, and what was thrown away afterwards
    pub read : read_in acts ≡ bytes_of heard ++ thrown
    -- what was written is a first part of the host's reply, and what is left to be said is the rest
    pub said : written_in acts ++ unsaid new.stage ≡ unsaid old.stage ++ replies_of heard
    pub decided : DecidesLast heard
    pub asked : IsAsking old.stage ⊎ (heard ≡ [])
    pub asks : IsAsking new.stage → IsAsking old.stage × AllUndecided heard
    -- only of a client to whom nothing is left to be said bytes are thrown away
    pub threw : IsDraining old.stage ⊎ (thrown ≡ [])
    -- what the host holds is what it took undecided, and nothing once it decided
    pub grows : IsAsking new.stage → new.held ≡ old.held + length (bytes_of heard)
    pub released : IsAsking old.stage → (IsAsking new.stage → ⊥) → new.held ≡ 0
    pub stays : (IsAsking old.stage → ⊥) → new.held ≡ old.held
    pub reply : (IsDraining new.stage → ⊥) → whole_reply new.stage ≡ whole_reply old.stage ++ replies_of heard
    pub drained : IsDraining old.stage → IsDraining new.stage
    -- who waits for a reply goes on waiting: it is given between turns
    pub awaiting : IsAwaiting old.stage → IsAwaiting new.stage
    pub connection : new.connection ≡ old.connection
    pub since : new.opened ≡ old.opened

  -- why a turn ended as it did
  abbrev pub Ends : ℕ → Client S → Client S → List Heard → Turn → Type 0
  Ends most old new heard More = (IsDraining new.stage → IsDraining old.stage) × (says_gone heard ≡ false)
  Ends most old new heard Waits = (IsDraining new.stage → IsDraining old.stage) × (IsTold new.stage → ⊥) × (says_gone heard ≡ false)
  Ends most old new heard Crowded = IsAsking new.stage × (most < new.held + 4096) × (says_gone heard ≡ false)
  Ends most old new heard Answered = IsTold new.stage × IsSuccess (whole_reply old.stage ++ replies_of heard) × (says_gone heard ≡ false)
  Ends most old new heard Drains = (IsDraining old.stage → ⊥) × IsDraining new.stage × (IsSuccess (whole_reply old.stage ++ replies_of heard) → ⊥) × (says_gone heard ≡ false)
  Ends most old new heard Drained = IsDraining old.stage × IsDraining new.stage × (says_gone heard ≡ false)
  Ends most old new heard Lost = (IsDraining new.stage → ⊥) × (IsTold new.stage → ⊥) × (IsAwaiting new.stage → ⊥) × (says_gone heard ≡ false)
  Ends most old new heard IsGone = IsDraining new.stage × (says_gone heard ≡ true)

-- what a client at this stage asks of its socket, where that comes to this and moves nothing
abbrev pub acts_at : Stage → Moved → List Act
acts_at Asking moved = Read moved [] ∷ []
acts_at Awaiting moved = []
acts_at (Telling _) moved = Write moved [] ∷ []
acts_at Draining moved = Read moved [] ∷ []

-- for what a turn ended, where the socket was asked for it
abbrev pub last_of : Turn → Stage → List Act
last_of More stage = []
last_of Waits stage = acts_at stage Blocked
last_of Crowded stage = []
last_of Answered stage = []
last_of Drains stage = Finish ∷ []
last_of Drained stage = acts_at stage Broken
last_of Lost stage = acts_at stage Broken
last_of IsGone stage = []

-- a client waited for room
abbrev pub is_crowded : Turn → Bool
is_crowded More = false
is_crowded Waits = false
is_crowded Crowded = true
is_crowded Answered = false
is_crowded Drains = false
is_crowded Drained = false
is_crowded Lost = false
is_crowded IsGone = false

-- since when a client is silent: since now, where a byte was moved or it waited for room
abbrev pub silent_since : Instant → Instant → Turn → List Act → Instant
silent_since now before turn acts = if is_crowded turn || moves_in acts then now else before

module _ {S : Type 0} (does : S → Act → S → Type 0) where
  -- what a client and its socket did in a turn of at most so many steps, each of which asks the socket for one thing; it
  -- made them all where it may go on at once
  pub record Works (steps most : ℕ) (now : Instant) (old new : Client S) (heard : List Heard) (turn : Turn) : Type 0 where
    pub acts : List Act
    pub done : FoldsTo does old.socket acts new.socket
    pub last : EndsWith (last_of turn new.stage) acts
    pub few : length acts ≤ steps
    pub all : turn ≡ More → length acts ≡ steps
    pub moves : Moves old new heard acts
    pub timed : new.moved ≡ silent_since now old.moved turn acts
    pub ends : Ends most old new heard turn

module _ {S H : Type 0} (does : S → Act → S → Type 0) (takes : H → ℕ → List ℕ → Verdict → H → Type 0) where
  -- the host took what a client read in a turn, piece by piece
  pub record Turned (steps most : ℕ) (now : Instant) (old new : Client S) (before after : H) (turn : Turn) : Type 0 where
    pub heard : List Heard
    pub taken : FoldsTo (λ host e next. takes host old.connection e.0 e.1 next) before heard after
    pub works : Works does steps most now old new heard turn
