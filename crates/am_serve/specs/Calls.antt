-- What a call does, and what its turn does.
use Rattle.std.specs.Prelude.{◌≡◌, ◌⊎◌, ℕ, ◌-◌, ◌/◌, ◌<◌, ◌≤◌, Bool, true, false, List, [], ◌∷◌, ◌++◌, length, take, Some, None, ⊤}
use Rattle.std.specs.List.{FoldsTo}
use Rattle.std.specs.Time.{instant_nanos}
use Rattle.std.specs.declared.time.Instant.{Instant}
use Rattle.am_serve.specs.Acts.{Act, Read, Write, Ask, Connects, EndsWith, read_in, written_in}
use Rattle.am_serve.specs.Outgoings.{unsent}
use Rattle.am_serve.specs.Statuses.{IsStatusLine}
use Rattle.am_serve.specs.declared.call.Call.{Call}
use Rattle.am_serve.specs.declared.call.CallStage.{CallStage}
use Rattle.am_serve.specs.declared.call.CallStage.TheVariants.{Asking, Awaiting}
use Rattle.am_serve.specs.declared.call.Step.{Step}
use Rattle.am_serve.specs.declared.call.Step.TheVariants.{More, Waits, Ended}
use Rattle.am_serve.specs.declared.socket.Moved.TheVariants.{Blocked, Broken}

-- the request is on its way
abbrev pub IsAskingCall : CallStage → Type 0
IsAskingCall (Asking _) = ⊤
IsAskingCall (Awaiting _) = ⊥

-- the response is awaited
abbrev pub IsAwaitingCall : CallStage → Type 0
IsAwaitingCall (Asking _) = ⊥
IsAwaitingCall (Awaiting _) = ⊤

-- what is still to be written of the request
abbrev pub unasked : CallStage → List ℕ
unasked (Asking request) = unsent request
unasked (Awaiting _) = []

-- the first bytes of the response, as far as they came
abbrev pub line_of : CallStage → List ℕ
line_of (Asking _) = []
line_of (Awaiting line) = line.items

-- of what was read the first 13 bytes are kept
abbrev pub LineAfter : List ℕ → List ℕ → List ℕ → Type 0
LineAfter old new got = ((got ≡ []) × (new ≡ old)) ⊎ (new ≡ take 13 (old ++ got))

-- what a call asked last of a socket that would have to wait: whether the connection stands, to write what is left of the
-- request, or to read
abbrev pub waiting_act : Bool → List ℕ → Act
waiting_act false left = Ask (Some false)
waiting_act true [] = Read Blocked []
waiting_act true (_ ∷ _) = Write Blocked []

-- what a call asked last of a socket that failed
abbrev pub failing_act : Bool → List ℕ → Act
failing_act false left = Ask None
failing_act true [] = Read Broken []
failing_act true (_ ∷ _) = Write Broken []

-- the status of a response that begins so, where that is known
abbrev pub Gathered : List ℕ → Step → Type 0
Gathered line More = length line < 13
Gathered line Waits = ⊥
Gathered line (Ended None) = (length line ≡ 13) × ((status : ℕ) → IsStatusLine line status → ⊥)
Gathered line (Ended (Some status)) = (length line ≡ 13) × IsStatusLine line status

module _ {S N : Type 0} where
  -- a call that sent nothing yet
  pub record IsFirstCall (socket : S) (request : List ℕ) (name : N) (now : Instant) (call : Call S N) : Type 0 where
    pub socket_is : call.socket ≡ socket
    pub name_is : call.name ≡ name
    pub connects : call.is_connected ≡ false
    pub asks : IsAskingCall call.stage
    pub request_is : unasked call.stage ≡ request
    pub since : call.begun ≡ now

  -- the call is there for 5 seconds
  abbrev pub IsOver : Call S N → Instant → Type 0
  IsOver call now = 5 ≤ (instant_nanos now - instant_nanos call.begun) / 1_000_000_000

  -- a call wrote some of its request, and read some of the response once the request was written
  pub record CallMoves (old new : Call S N) (acts : List Act) : Type 0 where
    -- what was written is a first part of the request, and what is left is the rest
    pub asked : written_in acts ++ unasked new.stage ≡ unasked old.stage
    pub whole : (read_in acts ≡ []) ⊎ (unasked new.stage ≡ [])
    pub line : LineAfter (line_of old.stage) (line_of new.stage) (read_in acts)
    pub connects : Connects old.is_connected acts new.is_connected
    pub name : new.name ≡ old.name
    pub since : new.begun ≡ old.begun

  -- a call whose status isn't known stays so
  abbrev pub StaysOpen : Call S N → Call S N → Type 0
  StaysOpen old new = length (line_of old.stage) < 13 → length (line_of new.stage) < 13

  -- why a turn ended as it did, and for what, where the socket was asked for it
  abbrev pub CallEnds : Call S N → Call S N → List Act → Step → Type 0
  CallEnds old new last More = (last ≡ []) × StaysOpen old new
  CallEnds old new last Waits = (last ≡ waiting_act new.is_connected (unasked new.stage) ∷ []) × StaysOpen old new
  CallEnds old new last (Ended None) = (last ≡ failing_act new.is_connected (unasked new.stage) ∷ [])
      ⊎ ((last ≡ []) × (length (line_of new.stage) ≡ 13) × ((status : ℕ) → IsStatusLine (line_of new.stage) status → ⊥))
  CallEnds old new last (Ended (Some status)) = (last ≡ []) × (unasked new.stage ≡ []) × (length (line_of new.stage) ≡ 13) × IsStatusLine (line_of new.stage) status

module _ {S N : Type 0} (does : S → Act → S → Type 0) where
  -- what a call and its socket did in a turn of at most so many steps, each of which asks the socket for one thing; it made
  -- them all where it may go on at once
  pub record CallWorks (steps : ℕ) (old new : Call S N) (step : Step) : Type 0 where
    pub acts : List Act
    pub last : List Act
    pub done : FoldsTo does old.socket acts new.socket
    pub ended : EndsWith last acts
    pub few : length acts ≤ steps
    pub all : step ≡ More → length acts ≡ steps
    pub moves : CallMoves old new acts
    pub ends : CallEnds old new last step
