-- What playing a scenario does: the trace of the events that the world gets, and what is written of each.
use Rattle.std.specs.Prelude.{◌≡◌, ℕ, ◌+◌, ◌-◌, ◌^◌, ◌≤◌, ◌<◌, nat_lt, nat_le, Bool, true, false, ◌&&◌, not, is_none}
use Rattle.std.specs.Prelude.{◌⊎◌, List, [], ◌∷◌, ◌++◌, length, filter, Option, Some, MatchOption, IsSome, is_some}
use Rattle.std.specs.List.{All as Each, concat, list_all, list_any}
use Rattle.am_event.specs.declared.event.Event.{Event}
use Rattle.am_event.specs.declared.event.Event.TheVariants as event
use Rattle.am_world.specs.Consistent.{Contents}
use Rattle.am_world.specs.Refusal.{refusal}
use Rattle.am_world.specs.Runs.{ForgetsOver}
use Rattle.am_world.specs.Simulation.{fault_count, message_named, put_out, refused_by}
use Rattle.am_world.specs.Stopping.{Either, Step}
use Rattle.am_world.specs.declared.state.State.{State}
use Rattle.am_messages.specs.declared.name.MessageName.{MessageName}
use Rattle.am_ring.specs.Instances.{all_instances}
use Rattle.am_scenario.specs.declared.command.Command.{Command}
use Rattle.am_scenario.specs.declared.command.Command.TheVariants.{Skip, At, Tick, Open, Bytes, Call}
use Rattle.am_scenario.specs.declared.command.Command.TheVariants.{Limits, Pump, Drop, Deliver, Hook, Change, LearnAll}
use Rattle.am_wire.specs.Messages.{IsRefusalOf, Spells}
use Rattle.am_wire.specs.declared.message.Message.{Message}
use Rattle.am_wire.specs.declared.refusal.EncodeRefusal.{EncodeRefusal}
use Rattle.am_report.specs.declared.mail.Letter.{Letter}
use Rattle.am_report.specs.declared.ending.Played.{Played}
use Rattle.am_report.specs.declared.ending.Played.TheVariants.{All, BadLine}
use Rattle.am_play.specs.declared.play.Player.{Player}
use Rattle.am_report.specs.declared.report.Try.{Try}
use Rattle.am_scenario.specs.declared.command.Way.{Way}
use Rattle.am_scenario.specs.Line.{command_of}
use Rattle.am_stream.specs.Link.{Answers, Carries}
use Rattle.am_report.specs.Mail.{goes, is_named, kept_of, letters_in, without_first}
use Rattle.am_report.specs.Said.{event_of, instance_of, name_said}
use Rattle.am_report.specs.Names.{place_of, with_name}
use Rattle.am_report.specs.Output.{is_answered}
use Rattle.am_scenario.specs.Request.{request_text}
use Rattle.am_play.specs.Trace.{Happened, outputs}
use Rattle.am_report.specs.Tries.{tries_in}

-- a piece isn't empty, and has at most 4,096 bytes
abbrev pub is_piece : List ℕ → Bool
is_piece piece = nat_lt 0 (length piece) && nat_le (length piece) 4096

-- the piece that would come next of what is left was lost
pub record Loses (carries : Carries) (left : List ℕ) : Type 0 where
  pub piece : List ℕ
  pub after : List ℕ
  pub cut : left ≡ piece ++ after
  pub size : is_piece piece ≡ true
  pub lost : carries piece false

-- the bytes of a message went over the link in pieces: all of them came, or the next piece was lost
pub record Crosses (carries : Carries) (bytes : List ℕ) (came : Bool) : Type 0 where
  pub pieces : List (List ℕ)
  pub left : List ℕ
  pub cut : bytes ≡ concat pieces ++ left
  pub sizes : list_all is_piece pieces ≡ true
  pub carried : Each (λ piece. carries piece true) pieces
  pub ends : Either came (left ≡ []) (Loses carries left)

-- whether a world has a letter's message still
abbrev pub is_there : State → Letter → Bool
is_there w letter = is_some (message_named letter.name w)

-- what happened in rounds, one after the other
abbrev pub in_all_rounds : List (List Happened) → List Happened
in_all_rounds [] = []
in_all_rounds (round ∷ rounds) = round ++ in_all_rounds rounds

-- nothing happened, and no more has to be done
abbrev pub PassedOver : {W : Type 0} → Player W → Bool → Player W → List Happened → Type 0
PassedOver p is_done p' trace = (is_done ≡ true) × (p' ≡ p) × (trace ≡ [])

-- the name of a connection is known from now on
abbrev pub naming : {W : Type 0} → List ℕ → Player W → Player W
naming name p = record p { connections = with_name name p.connections }

-- the name of a connection became known, and then this holds of the connection, which is the name's place
abbrev pub OnNamed : {W : Type 0} → Player W → List ℕ → (ℕ → Player W → Type 0) → Type 0
OnNamed p name Holds = (c : ℕ) × (place_of name (naming name p).connections ≡ Some c) × Holds c (naming name p)

-- what happens to a player, where this says what its world is, with what is seen of its stores
module _ {W : Type 0} (contents : W → Contents) where
  -- what an event is in the trace, by the player before it and after it
  abbrev pub happened : Player W → Event → Player W → Happened
  happened p e p' = record {
    event = e;
    outputs = put_out (contents p'.world).state;
    refused = refusal (contents p.world).state e;
    names = p.connections;
    faults = fault_count (contents p'.world).state;
    unbuilt = refused_by (contents p'.world).state;
    shelves = (contents p'.world).shelves;
  }

  -- an event came to the world, which forgot its outputs first; a refused one did nothing. The messages that this sent
  -- wait behind the others
  pub record Happens (p : Player W) (e : Event) (p' : Player W) (trace : List Happened) : Type 0 where
    pub before : W
    pub forgets : ForgetsOver (contents p.world) (contents before)
    pub step : Step (contents before) e (contents p'.world)
    pub refused : IsSome (refusal (contents p.world).state e) → p'.world ≡ before
    pub connections : p'.connections ≡ p.connections
    pub moment : p'.moment ≡ p.moment
    pub hook : p'.hook ≡ p.hook
    pub mail : p'.mail ≡ p.mail ++ letters_in (put_out (contents p'.world).state)
    pub traced : trace ≡ happened p e p' ∷ []

  -- what stands on a line goes on after an event: it wasn't refused, and didn't answer the line's connection
  abbrev pub goes_on : ℕ → Player W → Event → Player W → Bool
  goes_on c p e p' =
      is_none (refusal (contents p.world).state e) && not (is_answered c (put_out (contents p'.world).state))

  -- pieces came on a connection, one after the other; after the last one something is left only if it ended the line,
  -- or if the next piece was lost
  abbrev pub Come : Carries → ℕ → Player W → List (List ℕ) → List ℕ → Player W → List Happened → Type 0
  Come carries c p [] left p' trace = ((left ≡ []) ⊎ Loses carries left) × (p' ≡ p) × (trace ≡ [])
  Come carries c p (piece ∷ pieces) left p' trace =
      (mid : Player W) × (first rest : List Happened) × carries piece true
      × Happens p (event.Bytes c p.moment piece) mid first
      × (trace ≡ first ++ rest)
      × Either (goes_on c p (event.Bytes c p.moment piece) mid)
      (Come carries c mid pieces left p' rest)
      ((pieces ≡ []) × (p' ≡ mid) × (rest ≡ []))

  -- bytes came on a connection, in pieces, all of them unless an event ended the line or a piece was lost
  pub record Gives (carries : Carries) (c : ℕ) (p : Player W) (bytes : List ℕ) (p' : Player W) (trace : List Happened) :
      Type 0 where
    pub pieces : List (List ℕ)
    pub left : List ℕ
    pub cut : bytes ≡ concat pieces ++ left
    pub sizes : list_all is_piece pieces ≡ true
    pub come : Come carries c p pieces left p' trace

  -- the message of this name was delivered, which is done unless that was refused
  abbrev pub Reaches : MessageName → Player W → Bool → Player W → List Happened → Type 0
  Reaches name p is_done p' trace =
      Happens p (event.Deliver name p.moment) p' trace
      × (is_done ≡ is_none (refusal (contents p.world).state (event.Deliver name p.moment)))

  -- a message has bytes, and was delivered where all of them came over the link
  pub record Travels (carries : Carries) (message : Message) (name : MessageName) (p : Player W)
      (is_done : Bool) (p' : Player W) (trace : List Happened) : Type 0 where
    pub bytes : List ℕ
    pub spells : Spells bytes message
    pub came : Bool
    pub crosses : Crosses carries bytes came
    pub reaches : Either came (Reaches name p is_done p' trace) (PassedOver p is_done p' trace)

  -- a letter was handed over: one whose message is lost, or has no bytes, is passed over
  abbrev pub HandsOver : Carries → MessageName → Player W → Bool → Player W → List Happened → Type 0
  HandsOver carries name p is_done p' trace = MatchOption (message_named name (contents p.world).state)
      (PassedOver p is_done p' trace)
      (λ message. Travels carries message name p is_done p' trace
      ⊎ ((why : EncodeRefusal) × IsRefusalOf message why × PassedOver p is_done p' trace))

  -- these letters were handed over, each the oldest of those that waited, one after the other; of each it is said
  -- whether it is done with
  abbrev pub Hands : Carries → List (Letter × Bool) → Player W → Player W → List Happened → Type 0
  Hands carries [] p p' trace = (p' ≡ p) × (trace ≡ [])
  Hands carries (handed ∷ more) p p' trace =
      (mail : List Letter) × (mid : Player W) × (first rest : List Happened) × (p.mail ≡ handed.0 ∷ mail)
      × HandsOver carries handed.0.name (record p { mail = mail }) handed.1 mid first
      × (trace ≡ first ++ rest) × Hands carries more mid p' rest

  -- letters were handed over until none waited, at most a million; those that aren't done with wait before the others
  pub record Pumps (carries : Carries) (p p' : Player W) (trace : List Happened) : Type 0 where
    pub handed : List (Letter × Bool)
    pub until : Player W
    pub hands : Hands carries handed p until trace
    pub bound : length handed ≤ 1000000
    pub over : (until.mail ≡ []) ⊎ (length handed ≡ 1000000)
    pub kept : p' ≡ record until { mail = kept_of handed ++ until.mail }

  -- the oldest message that is there and goes this way waits no more
  abbrev pub dropping : Way → Player W → Player W
  dropping way p = record p { mail = without_first (goes way) (filter (is_there (contents p.world).state) p.mail) }

  -- a message was delivered by its name, and waits no more unless that was refused
  abbrev pub Delivers : MessageName → Player W → Player W → List Happened → Type 0
  Delivers name p p' trace =
      (mid : Player W) × Happens p (event.Deliver name p.moment) mid trace
      × Either (is_none (refusal (contents p.world).state (event.Deliver name p.moment)))
      (p' ≡ record mid { mail = filter (λ letter. not (is_named name letter)) mid.mail }) (p' ≡ mid)

  -- an instance is behind where it can learn a ring
  abbrev pub is_behind : Player W → ℕ → Bool
  is_behind p i = is_none (refusal (contents p.world).state (event.Learn i))

  -- an instance learned the next ring, if it was behind
  abbrev pub LearnsIfBehind : ℕ → Player W → Player W → List Happened → Type 0
  LearnsIfBehind i p p' trace =
      Either (is_behind p i) (Happens p (event.Learn i) p' trace) ((p' ≡ p) × (trace ≡ []))

  -- .. each of these, one after the other
  abbrev pub LearnsEach : List ℕ → Player W → Player W → List Happened → Type 0
  LearnsEach [] p p' trace = (p' ≡ p) × (trace ≡ [])
  LearnsEach (i ∷ more) p p' trace =
      (mid : Player W) × (first rest : List Happened) × LearnsIfBehind i p mid first
      × (trace ≡ first ++ rest) × LearnsEach more mid p' rest

  -- all instances learned so, in rounds, each with what happened in it
  abbrev pub LearnsInRounds : List (List Happened) → Player W → Player W → Type 0
  LearnsInRounds [] p p' = p' ≡ p
  LearnsInRounds (round ∷ rounds) p p' =
      (mid : Player W) × LearnsEach all_instances p mid round × LearnsInRounds rounds mid p'

  -- .. until none was behind; no instance can lack as many rings as there are rounds at most
  pub record LearnsAll (p p' : Player W) (trace : List Happened) : Type 0 where
    pub rounds : List (List Happened)
    pub learns : LearnsInRounds rounds p p'
    pub traced : trace ≡ in_all_rounds rounds
    pub bound : length rounds < 2 ^ 64
    pub over : (list_any (is_behind p') all_instances ≡ false) ⊎ (length rounds ≡ 2 ^ 64 - 1)

  -- a connection was opened, and then, unless that was refused, a whole request came on it
  abbrev pub Calls : Carries → ℕ → Player W → ℕ → List ℕ → Player W → List Happened → Type 0
  Calls carries c p i text p' trace =
      (mid : Player W) × (first rest : List Happened) × Happens p (event.Open c i) mid first × (trace ≡ first ++ rest)
      × Either (is_none (refusal (contents p.world).state (event.Open c i))) (Gives carries c mid text p' rest)
      ((p' ≡ mid) × (rest ≡ []))

  -- a command was done
  abbrev pub Obeys : Carries → Player W → Command → Player W → List Happened → Type 0
  Obeys carries p Skip p' trace = (p' ≡ p) × (trace ≡ [])
  Obeys carries p Pump p' trace = Pumps carries p p' trace
  Obeys carries p (At moment) p' trace = (p' ≡ record p { moment = moment }) × (trace ≡ [])
  Obeys carries p (Hook status) p' trace = (p' ≡ record p { hook = status }) × (trace ≡ [])
  Obeys carries p Tick p' trace = Happens p (event.Tick p.moment) p' trace
  Obeys carries p (Limits tenant limits) p' trace = Happens p (event.Limits tenant limits) p' trace
  Obeys carries p (Open name i) p' trace =
      OnNamed p name (λ c q. Happens q (event.Open c (instance_of i)) p' trace)
  Obeys carries p (Bytes name text) p' trace = OnNamed p name (λ c q. Gives carries c q text p' trace)
  Obeys carries p (Call name i request) p' trace =
      OnNamed p name (λ c q. Calls carries c q (instance_of i) (request_text request) p' trace)
  Obeys carries p (Drop way) p' trace = (p' ≡ dropping way p) × (trace ≡ [])
  Obeys carries p (Deliver said) p' trace = Delivers (name_said said) p p' trace
  Obeys carries p (Change change) p' trace = Happens p (event_of change) p' trace
  Obeys carries p LearnAll p' trace = LearnsAll p p' trace

  -- each of these tries got its outcome, one after the other: with the status that was read of what the receiver, to
  -- which its request went, answers now
  abbrev pub Settles : Answers → Player W → List Try → Player W → List Happened → Type 0
  Settles answers p [] p' trace = (p' ≡ p) × (trace ≡ [])
  Settles answers p (awaited ∷ tries) p' trace =
      (status : Option ℕ) × (mid : Player W) × (first rest : List Happened)
      × answers awaited.request p.hook status
      × Happens p (event.Outcome awaited.attempt awaited.tries p.moment status) mid first
      × (trace ≡ first ++ rest) × Settles answers mid tries p' rest

  -- a line was played: its command was done, and then each try that this sent out got its outcome
  abbrev pub Does : Carries → Answers → Player W → Command → Player W → List Happened → Type 0
  Does carries answers p command p' trace =
      (mid : Player W) × (first rest : List Happened) × Obeys carries p command mid first × (trace ≡ first ++ rest)
      × Settles answers mid (tries_in (outputs first)) p' rest

  -- the lines from the n-th on were played, up to the first that is no command
  abbrev pub Plays : Carries → Answers → ℕ → Player W → List (List ℕ) → Played → List Happened → Player W → Type 0
  Plays carries answers n p [] played trace p' = (played ≡ All) × (trace ≡ []) × (p' ≡ p)
  Plays carries answers n p (line ∷ lines) played trace p' = MatchOption (command_of line)
      ((played ≡ BadLine n) × (trace ≡ []) × (p' ≡ p))
      (λ command. (mid : Player W) × (first rest : List Happened) × Does carries answers p command mid first
      × (trace ≡ first ++ rest) × Plays carries answers (n + 1) mid lines played rest p')

  -- where a scenario begins: a world, no connection, the moment 0, a receiver that takes all notices, and no message
  -- that waits
  pub record IsStart (c : Contents) (p : Player W) : Type 0 where
    pub begins : contents p.world ≡ c
    pub connections : p.connections ≡ []
    pub moment : p.moment ≡ 0
    pub hook : p.hook ≡ Some 200
    pub mail : p.mail ≡ []
