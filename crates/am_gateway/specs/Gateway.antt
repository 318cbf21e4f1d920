-- What a gateway does with its world: each piece that a connection brings is an event of the world, under the
-- connection's own number and at the gateway's moment; the messages that come of it are passed on at once; and what the
-- world puts out of all this is what the server is given. Of any kind of world, `contents` says what it is.
use Rattle.std.specs.Prelude.{ℕ, ◌≡◌, ◌≢◌, ◌<◌, ◌⊎◌, ◌↔◌, ◌+◌, ◌-◌, Bool, true, false, List, ◌∷◌}
use Rattle.std.specs.Prelude.{Option, None, Some, IsSome}
use Rattle.std.specs.declared.alloc.AllocError.{AllocError}
use Rattle.std.specs.Prelude.{Result, IfOk, IsErr, IsOk, OnOk, OnErr, Ok, MatchOption, IsTrue, is_some, length}
use Rattle.std.specs.Prelude.{if◌then◌else◌}
use Rattle.am_event.specs.declared.event.Event.{Event}
use Rattle.am_event.specs.declared.event.Event.TheVariants as event
use Rattle.am_event.specs.declared.output.Output.{Output}
use Rattle.am_event.specs.declared.refused.Refused.{Refused}
use Rattle.am_serve.specs.Lanes.{comes_before, is_ready, under_way_of, waiting_of}
use Rattle.am_serve.specs.Weights.{IsHeaviest, all_bytes}
use Rattle.am_serve.specs.declared.host.Verdict.{Verdict}
use Rattle.am_serve.specs.declared.host.Verdict.TheVariants.{Undecided, Reply, Later, Gone}
use Rattle.am_server.specs.declared.service.Notice.{Notice}
use Rattle.am_tenant.specs.Names.{same}
use Rattle.am_world.specs.Consistent.{Contents}
use Rattle.am_world.specs.Places.{cause_at}
use Rattle.am_world.specs.Refusal.{refusal}
use Rattle.am_world.specs.Runs.{ForgetsOver, Run}
use Rattle.am_world.specs.Simulation.{put_out}
use Rattle.am_world.specs.Stopping.{Step}
use Rattle.am_gateway.specs.Learning.{behind}
use Rattle.am_gateway.specs.Passing.{asked_in, passes}
use Rattle.am_gateway.specs.Restarting.{counted, fallen, vain_since}
use Rattle.am_gateway.specs.Serving.{serving_in}
use Rattle.am_gateway.specs.Sorting.{reply_on, Keeps, KeepsSome, Queues, QueuesSome}
use Rattle.am_gateway.specs.declared.gateway.Gateway.{Gateway}
use Rattle.am_gateway.specs.declared.gateway.Try.{Try}

-- a world took an event, then each message that it put out was delivered at the moment and lost, in order of sending,
-- and all that it had put out then was taken away
pub record Handles (c : Contents) (e : Event) (moment : ℕ) (outs : List Output) (c' : Contents) : Type 0 where
  pub handled : Contents
  pub run : Run c (e ∷ passes moment outs) handled
  pub outputs : put_out handled.state ≡ outs
  pub taken : ForgetsOver handled c'

-- the gateway is at the same moment, and knows the same reply to `GET /ready`
pub record IsSameGateway {W : Type 0} (old new : Gateway W) : Type 0 where
  pub moment : new.moment ≡ old.moment
  pub ready : new.ready ≡ old.ready

-- as many calls of each tenant are under way
abbrev pub SameUnderWay : {W : Type 0} → Gateway W → Gateway W → Type 0
SameUnderWay old new = (t : List ℕ) → under_way_of t new.notices.lanes ≡ under_way_of t old.notices.lanes

-- ---- a piece of a connection

-- the event of a piece that a connection brought
abbrev pub piece_event : {W : Type 0} → Gateway W → ℕ → List ℕ → Event
piece_event gateway c piece = event.Bytes c gateway.moment piece

-- what was put out of an event waits: the notices, and the replies on other connections than the named one
pub record Sorts {W : Type 0} (named : Option ℕ) (outs : List Output) (old new : Gateway W) : Type 0 where
  pub queues : Queues old.notices.lanes outs new.notices.lanes
  pub keeps : Keeps named old.replies.items outs new.replies.items

-- .. or of each tenant a first part of the notices does, and a first part of the replies
pub record SortsSome {W : Type 0} (named : Option ℕ) (outs : List Output) (old new : Gateway W) : Type 0 where
  pub queues : QueuesSome old.notices.lanes outs new.notices.lanes
  pub keeps : KeepsSome named old.replies.items outs new.replies.items

-- The world took an event and handled it, what it put out waits, and this is the reply that it put out on the
-- connection. There is none where the request isn't whole yet, where no quorum has answered it, or where the instance
-- stopped.
pub record GivesReply {W : Type 0} (contents : W → Contents) (c : ℕ) (e : Event) (reply : Option (List ℕ))
    (outs : List Output) (old new : Gateway W) : Type 0 where
  pub taken : refusal (contents old.world.now).state e ≡ None
  pub handles : Handles (contents old.world.now) e old.moment outs (contents new.world.now)
  pub reply_is : reply_on (Some c) outs ≡ reply
  pub sorts : Sorts (Some c) outs old new
  pub under_way : SameUnderWay old new
  pub vain : new.vain ≡ old.vain
  pub same : IsSameGateway old new

-- the world refused the event, and nothing changed
pub record RefusesEvent {W : Type 0} (contents : W → Contents) (e : Event) (old new : Gateway W) : Type 0 where
  pub refused : IsSome (refusal (contents old.world.now).state e)
  pub unchanged : new ≡ old

-- memory ran out before the world had the event of a connection, and nothing changed; or the world handled it, and of
-- what it put out all but a first part was lost
pub record LosesEvent {W : Type 0} (contents : W → Contents) (c : ℕ) (e : Event) (old new : Gateway W) : Type 0 where
  pub reached : (new ≡ old) ⊎ ((outs : List Output)
      × Handles (contents old.world.now) e old.moment outs (contents new.world.now) × SortsSome (Some c) outs old new)
  pub is_tick_due : new.is_tick_due ≡ old.is_tick_due
  pub under_way : SameUnderWay old new
  pub vain : new.vain ≡ old.vain
  pub same : IsSameGateway old new

-- the world was told that the client of a connection left
pub record ClosesConnection {W : Type 0} (contents : W → Contents) (old : Gateway W) (c : ℕ) (new : Gateway W) :
    Type 0 where
  pub step : Step (contents old.world.now) (event.Close c) (contents new.world.now)
  pub refused : IsSome (refusal (contents old.world.now).state (event.Close c)) → new ≡ old
  pub rest : new ≡ record old { world = new.world }

-- memory ran out, and the connection was closed
pub record ClosesForMemory {W : Type 0} (contents : W → Contents) (c : ℕ) (e : Event) (old new : Gateway W) :
    Type 0 where
  pub mid : Gateway W
  pub loses : LosesEvent contents c e old mid
  pub closed : ClosesConnection contents mid c new

-- a tick is due once the world answered `GET /ready`, as it was before
abbrev pub LetsTick : {W : Type 0} → Gateway W → List ℕ → Gateway W → Type 0
LetsTick old reply new = IsTrue new.is_tick_due ↔ (IsTrue old.is_tick_due ⊎ (reply ≡ old.ready))

-- the world handled an event of no connection; what it put out waits, or where memory ran out a first part of it
pub record TellsWorld {W : Type 0} {X E : Type 0} (contents : W → Contents) (result : Result X E) (e : Event)
    (old new : Gateway W) : Type 0 where
  pub outs : List Output
  pub handles : Handles (contents old.world.now) e old.moment outs (contents new.world.now)
  pub sorts : OnOk result (Sorts None outs old new)
  pub loses : OnErr result (SortsSome None outs old new)
  pub vain : new.vain ≡ old.vain

-- memory may run out here, so that of what was put out all but a first part was lost
abbrev pub TellsMostly : {W : Type 0} → (W → Contents) → Event → Gateway W → Gateway W → Type 0
TellsMostly contents e old new = (told : Result (Unit {0}) AllocError) × TellsWorld contents told e old new

-- a tenant was settled by force; nothing else of the gateway changed
pub record Settles {W : Type 0} (contents : W → Contents) (t : List ℕ) (old new : Gateway W) : Type 0 where
  pub told : TellsMostly contents (event.Force t) old new
  pub is_tick_due : new.is_tick_due ≡ old.is_tick_due
  pub under_way : SameUnderWay old new
  pub same : IsSameGateway old new

-- .. unless an instance has yet to learn the newest ring, which may bring what is lacking: nothing changed then
abbrev pub SettlesInTime : {W : Type 0} → (W → Contents) → List ℕ → Gateway W → Gateway W → Type 0
SettlesInTime contents t old new =
    MatchOption (behind (contents old.world.now).state) (Settles contents t old new) (λ i. new ≡ old)

-- What the server is told of a connection, by what became of an event of it. A request is whole where it has messages
-- sent. As none gets lost, it has its reply then, unless too few replicas of its tenant are up, settled and by one
-- ring: once all know the newest, the tenant is settled by force, so that its next request has a reply, and this one's
-- is still to come.
abbrev pub IsVerdictOn : {W : Type 0} → (W → Contents) → ℕ → Event → Gateway W → Verdict → Gateway W → Type 0
IsVerdictOn contents c e old Undecided new = (outs : List Output) × GivesReply contents c e None outs old new
    × (asked_in outs ≡ None) × (new.is_tick_due ≡ old.is_tick_due)
IsVerdictOn {W = W} contents c e old Later new = (outs : List Output) × (t : List ℕ) × (mid : Gateway W)
    × GivesReply contents c e None outs old mid
    × (asked_in outs ≡ Some t) × (mid.is_tick_due ≡ old.is_tick_due) × SettlesInTime contents t mid new
IsVerdictOn contents c e old (Reply bytes) new = (outs : List Output)
    × GivesReply contents c e (Some bytes.items) outs old new × LetsTick old bytes.items new
IsVerdictOn contents c e old Gone new = RefusesEvent contents e old new ⊎ ClosesForMemory contents c e old new

-- a piece of a connection went to the world, and this is what the server is told
abbrev pub TakesPiece : {W : Type 0} → (W → Contents) → Gateway W → ℕ → List ℕ → Verdict → Gateway W → Type 0
TakesPiece contents old c piece verdict new = IsVerdictOn contents c (piece_event old c piece) old verdict new

-- the world was told that a connection was opened to an instance, or refused that
pub record OpensAt {W : Type 0} (contents : W → Contents) (i : ℕ) (old : Gateway W) (c : ℕ) (result : Bool)
    (new : Gateway W) : Type 0 where
  pub step : Step (contents old.world.now) (event.Open c i) (contents new.world.now)
  pub result_is : IsTrue result ↔ (refusal (contents old.world.now).state (event.Open c i) ≡ None)
  pub refused : result ≡ false → new ≡ old
  pub rest : new ≡ record old { world = new.world }

-- a connection is opened where the gateway's world serves; where no instance is up it isn't, and nothing changed
abbrev pub OpensConnection : {W : Type 0} → (W → Contents) → Gateway W → ℕ → Bool → Gateway W → Type 0
OpensConnection contents old c result new = MatchOption (serving_in (contents old.world.now).state)
    ((result ≡ false) × (new ≡ old)) (λ i. OpensAt contents i old c result new)

-- ---- the clock and the calls

-- an instance was restarted, and then it is counted whether that was in vain, unless memory ran out
pub record RestartsAt {W : Type 0} {X E : Type 0} (contents : W → Contents) (result : Result X E) (i : ℕ)
    (old new : Gateway W) : Type 0 where
  pub told : Result X E
  pub mid : Gateway W
  pub tells : TellsWorld contents told (event.Restart i) old mid
  pub goes_on : IsOk result → IsOk told
  pub counted : OnOk result (new.vain.items
      ≡ counted old.vain.items (is_some (cause_at i (contents new.world.now).state.instances)) i)
  pub uncounted : OnErr result (new.vain.items ≡ old.vain.items)
  pub rest : new ≡ record mid { vain = new.vain }

-- the instance was restarted that is next, where one is
abbrev pub RestartsNext : {W : Type 0} {X E : Type 0} → (W → Contents) → Result X E → Gateway W → Gateway W → Type 0
RestartsNext contents result old new = MatchOption (fallen old.vain.items (contents old.world.now).state)
    (IsOk result × (new ≡ old)) (λ i. RestartsAt contents result i old new)

-- the instance that is behind and next went on to the ring that follows, where one is
abbrev pub LearnsNext : {W : Type 0} {X E : Type 0} → (W → Contents) → Result X E → Gateway W → Gateway W → Type 0
LearnsNext contents result old new = MatchOption (behind (contents old.world.now).state)
    (IsOk result × (new ≡ old)) (λ i. TellsWorld contents result (event.Learn i) old new)

-- What is done before the world is told a moment: an instance is restarted, one goes on to the next ring, where there
-- is one; or memory ran out
abbrev pub MakesReady : {W : Type 0} {X E : Type 0} → (W → Contents) → Result X E → Gateway W → Gateway W → Type 0
MakesReady {W = W} {X = X} {E = E} contents result old new = (restarted : Result X E) × (mid : Gateway W)
    × RestartsNext contents restarted old mid
    × ((IsErr restarted × IsErr result × (new ≡ mid)) ⊎ (IsOk restarted × LearnsNext contents result mid new))

-- that was done, and the world was told the moment; or memory ran out before
abbrev pub GoesOn : {W : Type 0} {X E : Type 0} → (W → Contents) → Result X E → Gateway W → Gateway W → Type 0
GoesOn {W = W} {X = X} {E = E} contents result old new = (ready : Result X E) × (mid : Gateway W)
    × MakesReady contents ready old mid
    × ((IsErr ready × IsErr result × (new ≡ mid))
    ⊎ (IsOk ready × TellsWorld contents result (event.Tick mid.moment) mid new))

-- the world handled an event, and then the restarts in vain of instances that are up are forgotten
pub record TellsAndForgets {W : Type 0} {X E : Type 0} (contents : W → Contents) (result : Result X E) (e : Event)
    (old new : Gateway W) : Type 0 where
  pub mid : Gateway W
  pub tells : TellsWorld contents result e old mid
  pub vain : new.vain.items ≡ vain_since old.vain.items (contents new.world.now).state
  pub rest : new ≡ record mid { vain = new.vain }

-- an event was refused, for this, and nothing changed; or it happened
abbrev pub Operates : {W : Type 0} {E : Type 0} → (W → Contents) → Result (Option Refused) E → Event → Gateway W →
    Gateway W → Type 0
Operates contents result e old new = MatchOption (refusal (contents old.world.now).state e)
    (IfOk result (λ refused. refused ≡ None) × TellsAndForgets contents result e old new)
    (λ why. (result ≡ Ok (Some why)) × (new ≡ old))

-- the notice that waited longest of the tenant whose turn it is, which has fewer calls under way than there are places
-- free, is under way now
pub record BeginsCall {W : Type 0} (free : ℕ) (notice : Notice Try) (old new : Gateway W) : Type 0 where
  pub tenant : List ℕ
  pub ready : is_ready free tenant old.notices.lanes ≡ true
  pub turn : (t : List ℕ) → comes_before old.notices.last t tenant ≡ true → is_ready free t old.notices.lanes ≡ false
  pub last : new.notices.last ≡ Some tenant
  pub first : waiting_of tenant old.notices.lanes ≡ notice ∷ waiting_of tenant new.notices.lanes
  pub others : (t : List ℕ) → same t tenant ≡ false → waiting_of t new.notices.lanes ≡ waiting_of t old.notices.lanes
  pub under_way : (t : List ℕ) → under_way_of t new.notices.lanes
      ≡ (if same t tenant then under_way_of t old.notices.lanes + 1 else under_way_of t old.notices.lanes)

-- how many bytes a notice holds that waits
abbrev pub notice_bytes : Notice Try → ℕ
notice_bytes notice = length notice.request

-- the notices that wait hold over 256 MiB, and this one doesn't hold all of it
pub record WaitsTooMuch {W : Type 0} (notice : Notice Try) (gateway : Gateway W) : Type 0 where
  pub over : 268435456 < all_bytes notice_bytes gateway.notices.lanes
  pub shared : notice_bytes notice ≢ all_bytes notice_bytes gateway.notices.lanes

-- the notice that waited longest of the tenant of whom most bytes wait is taken as if its call were begun
pub record GivesUpCall {W : Type 0} (notice : Notice Try) (old new : Gateway W) : Type 0 where
  pub tenant : List ℕ
  pub heaviest : IsHeaviest notice_bytes tenant old.notices.lanes
  pub first : waiting_of tenant old.notices.lanes ≡ notice ∷ waiting_of tenant new.notices.lanes
  pub others : (t : List ℕ) → same t tenant ≡ false → waiting_of t new.notices.lanes ≡ waiting_of t old.notices.lanes
  pub under_way : (t : List ℕ) → under_way_of t new.notices.lanes
      ≡ (if same t tenant then under_way_of t old.notices.lanes + 1 else under_way_of t old.notices.lanes)

-- one call fewer of a tenant is under way
abbrev pub EndsCall : {W : Type 0} → List ℕ → Gateway W → Gateway W → Type 0
EndsCall tenant old new = (t : List ℕ) → under_way_of t new.notices.lanes
    ≡ (if same t tenant then under_way_of t old.notices.lanes - 1 else under_way_of t old.notices.lanes)
