-- What a world puts out, sorted: replies by connection, notices by tenant.
use Rattle.std.specs.Prelude.{ℕ, ◌≡◌, ◌==◌, ◌++◌, Bool, false, List, [], ◌∷◌, Option, None, Some, if◌then◌else◌}
use Rattle.std.specs.BTreeMap.{BTreeMap}
use Rattle.am_event.specs.declared.output.Output.{Output}
use Rattle.am_event.specs.declared.output.Output.TheVariants as output
use Rattle.am_serve.specs.Lanes.{waiting_of}
use Rattle.am_serve.specs.declared.lanes.Lane.{Lane}
use Rattle.am_server.specs.declared.service.Notice.{Notice}
use Rattle.am_tenant.specs.Names.{same}
use Rattle.am_gateway.specs.declared.gateway.Try.{Try}
use Rattle.am_gateway.specs.declared.sorting.LateReply.{LateReply}

-- the connection is the one that is named, if one is
abbrev pub is_on : Option ℕ → ℕ → Bool
is_on None d = false
is_on (Some c) d = c == d

-- the first of two that is there
abbrev pub or_else : {X : Type 0} → Option X → Option X → Option X
or_else None other = other
or_else (Some x) other = Some x

-- the first reply among outputs on the connection that is named, if one is
abbrev pub reply_on : Option ℕ → List Output → Option (List ℕ)
reply_on named [] = None
reply_on named (output.Reply d bytes ∷ outs) = if is_on named d then Some bytes else reply_on named outs
reply_on named (output.Notice attempt tries url bytes ∷ outs) = reply_on named outs
reply_on named (output.Send message ∷ outs) = reply_on named outs

-- the replies among outputs on other connections, in order
abbrev pub late_replies : Option ℕ → List Output → List LateReply
late_replies named [] = []
late_replies named (output.Reply d bytes ∷ outs) =
    if is_on named d then late_replies named outs
    else record { connection = d; bytes = bytes } ∷ late_replies named outs
late_replies named (output.Notice attempt tries url bytes ∷ outs) = late_replies named outs
late_replies named (output.Send message ∷ outs) = late_replies named outs

-- the notices of a tenant among outputs, in order: each with its own URL and request
abbrev pub notices_of : List ℕ → List Output → List (Notice Try)
notices_of t [] = []
notices_of t (output.Reply d bytes ∷ outs) = notices_of t outs
notices_of t (output.Notice attempt tries url bytes ∷ outs) =
    if same t attempt.tenant
    then record { name = record { attempt = attempt; tries = tries }; url = url; request = bytes } ∷ notices_of t outs
    else notices_of t outs
notices_of t (output.Send message ∷ outs) = notices_of t outs

-- what waits of each tenant
abbrev pub TryLanes : Type 0
TryLanes = BTreeMap (List ℕ) (Lane (Notice Try))

-- of each tenant, the notices among these outputs wait behind those that waited before
abbrev pub Queues : TryLanes → List Output → TryLanes → Type 0
Queues old outs new = (t : List ℕ) → waiting_of t new ≡ waiting_of t old ++ notices_of t outs

-- .. or a first part of them does
abbrev pub QueuesSome : TryLanes → List Output → TryLanes → Type 0
QueuesSome old outs new = (t : List ℕ) → (kept : List (Notice Try)) × (lost : List (Notice Try))
    × (notices_of t outs ≡ kept ++ lost) × (waiting_of t new ≡ waiting_of t old ++ kept)

-- the replies on other connections wait behind those that waited before
abbrev pub Keeps : Option ℕ → List LateReply → List Output → List LateReply → Type 0
Keeps named old outs new = new ≡ old ++ late_replies named outs

-- .. or a first part of them does
abbrev pub KeepsSome : Option ℕ → List LateReply → List Output → List LateReply → Type 0
KeepsSome named old outs new = (kept : List LateReply) × (lost : List LateReply)
    × (late_replies named outs ≡ kept ++ lost) × (new ≡ old ++ kept)
