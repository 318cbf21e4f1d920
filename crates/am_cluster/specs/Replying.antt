-- Where the replies of a tenant go: to connections over which its requests came; and which requests its open operations
-- have.
use Rattle.std.specs.Prelude.{ℕ, All, List, Option, Some, None}
use Rattle.std.specs.List.{filter_map}
use Rattle.am_http.specs.declared.request.Request.{Request}
use Rattle.am_cluster.specs.Events.{Notice, Output, Reply, Send}
use Rattle.am_cluster.specs.Happening.{Happening, Asked, Changed, Delivered, Forced, Limited, Lost, Ticked, Tried}
use Rattle.am_cluster.specs.Local.{Local}
use Rattle.am_cluster.specs.Operations.{Operation}
use Rattle.am_cluster.specs.Reactions.{Reaction, Replies, Said, Sends, Tells}

-- the connection over which a request came
abbrev pub connection_in : Happening → Option ℕ
connection_in (Asked connection i moment request) = Some connection
connection_in (Limited limits) = None
connection_in (Ticked moment) = None
connection_in (Tried i k number tries moment status) = None
connection_in (Delivered from k to count moment) = None
connection_in (Lost from k to count) = None
connection_in (Changed event) = None
connection_in Forced = None

-- the connections over which requests came, in order
abbrev pub connections_of : List Happening → List ℕ
connections_of hs = filter_map connection_in hs

-- An asker is a connection with a request that came over it.

-- a request that comes is of an asker of whom P holds
abbrev pub AsksAs : (P : (connection : ℕ) → Request → Type 0) → Happening → Type 0
AsksAs P (Asked connection i moment request) = P connection request
AsksAs P (Limited limits) = Unit {0}
AsksAs P (Ticked moment) = Unit {0}
AsksAs P (Tried i k number tries moment status) = Unit {0}
AsksAs P (Delivered from k to count moment) = Unit {0}
AsksAs P (Lost from k to count) = Unit {0}
AsksAs P (Changed event) = Unit {0}
AsksAs P Forced = Unit {0}

-- each of these operations answers such an asker
abbrev pub WaitOver : (P : (connection : ℕ) → Request → Type 0) → List Operation → Type 0
WaitOver P operations = All (λ (o : Operation). P o.connection o.request) operations

-- what is said is a reply to such an asker, or no reply
abbrev pub GoesOver : (P : (connection : ℕ) → Request → Type 0) → Said → Type 0
GoesOver P (Replies connection bytes) = (request : Request) × P connection request
GoesOver P (Sends message) = Unit {0}
GoesOver P (Tells sending) = Unit {0}

abbrev pub ReplyOver : (P : (connection : ℕ) → Request → Type 0) → List Said → Type 0
ReplyOver P said = All (GoesOver P) said

-- .. of what is put out
abbrev pub IsOutOver : (P : (connection : ℕ) → Request → Type 0) → Output → Type 0
IsOutOver P (Reply connection bytes) = (request : Request) × P connection request
IsOutOver P (Notice attempt tries url bytes) = Unit {0}
IsOutOver P (Send message) = Unit {0}

-- all operations that are left answer such askers, and so do all replies that go out
abbrev pub IsOver : (P : (connection : ℕ) → Request → Type 0) → Reaction → Type 0
IsOver P r = WaitOver P r.local.operations × ReplyOver P r.said

-- what an instance does leads to no other askers than those of its open operations
abbrev pub KeepsAskers : (P : (connection : ℕ) → Request → Type 0) → (Local → Reaction) → Type 0
KeepsAskers P f = (l : Local) → WaitOver P l.operations → IsOver P (f l)
