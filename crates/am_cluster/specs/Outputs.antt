-- Whose an output is.
use Rattle.std.specs.Prelude.{ℕ, Bool, true, false, ◌++◌, is_some, List, [], ◌∷◌, Option, None, Some, filter}
use Rattle.std.specs.Prelude.{if◌then◌else◌}
use Rattle.std.specs.List.{list_all}
use Rattle.am_http.specs.Codes.{code_of, status_of}
use Rattle.am_http.specs.Replies.{ready_reply, refusal, reply}
use Rattle.am_http.specs.Verdict.{verdict}
use Rattle.am_http.specs.declared.refusal.FrontRefusal.{FrontRefusal}
use Rattle.am_http.specs.declared.request.Fed.{Fed}
use Rattle.am_http.specs.declared.request.Fed.TheVariants as fed
use Rattle.am_tenant.specs.Names.{same}
use Rattle.am_cluster.specs.Events.{Event, Bytes, Output, Reply, Notice, Send}
use Rattle.am_cluster.specs.Moments.{is_too_late}
use Rattle.am_cluster.specs.View.{Seen, Reading, AskedAs, FrontAnswered, Shut, Watch, look, watch}

-- an output is a tenant's, or the front's, which no tenant sees
pub data Owner : Type 0 where
  Tenant : (name : List ℕ) → Owner
  Front : Owner

-- whose replies on a connection are; one that isn't decided, or that is shut, has none
abbrev pub replier : Option Seen → Option Owner
replier None = None
replier (Some (Reading i bytes)) = None
replier (Some (AskedAs tenant)) = Some (Tenant tenant)
replier (Some FrontAnswered) = Some Front
replier (Some Shut) = None

-- whose an output is: a reply by what is known of its connection, a notice by its attempt's name, a message by its
-- own. (What goes out of a message are the bytes that spell it, which tell the message.)
unfoldable pub owner : Watch → Output → Option Owner
owner v (Reply c bytes) = replier (look c v.table)
owner v (Notice attempt tries url bytes) = Some (Tenant attempt.tenant)
owner v (Send message) = Some (Tenant message.tenant)

abbrev pub is_tenant : List ℕ → Option Owner → Bool
is_tenant t None = false
is_tenant t (Some (Tenant name)) = same t name
is_tenant t (Some Front) = false

abbrev pub is_front : Option Owner → Bool
is_front None = false
is_front (Some (Tenant name)) = false
is_front (Some Front) = true

-- the tenant's outputs, in order
abbrev pub outputs_of : List ℕ → Watch → List Output → List Output
outputs_of t v outputs = filter (λ output. is_tenant t (owner v output)) outputs

-- the front's outputs, in order
abbrev pub front_outputs : Watch → List Output → List Output
front_outputs v outputs = filter (λ output. is_front (owner v output)) outputs

-- each output is somebody's
abbrev pub are_owned : Watch → List Output → Bool
are_owned v outputs = list_all (λ output. is_some (owner v output)) outputs

-- ---- what the front says

-- its reply to bytes that it refuses
unfoldable pub refusal_reply : FrontRefusal → List ℕ
refusal_reply reason = reply (status_of reason) (refusal (code_of reason))

-- what it answers to bytes of a connection by itself
abbrev pub answered_by : ℕ → Fed → List Output
answered_by c fed.Waits = []
answered_by c (fed.Refused reason) = Reply c (refusal_reply reason) ∷ []
answered_by c fed.Ready = Reply c ready_reply ∷ []
answered_by c (fed.Request request) = []

-- .. to a piece, by what the table says of the connection
abbrev pub answered_on : ℕ → List ℕ → Option Seen → List Output
answered_on c piece None = []
answered_on c piece (Some (Reading i before)) = answered_by c (verdict (before ++ piece))
answered_on c piece (Some (AskedAs tenant)) = []
answered_on c piece (Some FrontAnswered) = []
answered_on c piece (Some Shut) = []

-- what it says at an event: a function of the bytes of connections alone
unfoldable pub front_told : Watch → Event → List Output
front_told v (Bytes c moment piece) = if is_too_late moment then [] else answered_on c piece (look c v.table)
front_told v e = []

-- .. and at all events
abbrev pub front_told_all : Watch → List Event → List Output
front_told_all v [] = []
front_told_all v (e ∷ es) = front_told v e ++ front_told_all (watch v e) es
