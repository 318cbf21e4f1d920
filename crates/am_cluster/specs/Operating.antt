-- Operations: a request goes to the three replicas, is decided at the second answer, and is replied to at the second
-- Ack.
use Rattle.std.specs.Prelude.{ℕ, ◌+◌, ◌&&◌, nat_le, nat_lt, ◌==◌, Bool, true, false, sum_by, codes, List, [], ◌∷◌, ◌++◌}
use Rattle.std.specs.Prelude.{length, Option, Some, None, option_map, if◌then◌else◌}
use Rattle.am_alert.specs.Made.{counts_fit, greatest_count}
use Rattle.am_alert.specs.declared.maker.Maker.{Maker}
use Rattle.am_api.specs.Decision.{decided}
use Rattle.am_api.specs.Replied.{Decision, refused}
use Rattle.am_http.specs.Replies.{refusal, reply}
use Rattle.am_http.specs.declared.request.Endpoint.{Endpoint}
use Rattle.am_http.specs.declared.request.Endpoint.TheVariants.{Alerts, AlertGroups, Silences, Silence, Receivers}
use Rattle.am_http.specs.declared.request.Endpoint.TheVariants.{Configuration}
use Rattle.am_http.specs.declared.request.Method.{Method}
use Rattle.am_http.specs.declared.request.Method.TheVariants as method
use Rattle.am_http.specs.declared.request.Request.{Request}
use Rattle.am_item.specs.Best.{all_joined, merged}
use Rattle.am_item.specs.declared.item.Item.{Item}
use Rattle.am_item.specs.Kinds.{alerts_of}
use Rattle.am_length.specs.Capped.{capped}
use Rattle.am_words.specs.Words.{generator_of}
use Rattle.rand_chacha.specs.ChaCha.{ChaCha}
pub use Rattle.am_quorum.specs.Operations.{reply_for}
use Rattle.am_quorum.specs.Operations.{lists_for}
use Rattle.am_quorum.specs.declared.operation.Decide.{Decide as Lists}
use Rattle.am_cluster.specs.Accepting.{counted}
use Rattle.am_cluster.specs.Here.{Here}
use Rattle.am_cluster.specs.Local.{Ledger, Local, with_operations}
use Rattle.am_cluster.specs.Messages.{Get, Put}
use Rattle.am_cluster.specs.Operations.{Answered, Decided, Operation, Stage, Undecided, operation_of, with_operation}
use Rattle.am_cluster.specs.Operations.{without_operation}
use Rattle.am_transfer.specs.Pieces.{size_of}
use Rattle.am_cluster.specs.Reactions.{Reaction, Replies, each, says, stays, where_some, ◌>>◌}
use Rattle.am_cluster.specs.Sending.{send_all}

-- ---- how an operation starts, and how it ends

-- the operation of a request that comes now, in the epoch that is known
abbrev pub operation_for : Here → (connection : ℕ) → Request → (number : ℕ) → Operation
operation_for here connection request number = record {
  number = number;
  connection = connection;
  request = request;
  started_at = here.moment;
  epoch = here.epoch;
  stage = Undecided None;
}

-- it is opened, and its number is counted
abbrev pub begin : Operation → Local → Reaction
begin operation local = record {
  local = record local {
    operations = local.operations ++ operation ∷ [];
    ledger = record (local.ledger) { operations = operation.number };
  };
  said = [];
  fits = nat_le operation.number greatest_count;
}

-- a whole request starts an operation with the next number, and asks the three in order of position
unfoldable pub start : Here → (connection : ℕ) → Request → Local → Reaction
start here connection request local =
    let operation : Operation = operation_for here connection request (local.ledger.operations + 1) in
    (begin operation >> send_all here.epoch here here.three (Get operation.number)) local

-- the operation is over, and its connection gets this reply
unfoldable pub finish : (reply : List ℕ) → Operation → Local → Reaction
finish bytes operation local =
    says (Replies operation.connection bytes)
    (with_operations (without_operation operation.number local.operations) local)

-- .. that it couldn't be carried out, for the reason of this code
abbrev pub unavailable : (code : List ℕ) → List ℕ
unavailable code = reply 503 (refusal code)

-- an operation that was open too long is answered so
abbrev pub timed_out : Operation → Local → Reaction
timed_out operation local = finish (unavailable (codes "Q1")) operation local

-- the tenant's replicas changed: all open operations are answered so, in order of number
unfoldable pub replicas_changed : Local → Reaction
replicas_changed local = each (finish (unavailable (codes "Q2"))) local.operations local

-- ---- the decision

-- what decides on a request: a function of what the instance goes by, the request, the list of the two answers, and
-- what the instance has
abbrev pub Decide : Type 0
Decide = Here → Request → List Item → Local → Decision

-- who stamps items
abbrev pub maker : Here → Ledger → Maker
maker here ledger = record { instance = here.instance; incarnation = here.incarnation; used = ledger.stamps }

-- the words of the tenant at the instance, from the next one on
abbrev pub words : (service_key : List ℕ) → Here → Ledger → ChaCha
words service_key here ledger = generator_of service_key here.tenant here.instance here.incarnation ledger.drawn

-- the request posts alerts
abbrev pub posts : Method → Bool
posts method.Get = false
posts method.Post = true
posts method.Delete = false

abbrev pub posts_to_alerts : Endpoint → Method → Bool
posts_to_alerts Alerts m = posts m
posts_to_alerts AlertGroups m = false
posts_to_alerts Silences m = false
posts_to_alerts (Silence text) m = false
posts_to_alerts Receivers m = false
posts_to_alerts Configuration m = false

-- how many bytes the alerts among items take, as they are spelled in messages: a number of 64 bits
unfoldable pub alert_bytes_in : List Item → ℕ
alert_bytes_in items = capped (sum_by size_of (alerts_of items))

-- Posted alerts that every other check lets pass, and with which the alerts would take more bytes than the limit.
-- (A count past the greatest stops them before.)
abbrev pub goes_past : (limit : Option ℕ) → Request → (held : List Item) → (status : ℕ) → List Item → Bool
goes_past None request held status items = false
goes_past (Some most) request held status items =
    posts_to_alerts request.endpoint request.method && status == 200 && counts_fit items
    && nat_lt most (alert_bytes_in (all_joined held items))

-- .. are refused
abbrev pub within_bytes : (limit : Option ℕ) → Request → (held : List Item) → Decision → Decision
within_bytes limit request held decision =
    if goes_past limit request held decision.status decision.items then refused 429 (codes "Li5") else decision

-- the decision on the request, where this list is held of the tenant
unfoldable pub decision_on : (service_key : List ℕ) → Decide
decision_on service_key here request held local =
    within_bytes here.limits.alert_bytes request held
    (decided request held here.limits here.moment (maker here local.ledger) (words service_key here local.ledger))

-- ---- answers

abbrev pub at_stage : Stage → Operation → Local → Local
at_stage stage operation local =
    with_operations (with_operation (record operation { stage = stage }) local.operations) local

-- the items that were made are counted
abbrev pub stamp : Decision → Local → Reaction
stamp decision local =
    record { local = counted decision.items decision.drawn local; said = []; fits = counts_fit decision.items }

-- the reply waits for Acks of the items
abbrev pub wait_with : (reply : List ℕ) → Operation → Local → Reaction
wait_with reply operation local = stays (at_stage (Decided reply None) operation local)

-- It is decided. Without items the reply goes out; otherwise the items go to the three, in the operation's epoch.
-- (The three are those with which it started: where they change, it is over.)
unfoldable pub carry_out : Here → Operation → Decision → Local → Reaction
carry_out here operation decision local =
    let bytes : List ℕ = reply decision.status decision.body in
    (stamp decision >> (if length decision.items == 0 then finish bytes operation
    else (wait_with bytes operation >> send_all operation.epoch here here.three (Put operation.number decision.items))))
    local

-- the list on which an operation is decided, once this answer comes: the best of two answers, which are of different
-- replicas
abbrev pub list_for : Stage → Answered → Option (List Item)
list_for stage answer = option_map (λ (lists : Lists). merged lists.first lists.second) (lists_for stage answer)

-- an answer that doesn't decide: the first one is kept, and no other one adds anything
abbrev pub first_answer : Operation → Stage → Answered → Local → Local
first_answer operation (Undecided None) answer local = at_stage (Undecided (Some answer)) operation local
first_answer operation (Undecided (Some first)) answer local = local
first_answer operation (Decided reply first) answer local = local

-- .. by whether there is a list to decide on
abbrev pub answer_by : Decide → Here → Operation → Answered → Option (List Item) → Local → Reaction
answer_by decide here operation answer None local = stays (first_answer operation operation.stage answer local)
answer_by decide here operation answer (Some list) local =
    carry_out here operation (decide here operation.request list local) local

-- an answer to the operation of this number, which started in this epoch
unfoldable pub answered : Decide → Here → (number epoch : ℕ) → Answered → Local → Reaction
answered decide here number epoch answer local =
    where_some (λ (operation : Operation). answer_by decide here operation answer (list_for operation.stage answer))
    (operation_of number epoch local.operations) local

-- ---- Acks

-- an Ack that lets no reply out: the first one is kept, and no other one adds anything
abbrev pub first_ack : Operation → Stage → (from : ℕ) → Local → Local
first_ack operation (Undecided first) from local = local
first_ack operation (Decided reply None) from local = at_stage (Decided reply (Some from)) operation local
first_ack operation (Decided reply (Some first)) from local = local

abbrev pub ack_by : Operation → (from : ℕ) → Option (List ℕ) → Local → Reaction
ack_by operation from None local = stays (first_ack operation operation.stage from local)
ack_by operation from (Some reply) local = finish reply operation local

-- an Ack of the operation of this number, which started in this epoch
unfoldable pub acked : (number epoch from : ℕ) → Local → Reaction
acked number epoch from local =
    where_some (λ (operation : Operation). ack_by operation from (reply_for operation.stage from))
    (operation_of number epoch local.operations) local
