-- The open operations of a tenant at an instance: what each of them waits for, and what answers and Acks make of them.
use Rattle.std.specs.Prelude.{◌==◌, ◌&&◌, not, nat_le, ℕ, List, map, filter, find, Option, Some, None, if◌then◌else◌}
use Rattle.am_http.specs.declared.request.Request.{Request}
use Rattle.am_item.specs.Retirement.{moment_after}
use Rattle.am_quorum.specs.declared.operation.Answered.{Answered}
use Rattle.am_quorum.specs.declared.operation.Decide.{Decide}
use Rattle.am_quorum.specs.declared.operation.Operation.{Operation}
use Rattle.am_quorum.specs.declared.operation.Ready.{Ready}
use Rattle.am_quorum.specs.declared.operation.Stage.{Stage}
use Rattle.am_quorum.specs.declared.operation.Stage.TheVariants.{Undecided, Decided}
use Rattle.am_quorum.specs.declared.operation.Target.{Target}

-- the operation of a request that comes on a connection at a moment, in the epoch that is known
abbrev pub opened : (connection : ℕ) → Request → (moment epoch number : ℕ) → Operation
opened connection request moment epoch number = record {
  number = number;
  connection = connection;
  request = request;
  started_at = moment;
  epoch = epoch;
  stage = Undecided None;
}

-- the operation of a number, where it is open
abbrev pub operation_at : ℕ → List Operation → Option Operation
operation_at n operations = find (λ (o : Operation). o.number == n) operations

-- .. and started in this epoch
abbrev pub operation_of : (number epoch : ℕ) → List Operation → Option Operation
operation_of n epoch operations = find (λ (o : Operation). o.number == n && o.epoch == epoch) operations

-- an operation, where there is one and it started in this epoch
abbrev pub of_epoch : (epoch : ℕ) → Option Operation → Option Operation
of_epoch epoch None = None
of_epoch epoch (Some operation) = if operation.epoch == epoch then Some operation else None

abbrev pub without_operation : ℕ → List Operation → List Operation
without_operation n operations = filter (λ (o : Operation). not (o.number == n)) operations

-- the operation in the place of the one of its number
abbrev pub with_operation : Operation → List Operation → List Operation
with_operation operation operations =
    map (λ (o : Operation). if o.number == operation.number then operation else o) operations

-- the operation at another stage
abbrev pub at_stage : Stage → Operation → List Operation → List Operation
at_stage stage operation operations = with_operation (record operation { stage = stage }) operations

-- an operation is given up where it has been open so many milliseconds
abbrev pub deadline : ℕ
deadline = 5000

-- when it is
abbrev pub due_of : Operation → ℕ
due_of operation = moment_after operation.started_at deadline

-- the operation that an Answer or an Ack is for, where it is open. What names another incarnation of the instance than
-- this is for none, and so is what is of another epoch than the operation
abbrev pub target_in : (incarnation : ℕ) → Target → List Operation → Option Operation
target_in incarnation target operations =
    if target.incarnation == incarnation then operation_of target.number target.epoch operations else None

-- ---- answers

-- both lists on which it is decided, once this answer comes: those of two different replicas
abbrev pub lists_for : Stage → Answered → Option Decide
lists_for (Undecided None) answer = None
lists_for (Undecided (Some first)) answer =
    if first.from == answer.from then None else Some (record { first = first.items; second = answer.items })
lists_for (Decided reply first) answer = None

abbrev pub lists_by : Answered → Option Operation → Option Decide
lists_by answer None = None
lists_by answer (Some operation) = lists_for operation.stage answer

-- the first answer of an operation is kept, and no other one adds anything
abbrev pub first_answer : Operation → Stage → Answered → List Operation → List Operation
first_answer operation (Undecided None) answer operations = at_stage (Undecided (Some answer)) operation operations
first_answer operation (Undecided (Some first)) answer operations = operations
first_answer operation (Decided reply first) answer operations = operations

abbrev pub answered_by : Answered → Option Operation → List Operation → List Operation
answered_by answer None operations = operations
answered_by answer (Some operation) operations = first_answer operation operation.stage answer operations

-- ---- Acks

-- the reply of an operation, once this replica has acknowledged: where it is the second one that did
abbrev pub reply_for : Stage → (from : ℕ) → Option (List ℕ)
reply_for (Undecided first) from = None
reply_for (Decided reply None) from = None
reply_for (Decided reply (Some first)) from = if first == from then None else Some reply

-- .. with the connection that it goes to
abbrev pub ready_with : Operation → Option (List ℕ) → Option Ready
ready_with operation None = None
ready_with operation (Some reply) = Some (record { connection = operation.connection; reply = reply })

abbrev pub ready_by : (from : ℕ) → Option Operation → Option Ready
ready_by from None = None
ready_by from (Some operation) = ready_with operation (reply_for operation.stage from)

-- the first Ack of a decided operation is kept, and no other one adds anything
abbrev pub first_ack : Operation → Stage → (from : ℕ) → List Operation → List Operation
first_ack operation (Undecided first) from operations = operations
first_ack operation (Decided reply None) from operations = at_stage (Decided reply (Some from)) operation operations
first_ack operation (Decided reply (Some first)) from operations = operations

abbrev pub first_ack_by : (from : ℕ) → Option Operation → List Operation → List Operation
first_ack_by from None operations = operations
first_ack_by from (Some operation) operations = first_ack operation operation.stage from operations

-- .. but where the reply goes out the operation is over
abbrev pub acked_with : (from : ℕ) → Operation → Option (List ℕ) → List Operation → List Operation
acked_with from operation None operations = first_ack operation operation.stage from operations
acked_with from operation (Some reply) operations = without_operation operation.number operations

abbrev pub acked_by : (from : ℕ) → Option Operation → List Operation → List Operation
acked_by from None operations = operations
acked_by from (Some operation) operations = acked_with from operation (reply_for operation.stage from) operations

-- the stage after an Ack that lets no reply out
abbrev pub acknowledged : (from : ℕ) → Stage → Stage
acknowledged from (Undecided first) = Undecided first
acknowledged from (Decided reply None) = Decided reply (Some from)
acknowledged from (Decided reply (Some first)) = Decided reply (Some first)

-- the reply of a decided operation
abbrev pub reply_in : Stage → Option (List ℕ)
reply_in (Undecided first) = None
reply_in (Decided reply first) = Some reply

-- ---- the decision

-- an operation that is put at a stage
abbrev pub staged : Stage → Option Operation → List Operation → List Operation
staged stage None operations = operations
staged stage (Some operation) operations = at_stage stage operation operations

-- ---- the deadline

-- an operation that is there, where its deadline has come
abbrev pub late : (now : ℕ) → Option Operation → Option Operation
late now None = None
late now (Some operation) = if nat_le (due_of operation) now then Some operation else None

-- without an operation, where there is one
abbrev pub without : Option Operation → List Operation → List Operation
without None operations = operations
without (Some operation) operations = without_operation operation.number operations

-- ---- where the replicas changed

-- the connections that wait for operations
abbrev pub connections_of : List Operation → List ℕ
connections_of operations = map (λ (o : Operation). o.connection) operations
