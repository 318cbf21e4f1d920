-- The operations of all tenants at an instance.
use Rattle.std.specs.Prelude.{◌≡◌, ℕ, ◌+◌, ◌^◌, ◌≤◌, nat_lt, List, [], ◌∷◌, ◌++◌, map, Option, Some, None}
use Rattle.std.specs.Prelude.{if◌then◌else◌}
use Rattle.std.specs.Cmp.Lexicographic.{slice_cmp}
use Rattle.std.specs.List.Sorted.{IsStrictlySortedBy}
use Rattle.std.specs.Map.{keys_of, lookup}
use Rattle.std.specs.Ordering.{nat_cmp}
use Rattle.am_tenant.specs.Names.{same}
use Rattle.am_quorum.specs.declared.operation.Answered.{Answered}
use Rattle.am_quorum.specs.declared.operation.Operation.{Operation}
use Rattle.am_quorum.specs.declared.operation.Stage.TheVariants.{Decided}
use Rattle.am_quorum.specs.declared.operation.Target.{Target}
use Rattle.am_quorum.specs.Operations.{acked_by, answered_by, late, operation_at, staged, target_in}
use Rattle.am_quorum.specs.Operations.{without, without_operation}

-- a tenant's open operations, in order of number, and how many it has had
pub record Docket : Type 0 where
  pub used : ℕ
  pub operations : List Operation

-- the docket of a tenant that has had no operation
abbrev pub no_docket : Docket
no_docket = record { used = 0; operations = [] }

-- the number that the next operation has, where not all are used
abbrev pub next_number : Docket → Option ℕ
next_number docket = if nat_lt docket.used (2 ^ 62) then Some (docket.used + 1) else None

-- each operation stands at its number
abbrev pub AreNumbered : List (ℕ × Operation) → Type 0
AreNumbered [] = Unit {0}
AreNumbered (e ∷ es) = (e.1.number ≡ e.0) × AreNumbered es

-- no operation has a number that wasn't used
abbrev pub AreUsed : ℕ → List (ℕ × Operation) → Type 0
AreUsed used [] = Unit {0}
AreUsed used (e ∷ es) = (e.0 ≤ used) × AreUsed used es

-- how the operations of a docket lie by their numbers
pub record IsKept (used : ℕ) (operations : List (ℕ × Operation)) : Type 0 where
  pub rising : IsStrictlySortedBy nat_cmp (keys_of operations)
  pub numbered : AreNumbered operations
  pub past : AreUsed used operations

-- the incarnation of the instance, and the dockets of the tenants that have had an operation
pub record Ops : Type 0 where
  pub incarnation : ℕ
  pub dockets : List (List ℕ × Docket)

abbrev pub found_docket : Option Docket → Docket
found_docket None = no_docket
found_docket (Some docket) = docket

-- the docket of a tenant
unfoldable pub docket_of : List ℕ → Ops → Docket
docket_of t ops = found_docket (lookup (λ s. same t s) ops.dockets)

-- the open operations of a tenant
abbrev pub operations_of : List ℕ → Ops → List Operation
operations_of t ops = (docket_of t ops).operations

-- the docket of this tenant changed so, and those of all others stay
abbrev pub Changes : List ℕ → (Docket → Docket) → Ops → Ops → Type 0
Changes tenant change old new =
    (t : List ℕ) → docket_of t new ≡ (if same t tenant then change (docket_of t old) else docket_of t old)

-- the dockets of all tenants stay
abbrev pub Stay : Ops → Ops → Type 0
Stay old new = (t : List ℕ) → docket_of t new ≡ docket_of t old

-- the operations with whose they are
abbrev pub pairs_in : List (List ℕ × Docket) → List (List ℕ × Operation)
pairs_in [] = []
pairs_in (e ∷ es) = map (λ o. (e.0, o)) e.1.operations ++ pairs_in es

-- those of an instance
abbrev pub pairs_of : Ops → List (List ℕ × Operation)
pairs_of ops = pairs_in ops.dockets

-- the dockets lie in order of their tenants
abbrev pub AreOrdered : Ops → Type 0
AreOrdered ops = IsStrictlySortedBy (slice_cmp nat_cmp) (keys_of ops.dockets)

-- a docket with one operation more
abbrev pub added : Operation → Docket → Docket
added operation docket = record { used = operation.number; operations = docket.operations ++ operation ∷ [] }

-- .. that has the next number
abbrev pub started : (ℕ → Operation) → Docket → Docket
started operation docket = added (operation (docket.used + 1)) docket

-- a docket with other operations
abbrev pub with_operations : (List Operation → List Operation) → Docket → Docket
with_operations change docket = record { used = docket.used; operations = change docket.operations }

-- once an answer of a replica came
abbrev pub answered_in : (incarnation : ℕ) → Target → Answered → Docket → Docket
answered_in incarnation target answer docket =
    with_operations (answered_by answer (target_in incarnation target docket.operations)) docket

-- once an Ack of a replica came
abbrev pub acknowledged_in : (incarnation : ℕ) → Target → (from : ℕ) → Docket → Docket
acknowledged_in incarnation target from docket =
    with_operations (acked_by from (target_in incarnation target docket.operations)) docket

-- once the reply of an operation waits for Acks
abbrev pub waiting_in : (reply : List ℕ) → (number : ℕ) → Docket → Docket
waiting_in reply number docket =
    with_operations (staged (Decided reply None) (operation_at number docket.operations)) docket

-- without the operation of a number
abbrev pub closed_in : (number : ℕ) → Docket → Docket
closed_in number docket = with_operations (without_operation number) docket

-- .. where its deadline has come
abbrev pub expired_in : (number now : ℕ) → Docket → Docket
expired_in number now docket = with_operations (without (late now (operation_at number docket.operations))) docket

-- without any
abbrev pub emptied : Docket → Docket
emptied docket = with_operations (λ operations. []) docket
