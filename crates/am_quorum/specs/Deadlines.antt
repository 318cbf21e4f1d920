-- The deadlines of open operations, and the timers that tell them.
use Rattle.std.specs.Prelude.{◌≡◌, ℕ, Bool, false, not, ◌==◌, List, filter, Option, None, option_map, if◌then◌else◌}
use Rattle.std.specs.Cmp.Lexicographic.{slice_cmp}
use Rattle.std.specs.List.{list_any}
use Rattle.std.specs.List.Sorted.{IsStrictlySortedBy}
use Rattle.std.specs.Map.{keys_of}
use Rattle.std.specs.Option.{option_map_or}
use Rattle.std.specs.Ordering.{nat_cmp}
use Rattle.am_timer.specs.Queue.{is_named}
use Rattle.am_timer.specs.Tied.{has_timer}
use Rattle.am_timer.specs.Timer.{Key, Name, Timer}
use Rattle.am_timer.specs.declared.key.TimerKey.TheVariants.{Operation as OperationKey, Group, Retry, Push}
use Rattle.am_quorum.specs.declared.operation.Operation.{Operation}
use Rattle.am_quorum.specs.Dockets.{Ops, operations_of}
use Rattle.am_quorum.specs.Operations.{due_of, operation_at}

-- the deadline of the operation of a number, where it is open
abbrev pub deadline_at : (number : ℕ) → List Operation → Option ℕ
deadline_at number operations = option_map due_of (operation_at number operations)

-- what names the timer of a deadline
abbrev pub deadline_name : (tenant : List ℕ) → (number : ℕ) → Name
deadline_name tenant number = record { tenant = tenant; key = OperationKey number }

-- the deadline that a key names
abbrev pub deadline_for : Key → List Operation → Option ℕ
deadline_for (OperationKey number) operations = deadline_at number operations
deadline_for (Group key) operations = None
deadline_for (Retry number) operations = None
deadline_for (Push instance) operations = None

-- the timer is the deadline of one of these operations
abbrev pub is_deadline_in : List Operation → Timer → Bool
is_deadline_in operations x = option_map_or (λ due. due == x.due) (deadline_for x.name.key operations) false

-- .. of a tenant's open operation
abbrev pub is_deadline : Ops → Timer → Bool
is_deadline ops x = is_deadline_in (operations_of x.name.tenant ops) x

-- the timers are exactly the deadlines of all tenants' open operations
abbrev pub AreTimed : Ops → List Timer → Type 0
AreTimed ops timers = (x : Timer) → has_timer timers x ≡ is_deadline ops x

-- .. and the dockets lie in order of their tenants
pub record IsTimed (ops : Ops) (timers : List Timer) : Type 0 where
  pub rising : IsStrictlySortedBy (slice_cmp nat_cmp) (keys_of ops.dockets)
  pub timed : AreTimed ops timers

-- ---- what changes them

-- all deadlines stay
abbrev pub KeepDeadlines : (old new : List Operation) → Type 0
KeepDeadlines old new = (n : ℕ) → deadline_at n new ≡ deadline_at n old

-- that of one number is gone, and those of all others stay
abbrev pub EndsDeadline : (number : ℕ) → (old new : List Operation) → Type 0
EndsDeadline number old new = (n : ℕ) → deadline_at n new ≡ (if n == number then None else deadline_at n old)

-- the timers but the deadlines of a tenant's operations
abbrev pub without_deadlines : (tenant : List ℕ) → List Operation → List Timer → List Timer
without_deadlines tenant operations timers =
    filter (λ x. not (list_any (λ (o : Operation). is_named (deadline_name tenant o.number) x) operations)) timers
