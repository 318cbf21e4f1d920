-- What is done to a table of calls.
use Rattle.std.specs.Prelude.{◌≡◌, ℕ, List, Option, Some, None, sum_by}
use Rattle.std.specs.declared.time.Instant.{Instant}
use Rattle.slab.specs.Slab.{Slab, get}
use Rattle.am_serve.specs.Acts.{Act}
use Rattle.am_serve.specs.Calls.{CallWorks, IsFirstCall}
use Rattle.am_serve.specs.Outgoings.{undelivered}
use Rattle.am_serve.specs.Tables.{Others}
use Rattle.am_serve.specs.declared.call.Call.{Call}
use Rattle.am_serve.specs.declared.call.CallStage.{CallStage}
use Rattle.am_serve.specs.declared.call.CallStage.TheVariants.{Asking, Awaiting}
use Rattle.am_serve.specs.declared.call.Step.{Step}
use Rattle.am_serve.specs.declared.call.Step.TheVariants.{More as StepMore, Waits as StepWaits, Ended as StepEnded}
use Rattle.am_serve.specs.declared.calls.Progress.{Progress}
use Rattle.am_serve.specs.declared.calls.Progress.TheVariants.{More, Waits, Ended}

-- how many bytes a request holds: all of it, until its last byte was sent
abbrev pub request_bytes : CallStage → ℕ
request_bytes (Asking request) = undelivered request
request_bytes (Awaiting _) = 0

module _ {S N : Type 0} where
  abbrev pub request_bytes_at : Option (Call S N) → ℕ
  request_bytes_at None = 0
  request_bytes_at (Some call) = request_bytes call.stage

  -- how many bytes the requests of all calls hold
  abbrev pub request_bytes_in : List (Option (Call S N)) → ℕ
  request_bytes_in slots = sum_by request_bytes_at slots

  -- a call that sent nothing yet came under the vacant key
  pub record AddsCall (old new : Slab (Call S N)) (key : ℕ) (socket : S) (request : List ℕ) (name : N) (now : Instant) : Type 0 where
    pub call : Call S N
    pub key_is_next : key ≡ old.vacant_key
    pub was_vacant : get old key ≡ None
    pub came : get new key ≡ Some call
    pub others : Others old new key
    pub first : IsFirstCall socket request name now call

-- what a call's turn came to, but for its name
abbrev pub step_of : {N : Type 0} → Progress N → Step
step_of More = StepMore
step_of Waits = StepWaits
step_of (Ended _ status) = StepEnded status

module _ {S N : Type 0} where
  -- a call of a table is kept as its turn left it, or was let go
  abbrev pub Leaves : Call S N → Call S N → Option (Call S N) → Progress N → Type 0
  Leaves call last slot More = slot ≡ Some last
  Leaves call last slot Waits = slot ≡ Some last
  Leaves call last slot (Ended name _) = (slot ≡ None) × (name ≡ call.name)

module _ {S N : Type 0} (does : S → Act → S → Type 0) where
  -- what a turn at a key does; it does nothing where no call has the key
  abbrev pub CallTurnAt : Slab (Call S N) → Slab (Call S N) → ℕ → Option (Call S N) → Option (Progress N) → Type 0
  CallTurnAt old new key None result = (result ≡ None) × (new ≡ old)
  CallTurnAt old new key (Some call) None = ⊥
  CallTurnAt old new key (Some call) (Some progress) = (last : Call S N) × CallWorks does 16 call last (step_of progress) × Leaves call last (get new key) progress
