-- What a store keeps of what is held.
use Rattle.std.specs.Prelude.{◌≡◌, ℕ, Bool, true, List, [], ◌∷◌, Option, Some, None, Result, Ok, Err}
use Rattle.am_item.specs.Key.{Key}
use Rattle.am_item.specs.declared.fault.Fault.{Fault}
use Rattle.am_item.specs.declared.fault.Fault.TheVariants.{OutOfMemory, CountsExhausted, PatternNotBuilt, StoreRefused}
use Rattle.am_item.specs.declared.item.Item.{Item}
use Rattle.am_item.specs.declared.key.ThingKey.TheVariants as key
use Rattle.am_replica.specs.Holds.{holds_of}
use Rattle.am_replica.specs.declared.replica.Replica.{Replica}
use Rattle.am_rows.specs.Rows.{rows_of, stored_in}
use Rattle.am_rows.specs.declared.refusal.StoreRefusal.{StoreRefusal}
use Rattle.am_text.specs.declared.failure.Failure.{Failure}
use Rattle.am_text.specs.declared.failure.Failure.TheVariants as failure

-- the rows of each tenant are what is held of it, where that is stored
abbrev pub AreStored : Replica → List (List ℕ × Item) → Type 0
AreStored replica pairs = (t : List ℕ) → rows_of t pairs ≡ stored_in (holds_of t replica).held

-- the fault that a call ends in, where it does
abbrev pub fault_in : {X : Type 0} → Result X Fault → Option Fault
fault_in (Ok x) = None
fault_in (Err fault) = Some fault

-- the silence that a key names, with whose it is
abbrev pub silence_named : List ℕ → Key → List (List ℕ × List ℕ)
silence_named t key.Configuration = []
silence_named t (key.Silence id) = (t, id) ∷ []
silence_named t (key.Alert labels) = []
silence_named t (key.SentEntry entry) = []

-- why it stops where something is to be stored, or nothing: the store refused a call, or memory ran out
abbrev pub StopsStoring : Bool → Fault → Type 0
StopsStoring some OutOfMemory = Unit {0}
StopsStoring some CountsExhausted = ⊥
StopsStoring some PatternNotBuilt = ⊥
StopsStoring some StoreRefused = some ≡ true

-- what a call of the store that failed stops the instance for
abbrev pub fault_for : Failure StoreRefusal → Fault
fault_for failure.OutOfMemory = OutOfMemory
fault_for (failure.Refused refusal) = StoreRefused
