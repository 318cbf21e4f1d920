-- What a store keeps of what an instance has.
use Rattle.std.specs.Prelude.{◌≡◌, ◌⊎◌, ℕ, false, List, Option, Some}
use Rattle.am_item.specs.declared.fault.Fault.{Fault}
use Rattle.am_item.specs.declared.fault.Fault.TheVariants.{StoreRefused}
use Rattle.am_item.specs.declared.item.Item.{Item}
use Rattle.am_rows.specs.Refusing.{MayRefuse, Medium}
use Rattle.am_rows.specs.Rows.{Keeps, rows_of, stored_in}
use Rattle.am_node.specs.declared.parts.Parts.{Parts}
use Rattle.am_node.specs.Held.{local_of}
use Rattle.am_node.specs.Local.{Local}

-- the rows of each tenant are what it holds here, where that is stored
abbrev pub AreRowsOf : (List ℕ → Local) → List (List ℕ × Item) → Type 0
AreRowsOf locals pairs = (t : List ℕ) → rows_of t pairs ≡ stored_in (locals t).held

-- .. what an instance has of it
abbrev pub AreStored : Parts → List (List ℕ × Item) → Type 0
AreStored parts pairs = AreRowsOf (λ t. local_of t parts) pairs

-- .. and they are what they were before
pub record AreStillStored (parts : Parts) (before after : List (List ℕ × Item)) : Type 0 where
  pub keeps : Keeps before after
  pub stores : AreStored parts after

-- the rows are as they were, or as they are where the call goes well
abbrev pub LeavesRows : (before after : List ℕ → Local) → List (List ℕ × Item) → Type 0
LeavesRows before after pairs = AreRowsOf before pairs ⊎ AreRowsOf after pairs

-- what a call that ended in this fault, or in none, left of a store: its rows, unless a failure shut it; and where the
-- store refused, the cause: its medium failed, or no store takes what was put
pub record LeavesStore (before after : List ℕ → Local) (Rejected : Type 0) (fault : Option Fault) (old new : Medium)
    (pairs : List (List ℕ × Item)) : Type 0 where
  pub rows : new.is_shut ≡ false → LeavesRows before after pairs
  pub cause : fault ≡ Some StoreRefused → MayRefuse old new ⊎ Rejected
