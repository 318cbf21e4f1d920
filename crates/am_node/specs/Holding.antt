-- What an instance begins with, once its store is open.
use Rattle.std.specs.Prelude.{◌≡◌, ℕ, false, List}
use Rattle.std.specs.List.{list_any}
use Rattle.am_tenant.specs.Names.{same}
use Rattle.am_node.specs.Held.{local_of}
use Rattle.am_node.specs.Local.{blank}
use Rattle.am_node.specs.Plans.{HoldsNoAlert, IsPlanned}
use Rattle.am_node.specs.declared.parts.Parts.{Parts}

-- no alert is held of any tenant, and nothing is had of any but these; what is planned goes by that
pub record BeginsWith (names : List (List ℕ)) (parts : Parts) : Type 0 where
  pub planned : (t : List ℕ) → IsPlanned (local_of t parts)
  pub alertless : (t : List ℕ) → HoldsNoAlert (local_of t parts)
  pub others : (t : List ℕ) → list_any (same t) names ≡ false → local_of t parts ≡ blank
