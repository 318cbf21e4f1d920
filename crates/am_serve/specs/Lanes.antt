-- Lanes: what waits of each tenant, how much is under way, and whose turn comes before whose.
use Rattle.std.specs.Prelude.{ℕ, Bool, true, ◌&&◌, ◌||◌, not, nat_lt, List, [], length, IsTrue, Option, Some, None}
use Rattle.std.specs.BTreeMap.{BTreeMap, values}
use Rattle.std.specs.Cmp.Lexicographic.{slice_cmp}
use Rattle.std.specs.List.{All}
use Rattle.std.specs.Map.{lookup}
use Rattle.std.specs.Ordering.{is_lt, nat_cmp}
use Rattle.am_tenant.specs.Names.{same}
use Rattle.am_serve.specs.declared.lanes.Lane.{Lane}

-- the first name stands before the second in the order of names
abbrev pub is_below : List ℕ → List ℕ → Bool
is_below a b = is_lt (slice_cmp nat_cmp a b)

-- a name stands after this one, if there is one
abbrev pub is_after : Option (List ℕ) → List ℕ → Bool
is_after None t = true
is_after (Some name) t = is_below name t

-- up the names from `last`, and from the greatest on to the least, t comes before u: last < t < u, or t < u ≤ last, or
-- u ≤ last < t. Without a `last` it is the order of names
unfoldable pub comes_before : Option (List ℕ) → List ℕ → List ℕ → Bool
comes_before None t u = is_below t u
comes_before (Some last) t u =
    (is_below last t && is_below t u) || (is_below t u && not (is_below last u)) || (not (is_below last u) && is_below last t)

module _ {T : Type 0} where
  -- something waits in a lane, and fewer are under way than there are places free
  abbrev pub can_begin : ℕ → Lane T → Bool
  can_begin free lane = nat_lt 0 (length lane.waiting.items) && nat_lt lane.under_way free

  -- something waits in a lane or is under way
  abbrev pub is_needed : Lane T → Bool
  is_needed lane = nat_lt 0 (length lane.waiting.items) || nat_lt 0 lane.under_way

  -- every lane is needed
  abbrev pub AreNeeded : BTreeMap (List ℕ) (Lane T) → Type 0
  AreNeeded lanes = All (λ lane. IsTrue (is_needed lane)) (values lanes)

  -- what waits in a lane, the first to go out at the front, if there is a lane
  abbrev pub waiting_in : Option (Lane T) → List T
  waiting_in None = []
  waiting_in (Some lane) = lane.waiting.items

  -- how many are under way
  abbrev pub under_way_in : Option (Lane T) → ℕ
  under_way_in None = 0
  under_way_in (Some lane) = lane.under_way

  -- what waits of a tenant
  unfoldable pub waiting_of : List ℕ → BTreeMap (List ℕ) (Lane T) → List T
  waiting_of t lanes = waiting_in (lookup (λ name. same t name) lanes.entries)

  -- how many of a tenant are under way
  unfoldable pub under_way_of : List ℕ → BTreeMap (List ℕ) (Lane T) → ℕ
  under_way_of t lanes = under_way_in (lookup (λ name. same t name) lanes.entries)

  -- a tenant may begin: something of it waits, and fewer are under way than there are places free
  unfoldable pub is_ready : ℕ → List ℕ → BTreeMap (List ℕ) (Lane T) → Bool
  is_ready free t lanes = nat_lt 0 (length (waiting_of t lanes)) && nat_lt (under_way_of t lanes) free
