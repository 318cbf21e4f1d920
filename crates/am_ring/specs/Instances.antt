-- The numbers of instances, and rings of them.
use Rattle.std.specs.Prelude.{◌≡◌, ℕ, ◌-◌, ◌≤◌, Bool, true, false, ◌&&◌, not, nat_le, ◌==◌, List, [], ◌∷◌, length, filter, map, slice_index_or}
use Rattle.std.specs.List.{list_all, list_any}

-- all instances, in order of number
abbrev pub all_instances : List ℕ
all_instances = 1 ∷ 2 ∷ 3 ∷ 4 ∷ 5 ∷ 6 ∷ 7 ∷ 8 ∷ []

-- the number of an instance
abbrev pub is_instance : ℕ → Bool
is_instance i = nat_le 1 i && nat_le i 8

-- the instance is one of these
abbrev pub is_among : ℕ → List ℕ → Bool
is_among i others = list_any (λ j. i == j) others

-- these instances in order of number
unfoldable pub in_order : List ℕ → List ℕ
in_order instances = filter (λ i. is_among i instances) all_instances

-- no number stands in the list twice
abbrev pub all_differ : List ℕ → Bool
all_differ [] = true
all_differ (i ∷ others) = not (is_among i others) && all_differ others

-- these numbers can be a ring: 3 to 8 different instances
abbrev pub may_be_ring : List ℕ → Bool
may_be_ring numbers =
    nat_le 3 (length numbers) && nat_le (length numbers) 8 && list_all is_instance numbers && all_differ numbers

-- a ring as clauses see it: its instances, in order of number
pub record Members : Type 0 where
  pub instances : List ℕ

-- the instances at whose places a flag stands
unfoldable pub flagged : List Bool → List ℕ
flagged flags = filter (λ i. slice_index_or flags (i - 1) false) all_instances

-- and for each instance whether it is one of these
unfoldable pub flags_of : List ℕ → List Bool
flags_of instances = map (λ i. is_among i instances) all_instances

-- a flag for each instance, and three stand at least
pub record IsRing (flags : List Bool) : Type 0 where
  pub each : flags ≡ flags_of (flagged flags)
  pub enough : 3 ≤ length (flagged flags)
