-- The members of a group: label sets in order, each with the moment since which it is held.
use Rattle.std.specs.Prelude.{◌≡◌, ℕ, ◌==◌, ◌<◌, Bool, true, false, nat_le, List, [], ◌∷◌, Option, Some, None, IfSome, count_by, unwrap_or, if◌then◌else◌}
use Rattle.std.specs.List.Sorted.{IsStrictlySortedBy}
use Rattle.std.specs.Map.{keys_of, lookup, values_of}
use Rattle.am_labels.specs.declared.Label.{Label}
use Rattle.am_labels.specs.Labels.{labels_cmp}
use Rattle.am_members.specs.Names.{is_moment}

-- the lesser of a moment and one that there may be
abbrev pub least_with : ℕ → Option ℕ → Option ℕ
least_with s None = Some s
least_with s (Some r) = if nat_le s r then Some s else Some r

-- the least moment since which a member is held
abbrev pub least_of : List (List Label × ℕ) → Option ℕ
least_of [] = None
least_of (m ∷ ms) = least_with m.1 (least_of ms)

-- there are no members
abbrev pub is_bare : List (List Label × ℕ) → Bool
is_bare [] = true
is_bare (m ∷ ms) = false

-- a look-up gave this moment
abbrev pub gave : Option ℕ → ℕ → Bool
gave None s = false
gave (Some r) s = r == s

-- how many members are held since a moment
abbrev pub held_since : ℕ → List (List Label × ℕ) → ℕ
held_since m sinces = count_by (λ s. is_moment s m) (values_of sinces)

-- what is counted at a moment: 0 where no count is kept
abbrev pub count_at : ℕ → List (ℕ × ℕ) → ℕ
count_at m counts = unwrap_or (lookup (is_moment m) counts) 0

-- no count that is kept is 0
abbrev pub AreNonzero : List (ℕ × ℕ) → Type 0
AreNonzero counts = (m : ℕ) → IfSome (lookup (is_moment m) counts) (λ count. 0 < count)

-- the members are in order, at each moment as many are counted as are held since then, and no count is 0
pub record IsTied (sinces : List (List Label × ℕ)) (counts : List (ℕ × ℕ)) : Type 0 where
  pub rising : IsStrictlySortedBy labels_cmp (keys_of sinces)
  pub counted : (m : ℕ) → count_at m counts ≡ held_since m sinces
  pub nonzero : AreNonzero counts
