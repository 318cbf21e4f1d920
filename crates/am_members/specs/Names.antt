-- Names of groups, and what is listed under label sets, under moments and under names of groups.
use Rattle.std.specs.Prelude.{ℕ, Bool, not, List, filter}
use Rattle.std.specs.Ordering.{is_eq, nat_cmp, ordering_then}
use Rattle.std.specs.declared.cmp.Ordering.{Ordering}
use Rattle.am_labels.specs.declared.Label.{Label}
use Rattle.am_labels.specs.Labels.{labels_cmp}
use Rattle.am_members.specs.declared.group.Group.{Group}

-- groups in order: by route, then by labels
abbrev pub group_cmp : Group → Group → Ordering
group_cmp g h = ordering_then (nat_cmp g.route h.route) (labels_cmp g.labels h.labels)

-- two moments are the same
abbrev pub is_moment : ℕ → ℕ → Bool
is_moment m n = is_eq (nat_cmp m n)

-- two label sets are the same
abbrev pub is_set : List Label → List Label → Bool
is_set l k = is_eq (labels_cmp l k)

-- two groups are the same
abbrev pub is_group : Group → Group → Bool
is_group g h = is_eq (group_cmp g h)

-- what is listed under other label sets than this one
abbrev pub without : {X : Type 0} → List Label → List (List Label × X) → List (List Label × X)
without l entries = filter (λ e. not (is_set l e.0)) entries
