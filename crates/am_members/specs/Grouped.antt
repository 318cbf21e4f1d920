-- The groups of the alerts of a tenant, and of all tenants.
use Rattle.std.specs.Prelude.{◌≡◌, ℕ, Bool, false, true, not, ◌&&◌, List, [], ◌∷◌, map, filter, Option, Some, None}
use Rattle.std.specs.BTreeMap.{BTreeMap, insert_entry}
use Rattle.std.specs.BTreeSet.{BTreeSet, contains}
use Rattle.std.specs.Cmp.Lexicographic.{slice_cmp}
use Rattle.std.specs.List.{list_any}
use Rattle.std.specs.List.Sorted.{IsStrictlySortedBy}
use Rattle.std.specs.Map.{keys_of, lookup}
use Rattle.std.specs.Option.{IfSome, unwrap_or}
use Rattle.std.specs.Ordering.{nat_cmp}
use Rattle.am_tenant.specs.Names.{same}
use Rattle.am_labels.specs.declared.Label.{Label}
use Rattle.am_labels.specs.Labels.{labels_cmp}
use Rattle.am_members.specs.declared.group.Group.{Group}
use Rattle.am_members.specs.declared.known.Known.{Known}
use Rattle.am_members.specs.Members.{is_bare}
use Rattle.am_members.specs.Names.{group_cmp, is_group, without}

-- what is grouped of a tenant: its alerts by label set, and by group the moment of the last flush
pub record Grouped : Type 0 where
  pub alerts : List (List Label × Known)
  pub flushes : List (Group × ℕ)

abbrev pub nothing : Grouped
nothing = record { alerts = []; flushes = [] }

-- the alert is in the group
abbrev pub in_group : Group → Known → Bool
in_group g known = list_any (is_group g) known.groups

-- the members of a group: the alerts that are in it, in order of their label sets
abbrev pub members : Group → List (List Label × Known) → List (List Label × ℕ)
members g alerts = map (λ a. (a.0, a.1.since)) (filter (λ a. in_group g a.1) alerts)

-- the alerts, with one at a label set in the place of any that stood there
abbrev pub put_in : List Label → Known → List (List Label × Known) → List (List Label × Known)
put_in l known alerts = insert_entry labels_cmp (without l alerts) l known

-- the alerts, with several put one after the other
abbrev pub put_all : List (List Label × Known) → List (List Label × Known) → List (List Label × Known)
put_all [] alerts = alerts
put_all (p ∷ puts) alerts = put_all puts (put_in p.0 p.1 alerts)

-- the last flush of a group
abbrev pub flush_of : Group → List (Group × ℕ) → Option ℕ
flush_of g flushes = lookup (is_group g) flushes

-- the group had members and has none
abbrev pub lost : Group → (old new : List (List Label × Known)) → Bool
lost g old new = not (is_bare (members g old)) && is_bare (members g new)

-- the flushes, with a group's at this moment in the place of any that it had
abbrev pub flushed_at : Group → ℕ → Grouped → List (Group × ℕ)
flushed_at g moment x = insert_entry group_cmp x.flushes g moment

-- the flushes that stay as an alert goes: not those of groups that lose their last member by it
abbrev pub kept_after : List Label → Grouped → List (Group × ℕ)
kept_after l x = filter (λ e. not (lost e.0 x.alerts (without l x.alerts))) x.flushes

-- the flushes of groups that have members
abbrev pub living : Grouped → List (Group × ℕ)
living x = filter (λ e. not (is_bare (members e.0 x.alerts))) x.flushes

-- what is listed of a group, where the list may lack it
abbrev pub listed : Option (List (List Label × ℕ)) → List (List Label × ℕ)
listed None = []
listed (Some ms) = ms

-- the alerts in a map, where there is one
abbrev pub in_map : Option (BTreeMap (List Label) Known) → List (List Label × Known)
in_map None = []
in_map (Some alerts) = alerts.entries

-- the members that an index has of a group
abbrev pub held_at : Group → List (Group × List (List Label × ℕ)) → List (List Label × ℕ)
held_at g groups = listed (lookup (is_group g) groups)

-- each group that is listed has members, but perhaps this one
abbrev pub AreFullBut : Group → List (Group × List (List Label × ℕ)) → Type 0
AreFullBut g groups = (q : Group) → is_group q g ≡ false → IfSome (lookup (is_group q) groups) (λ ms. is_bare ms ≡ false)

-- each group that is listed has members
abbrev pub AreFull : List (Group × List (List Label × ℕ)) → Type 0
AreFull groups = (q : Group) → IfSome (lookup (is_group q) groups) (λ ms. is_bare ms ≡ false)

-- an index has of each group exactly its members
pub record AreGrouped (alerts : List (List Label × Known)) (groups : List (Group × List (List Label × ℕ))) : Type 0 where
  pub rising : IsStrictlySortedBy labels_cmp (keys_of alerts)
  pub held : (g : Group) → held_at g groups ≡ members g alerts

-- the same, and lists no group without members; where nothing is left to sweep, such a group has no flush
pub record IsIndex (alerts : List (List Label × Known)) (groups : List (Group × List (List Label × ℕ))) (flushes : List (Group × ℕ)) (unswept : Bool) : Type 0 where
  pub grouped : AreGrouped alerts groups
  pub full : AreFull groups
  pub swept : unswept ≡ false → (g : Group) → is_bare (members g alerts) ≡ true → flush_of g flushes ≡ None

-- what is grouped of a tenant
unfoldable pub grouped_of : List ℕ → List (List ℕ × Grouped) → Grouped
grouped_of t pairs = unwrap_or (lookup (λ s. same t s) pairs) nothing

-- a tenant is among these
abbrev pub has_tenant : BTreeSet (List ℕ) → List ℕ → Bool
has_tenant tenants t = contains (slice_cmp nat_cmp) tenants t

-- of all tenants but these, only groups that have members have flushes
pub record AreSweptBut (unswept : BTreeSet (List ℕ)) (pairs : List (List ℕ × Grouped)) : Type 0 where
  pub swept : (t : List ℕ) → has_tenant unswept t ≡ false → living (grouped_of t pairs) ≡ (grouped_of t pairs).flushes
