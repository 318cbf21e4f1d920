-- What is kept of tenants, as look-ups of a map.
use Rattle.std.proofs.Common.{◌≡◌, inl, inr, refl, ℕ, Bool, true, false, not, List, [], Option, None, Some, ap, sym, ◌∙◌, if◌then◌else◌}
use Rattle.std.proofs.lemmas.Cmp.{eq_by_cmp_equiv}
use Rattle.std.proofs.lemmas.Map.Entries.{lookup-filter-values, option_filter}
use Rattle.std.proofs.lemmas.Map.Keys.{IsDistinct-from_sorted}
use Rattle.std.specs.BTreeMap as tree
use Rattle.std.specs.Cmp.Lexicographic.{nat_list_cmp_total, slice_cmp}
use Rattle.std.specs.List.{filter}
use Rattle.std.specs.Map.{lookup}
use Rattle.std.specs.Ordering.{nat_cmp}
use Rattle.am_tenant.specs.Names.{same}
use Rattle.am_tenant.proofs.Same.{same_tells}
use Rattle.am_tenant.proofs.Tables.{lookup-by_name, lookup-updates}
use Rattle.am_log.specs.Throttling.{is_over, once_forgotten, recent_of}
use Rattle.am_log.specs.declared.throttle.Recent.{Recent}

-- a tenant's is what a look-up finds
pub recent_found : (t : List ℕ) (kept : List (List ℕ × Recent)) → lookup (tree.is_at (slice_cmp nat_cmp t)) kept ≡ recent_of t kept
unfolding recent_of
recent_found t kept = lookup-by_name t kept

-- none is there
pub none_kept : (t : List ℕ) (kept : List (List ℕ × Recent)) → kept ≡ [] → recent_of t kept ≡ None
unfolding recent_of
none_kept t kept none = ap (λ es. lookup (λ name. same t name) es) none

-- a tenant's becomes what was made of it
pub recent_changed : (m n : tree.BTreeMap (List ℕ) Recent) (tenant : List ℕ) (value : Recent) (f : Option Recent → Recent)
    → tree.Updates (slice_cmp nat_cmp) m n tenant (Some value) → value ≡ f (recent_of tenant m.entries)
    → (t : List ℕ) → recent_of t n.entries ≡ (if same t tenant then Some (f (recent_of t m.entries)) else recent_of t m.entries)
unfolding recent_of
recent_changed m n tenant value f written is t =
    lookup-updates m n tenant (Some value) written t ∙ elim (same_tells t tenant) [
      | inl own ↦ rw (own.0) (ap (λ (r : Recent). Some r) (is ∙ ap (λ s. f (lookup (λ name. same s name) m.entries)) (sym own.1)))
      | inr other ↦ rw (other.0) refl
    ]

-- a filter leaves what is not forgotten
left_is : (moment : ℕ) (kept : Option Recent) → option_filter (λ recent. not (is_over moment recent)) kept ≡ once_forgotten moment kept
left_is moment None = refl
left_is moment (Some recent) = by_case (is_over moment recent)
  where
    by_case : (b : Bool) → (if not b then Some recent else None) ≡ (if b then None else Some recent)
    by_case true = refl
    by_case false = refl

pub recent_left : (moment : ℕ) (m n : tree.BTreeMap (List ℕ) Recent) → tree.IsOrdered (slice_cmp nat_cmp) m
    → n.entries ≡ filter (λ e. not (is_over moment e.1)) m.entries
    → (t : List ℕ) → recent_of t n.entries ≡ once_forgotten moment (recent_of t m.entries)
unfolding recent_of
recent_left moment m n ordered left t =
    sym (lookup-by_name t n.entries)
    ∙ ap (λ es. lookup (tree.is_at (slice_cmp nat_cmp t)) es) left
    ∙ lookup-filter-values (eq_by_cmp_equiv nat_list_cmp_total) (λ recent. not (is_over moment recent)) t m.entries
    (IsDistinct-from_sorted (slice_cmp nat_cmp) _ ordered)
    ∙ ap (option_filter (λ recent. not (is_over moment recent))) (lookup-by_name t m.entries)
    ∙ left_is moment (lookup (λ name. same t name) m.entries)
