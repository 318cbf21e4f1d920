-- The allowances of tenants, as look-ups of a map.
use Rattle.std.proofs.Common.{◌≡◌, inl, inr, ℕ, Bool, true, false, cond, List, [], Some, None, refl, sym, ap, ◌∙◌}
use Rattle.std.specs.BTreeMap as tree
use Rattle.std.specs.Cmp.Lexicographic.{slice_cmp}
use Rattle.std.specs.Map.{lookup}
use Rattle.std.specs.Option.{unwrap_or}
use Rattle.std.specs.Ordering.{nat_cmp}
use Rattle.am_tenant.specs.Names.{same}
use Rattle.am_tenant.proofs.Same.{same_tells}
use Rattle.am_tenant.proofs.Tables.{lookup-by_name, lookup-updates}
use Rattle.am_limit.specs.Allowances.{allowance_of}
use Rattle.am_limit.specs.Limits.{Count, fresh}

-- a look-up found the tenant's
pub allowance_there : (t : List ℕ) (own : List (List ℕ × Count)) (count : Count) → Some count ≡ lookup (tree.is_at (slice_cmp nat_cmp t)) own → count ≡ allowance_of t own
unfolding allowance_of
allowance_there t own count found = ap (λ o. unwrap_or o (fresh 0)) (found ∙ lookup-by_name t own)

-- or none
pub allowance_none : (t : List ℕ) (own : List (List ℕ × Count)) → None ≡ lookup (tree.is_at (slice_cmp nat_cmp t)) own → fresh 0 ≡ allowance_of t own
unfolding allowance_of
allowance_none t own none = ap (λ o. unwrap_or o (fresh 0)) (none ∙ lookup-by_name t own)

-- a tenant's was changed
pub allowance_changed : (m n : tree.BTreeMap (List ℕ) Count) (tenant : List ℕ) (count : Count) → tree.Updates (slice_cmp nat_cmp) m n tenant (Some count) →
    (t : List ℕ) → allowance_of t n.entries ≡ cond (same t tenant) count (allowance_of t m.entries)
unfolding allowance_of
allowance_changed m n tenant count written t = ap (λ o. unwrap_or o (fresh 0)) (lookup-updates m n tenant (Some count) written t) ∙ by_case (same t tenant)
  where
    by_case : (b : Bool) → unwrap_or (cond b (Some count) (lookup (λ s. same t s) m.entries)) (fresh 0) ≡ cond b count (unwrap_or (lookup (λ s. same t s) m.entries) (fresh 0))
    by_case true = refl
    by_case false = refl

-- a tenant's is gone
pub allowance_gone : (m n : tree.BTreeMap (List ℕ) Count) (tenant : List ℕ) → tree.Updates (slice_cmp nat_cmp) m n tenant None →
    (t : List ℕ) → allowance_of t n.entries ≡ cond (same t tenant) (fresh 0) (allowance_of t m.entries)
unfolding allowance_of
allowance_gone m n tenant removed t = ap (λ o. unwrap_or o (fresh 0)) (lookup-updates m n tenant None removed t) ∙ by_case (same t tenant)
  where
    by_case : (b : Bool) → unwrap_or (cond b None (lookup (λ s. same t s) m.entries)) (fresh 0) ≡ cond b (fresh 0) (unwrap_or (lookup (λ s. same t s) m.entries) (fresh 0))
    by_case true = refl
    by_case false = refl

-- none is there
pub none_used : (t : List ℕ) (own : List (List ℕ × Count)) → own ≡ [] → allowance_of t own ≡ fresh 0
unfolding allowance_of
none_used t own none = ap (λ es. unwrap_or (lookup (λ s. same t s) es) (fresh 0)) none

-- .. by what was made of it
pub allowance_asked : (m n : tree.BTreeMap (List ℕ) Count) (tenant : List ℕ) (count : Count) (f : Count → Count) → tree.Updates (slice_cmp nat_cmp) m n tenant (Some count) →
    count ≡ f (allowance_of tenant m.entries) → (t : List ℕ) → allowance_of t n.entries ≡ cond (same t tenant) (f (allowance_of t m.entries)) (allowance_of t m.entries)
allowance_asked m n tenant count f written is t =
    allowance_changed m n tenant count written t ∙ elim (same_tells t tenant) [
      | inl own ↦ rw (own.0) (is ∙ ap (λ s. f (allowance_of s m.entries)) (sym own.1))
      | inr other ↦ rw (other.0) refl
    ]
