-- The paces of tenants, as look-ups of a map.
use Rattle.std.proofs.Common.{◌≡◌, ℕ, Bool, true, false, cond, List, [], Some, None, refl, ap, ◌∙◌}
use Rattle.std.specs.BTreeMap as tree
use Rattle.std.specs.Cmp.Lexicographic.{slice_cmp}
use Rattle.std.specs.Map.{lookup}
use Rattle.std.specs.Option.{unwrap_or}
use Rattle.std.specs.Ordering.{nat_cmp}
use Rattle.am_tenant.specs.Names.{same}
use Rattle.am_tenant.proofs.Tables.{lookup-by_name, lookup-updates}
use Rattle.am_planning.specs.declared.pace.Pace.{Pace}
use Rattle.am_planning.specs.Planning.{default_paces}
use Rattle.am_agenda.specs.Paces.{paces_of}

-- a look-up found the tenant's
pub paces_there : (t : List ℕ) (own : List (List ℕ × List Pace)) (paces : List Pace)
    → Some paces ≡ lookup (tree.is_at (slice_cmp nat_cmp t)) own → paces ≡ paces_of t own
unfolding paces_of
paces_there t own paces found = ap (λ o. unwrap_or o default_paces) (found ∙ lookup-by_name t own)

-- or none
pub paces_none : (t : List ℕ) (own : List (List ℕ × List Pace)) → None ≡ lookup (tree.is_at (slice_cmp nat_cmp t)) own
    → default_paces ≡ paces_of t own
unfolding paces_of
paces_none t own none = ap (λ o. unwrap_or o default_paces) (none ∙ lookup-by_name t own)

-- a tenant's were set
pub paces_set : (m n : tree.BTreeMap (List ℕ) (List Pace)) (tenant : List ℕ) (paces : List Pace)
    → tree.Updates (slice_cmp nat_cmp) m n tenant (Some paces) → (t : List ℕ) → paces_of t n.entries ≡ cond (same t tenant) paces (paces_of t m.entries)
unfolding paces_of
paces_set m n tenant paces written t =
    ap (λ o. unwrap_or o default_paces) (lookup-updates m n tenant (Some paces) written t) ∙ by_case (same t tenant)
  where
    by_case : (b : Bool) → unwrap_or (cond b (Some paces) (lookup (λ s. same t s) m.entries)) default_paces
        ≡ cond b paces (unwrap_or (lookup (λ s. same t s) m.entries) default_paces)
    by_case true = refl
    by_case false = refl

-- a tenant's went
pub paces_gone : (m n : tree.BTreeMap (List ℕ) (List Pace)) (tenant : List ℕ)
    → tree.Updates (slice_cmp nat_cmp) m n tenant None
    → (t : List ℕ) → paces_of t n.entries ≡ cond (same t tenant) default_paces (paces_of t m.entries)
unfolding paces_of
paces_gone m n tenant gone t =
    ap (λ o. unwrap_or o default_paces) (lookup-updates m n tenant None gone t) ∙ by_case (same t tenant)
  where
    by_case : (b : Bool) → unwrap_or (cond b None (lookup (λ s. same t s) m.entries)) default_paces
        ≡ cond b default_paces (unwrap_or (lookup (λ s. same t s) m.entries) default_paces)
    by_case true = refl
    by_case false = refl

-- none were set
pub none_set : (t : List ℕ) (own : List (List ℕ × List Pace)) → own ≡ [] → paces_of t own ≡ default_paces
unfolding paces_of
none_set t own none = ap (λ es. unwrap_or (lookup (λ s. same t s) es) default_paces) none
