-- The positions of tenants, as look-ups of a map.
use Rattle.std.proofs.Common.{◌≡◌, ℕ, Bool, true, false, cond, List, [], Option, Some, None, refl, ap, ◌∙◌}
use Rattle.std.specs.BTreeMap as tree
use Rattle.std.specs.Cmp.Lexicographic.{slice_cmp}
use Rattle.std.specs.Map.{lookup}
use Rattle.std.specs.Option.{unwrap_or}
use Rattle.std.specs.Ordering.{nat_cmp}
use Rattle.am_tenant.specs.Names.{same}
use Rattle.am_tenant.proofs.Tables.{lookup-by_name, lookup-updates}
use Rattle.am_notifier.specs.Positions.{position_of}
use Rattle.am_notifier.specs.declared.position.Position.{Position}
use Rattle.am_notifier.specs.declared.position.Position.TheVariants.{First}

-- a look-up found the tenant's
pub position_there : (t : List ℕ) (own : List (List ℕ × Option Position)) (position : Option Position)
    → Some position ≡ lookup (tree.is_at (slice_cmp nat_cmp t)) own → position ≡ position_of t own
unfolding position_of
position_there t own position found = ap (λ o. unwrap_or o (Some First)) (found ∙ lookup-by_name t own)

-- or none
pub position_none : (t : List ℕ) (own : List (List ℕ × Option Position)) → None ≡ lookup (tree.is_at (slice_cmp nat_cmp t)) own
    → Some First ≡ position_of t own
unfolding position_of
position_none t own none = ap (λ o. unwrap_or o (Some First)) (none ∙ lookup-by_name t own)

-- a tenant's was set
pub position_set : (m n : tree.BTreeMap (List ℕ) (Option Position)) (tenant : List ℕ) (position : Option Position)
    → tree.Updates (slice_cmp nat_cmp) m n tenant (Some position) → (t : List ℕ) → position_of t n.entries ≡ cond (same t tenant) position (position_of t m.entries)
unfolding position_of
position_set m n tenant position written t =
    ap (λ o. unwrap_or o (Some First)) (lookup-updates m n tenant (Some position) written t) ∙ by_case (same t tenant)
  where
    by_case : (b : Bool) → unwrap_or (cond b (Some position) (lookup (λ s. same t s) m.entries)) (Some First)
        ≡ cond b position (unwrap_or (lookup (λ s. same t s) m.entries) (Some First))
    by_case true = refl
    by_case false = refl

-- a tenant's went
pub position_gone : (m n : tree.BTreeMap (List ℕ) (Option Position)) (tenant : List ℕ)
    → tree.Updates (slice_cmp nat_cmp) m n tenant None
    → (t : List ℕ) → position_of t n.entries ≡ cond (same t tenant) (Some First) (position_of t m.entries)
unfolding position_of
position_gone m n tenant gone t =
    ap (λ o. unwrap_or o (Some First)) (lookup-updates m n tenant None gone t) ∙ by_case (same t tenant)
  where
    by_case : (b : Bool) → unwrap_or (cond b None (lookup (λ s. same t s) m.entries)) (Some First)
        ≡ cond b (Some First) (unwrap_or (lookup (λ s. same t s) m.entries) (Some First))
    by_case true = refl
    by_case false = refl

-- none was set
pub none_set : (t : List ℕ) (own : List (List ℕ × Option Position)) → own ≡ [] → position_of t own ≡ Some First
unfolding position_of
none_set t own none = ap (λ es. unwrap_or (lookup (λ s. same t s) es) (Some First)) none
