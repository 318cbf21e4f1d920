-- The place of a tenant, as a look-up in the map of places.
use Rattle.std.proofs.Common.{◌≡◌, ℕ, Bool, true, false, cond, List, Some, Option, unwrap_or, refl, ap, ◌∙◌}
use Rattle.std.specs.BTreeMap.{BTreeMap, Updates, get}
use Rattle.std.specs.Cmp.Lexicographic.{slice_cmp}
use Rattle.std.specs.Map.{lookup}
use Rattle.std.specs.Ordering.{nat_cmp}
use Rattle.am_tenant.specs.Names.{same}
use Rattle.am_tenant.proofs.Tables.{lookup-by_name, lookup-updates}
use Rattle.am_words.specs.Places.{place_of}

pub place_of-get : (t : List ℕ) (m : BTreeMap (List ℕ) ℕ) → unwrap_or (get (slice_cmp nat_cmp) m t) 0 ≡ place_of t m.entries
unfolding place_of
place_of-get t m = ap (λ o. unwrap_or o 0) (lookup-by_name t m.entries)

-- a place that was set, or else the one before
set_or_before : (b : Bool) (place : ℕ) (before : Option ℕ) → unwrap_or (cond b (Some place) before) 0 ≡ cond b place (unwrap_or before 0)
set_or_before true place before = refl
set_or_before false place before = refl

pub place_of-set : (m n : BTreeMap (List ℕ) ℕ) (tenant : List ℕ) (place : ℕ) → Updates (slice_cmp nat_cmp) m n tenant (Some place)
    → (t : List ℕ) → place_of t n.entries ≡ cond (same t tenant) place (place_of t m.entries)
unfolding place_of
place_of-set m n tenant place updates t =
    ap (λ o. unwrap_or o 0) (lookup-updates m n tenant (Some place) updates t)
    ∙ set_or_before (same t tenant) place (lookup (λ name. same t name) m.entries)
