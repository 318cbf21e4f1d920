-- The limits of a tenant, as a look-up in the map of limits.
use Rattle.std.proofs.Common.{◌≡◌, ℕ, Bool, true, false, cond, List, [], ◌∷◌, Option, Some, None, unwrap_or, refl, sym, ap, ◌∙◌}
use Rattle.std.specs.BTreeMap.{BTreeMap, get, is_at}
use Rattle.std.specs.Cmp.Lexicographic.{slice_cmp}
use Rattle.std.specs.Map.{lookup}
use Rattle.std.specs.Ordering.{nat_cmp}
use Rattle.am_tenant.specs.Names.{same}
use Rattle.am_tenant.proofs.Same.{is_eq-name_cmp, same-sym}
use Rattle.am_limit.specs.Books.{Book, limits_of}
use Rattle.am_limit.specs.declared.limits.Limits.{Limits}

-- a look-up by the order of names is one by their bytes
by_name : (t : List ℕ) (es : List (List ℕ × Limits)) → lookup (is_at (slice_cmp nat_cmp t)) es ≡ lookup (λ s. same t s) es
by_name t [] = refl
by_name t (e ∷ es) = ap (λ b. cond b (Some e.1) (lookup (is_at (slice_cmp nat_cmp t)) es)) (is_eq-name_cmp t e.0) ∙ ap (cond (same t e.0) (Some e.1)) (by_name t es)

-- a book with these limits set
abbrev pub book_of : Limits → BTreeMap (List ℕ) Limits → Book
book_of usual m = record { usual = usual; own = m.entries }

-- the limits of a tenant are those that the map has
pub limits_of-get : (t : List ℕ) (usual : Limits) (m : BTreeMap (List ℕ) Limits)
    → limits_of t (book_of usual m) ≡ unwrap_or (get (slice_cmp nat_cmp) m t) usual
unfolding limits_of
limits_of-get t usual m = ap (λ o. unwrap_or o usual) (sym (by_name t m.entries))

-- what is found where one was set
found : (b : Bool) (limits usual : Limits) (o : Option Limits) → unwrap_or (cond b (Some limits) o) usual ≡ cond b limits (unwrap_or o usual)
found true limits usual o = refl
found false limits usual o = refl

-- the limits of all tenants once those of one were set
pub limits_of-set : (usual : Limits) (m n : BTreeMap (List ℕ) Limits) (tenant : List ℕ) (limits : Limits)
    → ((q : List ℕ) → get (slice_cmp nat_cmp) n q ≡ cond (is_at (slice_cmp nat_cmp tenant) q) (Some limits) (get (slice_cmp nat_cmp) m q))
    → (t : List ℕ) → limits_of t (book_of usual n) ≡ cond (same t tenant) limits (limits_of t (book_of usual m))
limits_of-set usual m n tenant limits gets t =
    limits_of-get t usual n ∙ ap (λ o. unwrap_or o usual) (gets t)
    ∙ found (is_at (slice_cmp nat_cmp tenant) t) limits usual (get (slice_cmp nat_cmp) m t)
    ∙ ap (λ b. cond b limits (unwrap_or (get (slice_cmp nat_cmp) m t) usual)) (is_eq-name_cmp tenant t ∙ same-sym tenant t)
    ∙ ap (cond (same t tenant) limits) (sym (limits_of-get t usual m))
