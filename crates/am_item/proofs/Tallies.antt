-- The count of a tenant, as a look-up in the map of counts.
use Rattle.std.proofs.Common.{◌≡◌, ℕ, Bool, cond, List, [], ◌∷◌, Some, unwrap_or, refl, sym, ap, ◌∙◌}
use Rattle.std.specs.BTreeMap.{BTreeMap, get, is_at}
use Rattle.std.specs.Cmp.Lexicographic.{slice_cmp}
use Rattle.std.specs.Map.{lookup}
use Rattle.std.specs.Ordering.{nat_cmp}
use Rattle.std.proofs.lemmas.Bool.{cond-false, cond-true}
use Rattle.am_tenant.specs.Names.{same}
use Rattle.am_tenant.proofs.Same.{is_eq-name_cmp, same-sym}
use Rattle.am_item.specs.Counts.{count_of}
use Rattle.am_item.proofs.Greatest.{by_cases}

-- tests that agree at each key find the same
pub lookup_agree : {K X : Type 0} (p q : K → Bool) → ((k : K) → p k ≡ q k) → (es : List (K × X)) → lookup p es ≡ lookup q es
lookup_agree p q h [] = refl
lookup_agree p q h (e ∷ es) = ap (λ b. cond b (Some e.1) (lookup p es)) (h e.0) ∙ ap (cond (q e.0) (Some e.1)) (lookup_agree p q h es)

-- the count of a tenant is what the map has
pub count_of-get : (t : List ℕ) (m : BTreeMap (List ℕ) ℕ) → count_of t m.entries ≡ unwrap_or (get (slice_cmp nat_cmp) m t) 0
unfolding count_of
count_of-get t m = ap (λ o. unwrap_or o 0) (sym (lookup_agree (is_at (slice_cmp nat_cmp t)) (λ s. same t s) (is_eq-name_cmp t) m.entries))

-- the counts of all tenants after one was set
pub count_of-set : (m n : BTreeMap (List ℕ) ℕ) (tenant : List ℕ) (count : ℕ)
    → ((q : List ℕ) → get (slice_cmp nat_cmp) n q ≡ cond (is_at (slice_cmp nat_cmp tenant) q) (Some count) (get (slice_cmp nat_cmp) m q))
    → (t : List ℕ) → count_of t n.entries ≡ cond (same t tenant) count (count_of t m.entries)
count_of-set m n tenant count gets t =
    let test : is_at (slice_cmp nat_cmp tenant) t ≡ same t tenant = is_eq-name_cmp tenant t ∙ same-sym tenant t in
    count_of-get t n ∙ ap (λ o. unwrap_or o 0) (gets t)
    ∙ by_cases (same t tenant)
    (λ h. ap (λ o. unwrap_or o 0) (cond-true _ (Some count) (get (slice_cmp nat_cmp) m t) (test ∙ h)) ∙ sym (cond-true _ count (count_of t m.entries) h))
    (λ h. ap (λ o. unwrap_or o 0) (cond-false _ (Some count) (get (slice_cmp nat_cmp) m t) (test ∙ h)) ∙ sym (count_of-get t m) ∙ sym (cond-false _ count (count_of t m.entries) h))
