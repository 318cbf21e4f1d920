-- Receivers of routes, once each.
use Rattle.std.proofs.Common.{◌≡◌, ℕ, suc, ◌+◌, ◌<◌, ◌==◌, nat_cmp, List, [], ◌∷◌, ◌++◌, Bool, true, false, not, cond, ◌||◌, None, Some, filter, length, drop, get_or, refl, sym, ap, ◌∙◌, inl, inr, arith, append_assoc}
use Rattle.std.specs.Cmp.{nat_cmp_is}
use Rattle.std.specs.List.{filter_map, list_any}
use Rattle.std.specs.Ordering.{is_eq}
use Rattle.std.specs.declared.cmp.Ordering.TheVariants.{Less, Equal, Greater}
use Rattle.std.proofs.Math.Seq.{drop-cons}
use Rattle.std.proofs.lemmas.Bool.Decides.{eqb_tells, leb_tells}
use Rattle.std.proofs.lemmas.List.Folds.{list_any-append}
use Rattle.am_config.specs.Configuration.{Configuration}
use Rattle.am_listing.specs.Receivers.{once, receiver_at}
use Rattle.am_listing.proofs.Lists.{apart, apart-new, apart-seen}

same_number : (p q : ℕ) → is_eq (nat_cmp p q) ≡ (q == p)
same_number p q =
    elim (eqb_tells q p) [
      | inl same ↦ rw (same.0, same.1, ← nat_cmp_is p p Equal refl)
      | inr other ↦ elim (leb_tells p q) [
        | inl below ↦ (let less : p < q = omega (arith, below.1, other.1) in rw (other.0, ← nat_cmp_is p q Less less))
        | inr above ↦ rw (other.0, ← nat_cmp_is p q Greater above.1)
      ]
    ]

-- what was seen, once one more was
pub seen_more : (done : List ℕ) (p q : ℕ) (old new : Bool) → old ≡ list_any (λ d. q == d) done → new ≡ cond (is_eq (nat_cmp p q)) true old →
    new ≡ list_any (λ d. q == d) (done ++ p ∷ [])
seen_more done p q old new before now =
    now ∙ ap (λ b. cond b true old) (same_number p q) ∙ ap (cond (q == p) true) before ∙ at_end (q == p) (list_any (λ d. q == d) done)
    ∙ sym (list_any-append (λ d. q == d) done (p ∷ []))
  where
    at_end : (a b : Bool) → cond a true b ≡ (b || (a || false))
    at_end true true = refl
    at_end true false = refl
    at_end false true = refl
    at_end false false = refl

-- and once one was seen again
pub seen_again : (done : List ℕ) (p q : ℕ) (old new : Bool) → list_any (λ d. p == d) done ≡ true → old ≡ list_any (λ d. q == d) done →
    new ≡ cond (is_eq (nat_cmp p q)) true old → new ≡ list_any (λ d. q == d) done
seen_again done p q old new there before now =
    elim (eqb_tells q p) [
      | inl same ↦ now ∙ ap (λ b. cond b true old) (same_number p q ∙ same.0) ∙ sym (rw same.1 there)
      | inr other ↦ now ∙ ap (λ b. cond b true old) (same_number p q ∙ other.0) ∙ before
    ]

module _ (c : Configuration) (routes : List ℕ) (i : ℕ) (route : ℕ) (whole : List ℕ) where
  -- the places that are left
  abbrev pub left_at : ℕ → List ℕ
  left_at n = once (filter_map (receiver_at c) (drop n routes))

  module _ (within : i < length routes) (is : route ≡ get_or routes i route) where
    next_route : drop i routes ≡ route ∷ drop (i + 1) routes
    next_route = let next : suc i ≡ i + 1 = omega arith in drop-cons routes i route within ∙ rw (← is, next)

    left_none : receiver_at c route ≡ None → left_at i ≡ left_at (i + 1)
    left_none none = ap (λ rest. once (filter_map (receiver_at c) rest)) next_route ∙ rw none refl

    left_some : (place : ℕ) → receiver_at c route ≡ Some place → left_at i ≡ place ∷ filter (λ y. not (y == place)) (left_at (i + 1))
    left_some place some = ap (λ rest. once (filter_map (receiver_at c) rest)) next_route ∙ rw some refl

    -- a route that has no receiver
    pub route_skipped : (done : List ℕ) → receiver_at c route ≡ None → done ++ apart done (left_at i) ≡ whole → done ++ apart done (left_at (i + 1)) ≡ whole
    route_skipped done none so_far = ap (λ rest. done ++ apart done rest) (sym (left_none none)) ∙ so_far

    -- one whose receiver was seen
    pub route_seen : (done : List ℕ) (place : ℕ) → receiver_at c route ≡ Some place → list_any (λ d. place == d) done ≡ true →
        done ++ apart done (left_at i) ≡ whole → done ++ apart done (left_at (i + 1)) ≡ whole
    route_seen done place some there so_far =
        ap (λ rest. done ++ rest) (sym (apart-seen done place (left_at (i + 1)) there)) ∙ ap (λ rest. done ++ apart done rest) (sym (left_some place some)) ∙ so_far

    -- one whose receiver is new
    pub route_new : (done now : List ℕ) (place : ℕ) → receiver_at c route ≡ Some place → list_any (λ d. place == d) done ≡ false → now ≡ done ++ place ∷ [] →
        done ++ apart done (left_at i) ≡ whole → now ++ apart now (left_at (i + 1)) ≡ whole
    route_new done now place some none is_now so_far =
        ap (λ ps. ps ++ apart ps (left_at (i + 1))) is_now ∙ append_assoc done (place ∷ []) (apart (done ++ place ∷ []) (left_at (i + 1)))
        ∙ ap (λ rest. done ++ rest) (sym (apart-new done place (left_at (i + 1)) none)) ∙ ap (λ rest. done ++ apart done rest) (sym (left_some place some)) ∙ so_far
