-- Which values are alike, one more.
use Rattle.std.proofs.Common.{◌≡◌, ◌∙◌, ℕ, ◌+◌, ◌<◌, List, All, [], ◌∷◌, ◌++◌, Option, None, Some, Bor, cond, length, map, take, get_or, sym, ap, subst, inl, inr, arith}
use Rattle.std.specs.BTreeMap.{BTreeMap, get_by}
use Rattle.std.specs.Cmp.Lexicographic.{bytes_decides, slice_cmp}
use Rattle.std.specs.Map.{update}
use Rattle.std.specs.Option.{ForSome, unwrap_or}
use Rattle.std.specs.Ordering.{nat_cmp}
use Rattle.std.specs.Str.{bytes_eq}
use Rattle.std.proofs.lemmas.Bool.{cases_Bool}
use Rattle.std.proofs.lemmas.List.{get_or-map, length-map, map-append, take_more}
use Rattle.std.proofs.lemmas.List.Elements.{All-append, All-cons, All-nil}

-- the value stands at this place
abbrev pub IsAt : List (List ℕ) → ℕ → List ℕ → Type 0
IsAt values place value = (place < length values) × (get_or values place [] ≡ value)

-- what the map has at a value is a place of it
abbrev pub AreFirsts : List (List ℕ) → BTreeMap (Bor (List ℕ)) ℕ → Type 0
AreFirsts values firsts = (value : List ℕ) → ForSome (get_by (λ key. slice_cmp nat_cmp value key.now) firsts) (λ place. IsAt values place value)

-- the places of the first so many
abbrev pub AreAlikeSoFar : List (List ℕ) → ℕ → List ℕ → Type 0
AreAlikeSoFar values count places =
    All (λ place. place < length values) places × (map (λ place. get_or values place []) places ≡ take count values)

-- one more is at its value
pub firsts_put : (values : List (List ℕ)) (old new : BTreeMap (Bor (List ℕ)) ℕ) (place : ℕ) (value : List ℕ) → AreFirsts values old → IsAt values place value
    → ((other : List ℕ) → get_by (λ key. slice_cmp nat_cmp other key.now) new
    ≡ update bytes_eq (λ before. get_by (λ key. slice_cmp nat_cmp before key.now) old) value (Some place) other)
    → AreFirsts values new
firsts_put values old new place value right at updates other found is =
    elim (cases_Bool (bytes_eq value other)) [
      | inl same ↦
          let both : Some place ≡ Some found = sym (updates other ∙ ap (λ b. cond b (Some place) (get_by (λ key. slice_cmp nat_cmp other key.now) old)) same) ∙ is in
          let there : place ≡ found = cc in
          subst (λ n. IsAt values n other) there (subst (IsAt values place) ((bytes_decides value other).0 same) at)
      | inr apart ↦
          right other found
          (sym (updates other ∙ ap (λ b. cond b (Some place) (get_by (λ key. slice_cmp nat_cmp other key.now) old)) apart) ∙ is)
    ]

-- the place that is found, or the value's own
pub place_at : (values : List (List ℕ)) (firsts : BTreeMap (Bor (List ℕ)) ℕ) (place : ℕ) (value : List ℕ) → AreFirsts values firsts → IsAt values place value
    → (found : Option ℕ) → found ≡ get_by (λ key. slice_cmp nat_cmp value key.now) firsts → IsAt values (unwrap_or found place) value
place_at values firsts place value right at None is = at
place_at values firsts place value right at (Some first) is = right value first (sym is)

module _ {A : Type 0} (view : A → List ℕ) (xs : List A) (i : ℕ) (x : A) (within : i < length xs) (is : x ≡ get_or xs i x) where
  here : get_or (map view xs) i [] ≡ view x
  here = get_or-map view xs i x [] within ∙ ap view (sym is)

  -- the next value has its place
  pub alike_put : (places : List ℕ) (place : ℕ) → AreAlikeSoFar (map view xs) i places → IsAt (map view xs) place (view x) →
      AreAlikeSoFar (map view xs) (i + 1) (places ++ place ∷ [])
  alike_put places place (fits, same) at =
      let P : ℕ → Type 0 = λ n. n < length (map view xs) in
      let value : ℕ → List ℕ = λ n. get_or (map view xs) n [] in (
        All-append P places (place ∷ []) fits (All-cons P place [] at.0 (All-nil P)),
        map-append value places (place ∷ [])
            ∙ ap (λ front. front ++ value place ∷ []) same
            ∙ ap (λ last. take i (map view xs) ++ last ∷ []) (at.1 ∙ sym here)
            ∙ sym (take_more (map view xs) i [] (omega (arith, length-map xs view, within))),
      )

  -- the value is at its own
  pub at_itself : IsAt (map view xs) i (view x)
  at_itself = (omega (arith, length-map xs view, within), here)
