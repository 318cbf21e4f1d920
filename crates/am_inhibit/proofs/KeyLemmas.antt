-- Keys: their order, and the classes that they make.
use Rattle.std.proofs.Common.{◌≡◌, ◌∙◌, ℕ, true, List, [], ◌∷◌, Bor, Ordering, ap, inl, inr, map, refl, sym}
use Rattle.std.specs.Cmp.Lexicographic.{bytes_decides, slice_cmp}
use Rattle.std.specs.Ordering.{is_eq, nat_cmp, ordering_then}
use Rattle.std.specs.Str.{bytes_eq}
use Rattle.std.specs.declared.cmp.Ordering.TheVariants.{Less, Equal, Greater}
use Rattle.std.proofs.lemmas.Bool.{cases_Bool, true≢false}
use Rattle.std.proofs.lemmas.Map.Lookups.{CmpEqualImpliesEq, exact_bytes}
use Rattle.am_labels.specs.declared.Label.{Label}
use Rattle.am_labels.specs.Sets.{value_of}
use Rattle.am_inhibit.specs.Alike.{are_alike, key_of, keys_cmp}

-- borrowed texts compare as the texts
pub borrowed_cmp : (xs ys : List (Bor (List ℕ))) →
    slice_cmp (λ x y. slice_cmp nat_cmp x.now y.now) xs ys ≡ keys_cmp (map (λ value. value.now) xs) (map (λ value. value.now) ys)
borrowed_cmp [] [] = refl
borrowed_cmp [] (y ∷ ys) = refl
borrowed_cmp (x ∷ xs) [] = refl
borrowed_cmp (x ∷ xs) (y ∷ ys) = ap (ordering_then (slice_cmp nat_cmp x.now y.now)) (borrowed_cmp xs ys)

-- two comparisons, one after the other, are `Equal` only where both are
then_equal : (a b : Ordering) → ordering_then a b ≡ Equal → (a ≡ Equal) × (b ≡ Equal)
then_equal Less b h = absurd (true≢false (sym (ap is_eq h)))
then_equal Equal b h = (refl, h)
then_equal Greater b h = absurd (true≢false (sym (ap is_eq h)))

-- keys compare `Equal` only where they are equal
pub keys_exact : CmpEqualImpliesEq keys_cmp
keys_exact [] [] h = refl
keys_exact [] (y ∷ ys) h = absurd (true≢false (sym (ap is_eq h)))
keys_exact (x ∷ xs) [] h = absurd (true≢false (sym (ap is_eq h)))
keys_exact (x ∷ xs) (y ∷ ys) h =
    let both = then_equal (slice_cmp nat_cmp x y) (keys_cmp xs ys) h in
    ap (λ a. a ∷ xs) (exact_bytes x y both.0) ∙ ap (λ l. y ∷ l) (keys_exact xs ys both.1)

-- label sets that are alike have equal keys
pub keys_same : (names : List (List ℕ)) (one other : List Label) → are_alike names one other ≡ true → key_of names one ≡ key_of names other
keys_same [] one other h = refl
keys_same (name ∷ names) one other h =
    elim (cases_Bool (bytes_eq (value_of name one) (value_of name other))) [
      | inl same ↦
          ap (λ value. value ∷ key_of names one) ((bytes_decides (value_of name one) (value_of name other)).0 same)
          ∙ ap (λ rest. value_of name other ∷ rest) (keys_same names one other (rw same at h))
      | inr apart ↦ absurd (true≢false (sym (rw apart at h)))
    ]

-- and those with equal keys are alike
pub same_keys : (names : List (List ℕ)) (one other : List Label) → key_of names one ≡ key_of names other → are_alike names one other ≡ true
same_keys [] one other h = refl
same_keys (name ∷ names) one other h =
    let first : value_of name one ≡ value_of name other = cc in
    let rest : key_of names one ≡ key_of names other = cc in
    rw ((bytes_decides (value_of name one) (value_of name other)).1 first) (same_keys names one other rest)
