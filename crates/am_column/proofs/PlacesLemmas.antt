-- Places of values, one more.
use Rattle.std.proofs.Common.{◌≡◌, ◌∙◌, ℕ, zero, suc, ◌+◌, ◌<◌, Bool, true, false, List, All, [], ◌∷◌, ◌++◌, Bor, Option, Some, cond, filter, length, map, zip, get_or, take, refl, sym, ap, inl, inr, arith}
use Rattle.std.specs.BTreeMap.{BTreeMap, get_by}
use Rattle.std.specs.Cmp.Lexicographic.{bytes_decides, nat_list_eq_equiv, slice_cmp}
use Rattle.std.specs.Global.{Vec}
use Rattle.std.specs.Map.{update}
use Rattle.std.specs.Option.{option_map_or}
use Rattle.std.specs.Ordering.{nat_cmp}
use Rattle.std.specs.Str.{bytes_eq}
use Rattle.std.proofs.lemmas.Bool.{cases_Bool}
use Rattle.std.proofs.lemmas.List.Elements.{All-cons, All-head, All-nil, All-tail}
use Rattle.am_column.specs.Places.{AreLists, IsNoted, found_at, places_of}

-- ---- places of one value more

module _ (value : List ℕ) where
  abbrev has : ℕ × List ℕ → Bool
  has pair = bytes_eq value pair.1

  pub found-append : (pairs : List (ℕ × List ℕ)) (last : ℕ × List ℕ) →
      map (λ (p : ℕ × List ℕ). p.0) (filter has (pairs ++ last ∷ []))
      ≡ cond (has last) (map (λ (p : ℕ × List ℕ). p.0) (filter has pairs) ++ last.0 ∷ []) (map (λ (p : ℕ × List ℕ). p.0) (filter has pairs))
  found-append [] last = elim (cases_Bool (has last)) [ inl same ↦ rw same refl | inr apart ↦ rw apart refl ]
  found-append (pair ∷ pairs) last =
      let rest = found-append pairs last in
      elim (cases_Bool (has pair)) [
        | inl same ↦ rw (same, rest) (onto (has last) (map (λ (p : ℕ × List ℕ). p.0) (filter has pairs)))
        | inr apart ↦ rw (apart, rest) refl
      ]
    where
      onto : (b : Bool) (found : List ℕ) → pair.0 ∷ cond b (found ++ last.0 ∷ []) found ≡ cond b ((pair.0 ∷ found) ++ last.0 ∷ []) (pair.0 ∷ found)
      onto true found = refl
      onto false found = refl

-- a place more is noted
pub noted_put : (old new : BTreeMap (Bor (List ℕ)) (Vec ℕ)) (place : ℕ) (value : List ℕ) (v : Vec ℕ) → v.items ≡ found_at old value ++ place ∷ []
    → ((other : List ℕ) → get_by (λ key. slice_cmp nat_cmp other key.now) new
    ≡ update bytes_eq (λ before. get_by (λ key. slice_cmp nat_cmp before key.now) old) value (Some v) other)
    → IsNoted place value old new
noted_put old new place value v more updates other =
    let items : Option (Vec ℕ) → List ℕ = λ found. option_map_or (λ (list : Vec ℕ). list.items) found [] in
    let put : found_at new other ≡ items (cond (bytes_eq value other) (Some v) (get_by (λ key. slice_cmp nat_cmp other key.now) old)) = ap items (updates other) in
    let turned : bytes_eq other value ≡ bytes_eq value other = nat_list_eq_equiv.symm other value in
    elim (cases_Bool (bytes_eq value other)) [
      | inl same ↦ (
          let one : value ≡ other = (bytes_decides value other).0 same in
          let after : found_at new other ≡ v.items = put ∙ ap (λ b. items (cond b (Some v) (get_by (λ key. slice_cmp nat_cmp other key.now) old))) same in
          rw (turned, same) (after ∙ more ∙ ap (λ x. found_at old x ++ place ∷ []) one)
          )
      | inr apart ↦ (
          let after : found_at new other ≡ found_at old other = put ∙ ap (λ b. items (cond b (Some v) (get_by (λ key. slice_cmp nat_cmp other key.now) old))) apart in
          rw (turned, apart) after
          )
    ]

-- one pair more
zip_more : (places : List ℕ) (values : List (List ℕ)) (i place : ℕ) (value : List ℕ) → i < length places → i < length values → place ≡ get_or places i place →
    value ≡ get_or values i value → zip (take (i + 1) places) (take (i + 1) values) ≡ zip (take i places) (take i values) ++ (place, value) ∷ []
zip_more [] values i place value within inside at is = absurd (omega (arith, within))
zip_more (p ∷ places) [] i place value within inside at is = absurd (omega (arith, inside))
zip_more (p ∷ places) (v ∷ values) zero place value within inside at is = rw (at, is) refl
zip_more (p ∷ places) (v ∷ values) (suc i) place value within inside at is =
    let next : suc i + 1 ≡ suc (i + 1) = omega arith in
    ap (λ n. zip (take n (p ∷ places)) (take n (v ∷ values))) next
    ∙ ap (λ pairs. (p, v) ∷ pairs) (zip_more places values i place value (omega (arith, within)) (omega (arith, inside)) at is)

-- the lists of the first so many
pub lists_more : (places : List ℕ) (values : List (List ℕ)) (i place : ℕ) (value : List ℕ) (old new : BTreeMap (Bor (List ℕ)) (Vec ℕ)) →
    i < length places → i < length values → place ≡ get_or places i place → value ≡ get_or values i value →
    AreLists (take i places) (take i values) old → IsNoted place value old new → AreLists (take (i + 1) places) (take (i + 1) values) new
lists_more places values i place value old new within inside at is before noted other =
    noted other
    ∙ ap (λ found. cond (bytes_eq other value) (found ++ place ∷ []) found) (before other)
    ∙ sym (found-append other (zip (take i places) (take i values)) (place, value))
    ∙ ap (λ pairs. map (λ (p : ℕ × List ℕ). p.0) (filter (λ (p : ℕ × List ℕ). bytes_eq other p.1) pairs)) (sym (zip_more places values i place value within inside at is))

-- each of them is one of the places
pub found_within : (value : List ℕ) (places : List ℕ) (values : List (List ℕ)) (most : ℕ) → All (λ place. place < most) places →
    All (λ place. place < most) (places_of value places values)
found_within value [] values most fine = All-nil (λ place. place < most)
found_within value (p ∷ places) [] most fine = All-nil (λ place. place < most)
found_within value (p ∷ places) (v ∷ values) most fine =
    let rest = found_within value places values most (All-tail (λ place. place < most) p places fine) in
    elim (cases_Bool (bytes_eq value v)) [
      | inl same ↦ rw same (All-cons (λ place. place < most) p (places_of value places values) (All-head (λ place. place < most) p places fine) rest)
      | inr apart ↦ rw apart rest
    ]
