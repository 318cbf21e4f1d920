-- Where a name stands in a list of names, and what a set of texts keeps of such a list.
use Rattle.std.proofs.Common.{◌≡◌, ℕ, ◌+◌, ◌<◌, suc, Bool, true, false, cond, not, ◌||◌, ltb, eqb, List, [], ◌∷◌, ◌++◌, map, length, position, None, Some, refl, ap, ◌∙◌, arith, length-append, if◌then◌else◌}
use Rattle.std.specs.List.{position_or_len, list_any}
use Rattle.std.specs.Str.{bytes_eq}
use Rattle.std.proofs.lemmas.Bool.Decides.{nat_tests}
use Rattle.std.proofs.lemmas.List.{length-map, map-append}
use Rattle.std.proofs.lemmas.List.Folds.{position_or_len_push}
use Rattle.std.proofs.lemmas.Slice.Eq.{bytes_eq-Decides}
use Rattle.am_report.specs.Names.{place_of, with_name}

module _ {X Y : Type 0} (p : Y → Bool) (f : X → Y) where
  -- tests of the images are tests of the elements
  pub position_or_len-map : (xs : List X) → position_or_len p (map f xs) ≡ position_or_len (λ x. p (f x)) xs
  position_or_len-map [] = refl
  position_or_len-map (x ∷ xs) = ap (λ n. cond (not (p (f x))) (1 + n) 0) (position_or_len-map xs)

  pub list_any-map : (xs : List X) → list_any p (map f xs) ≡ list_any (λ x. p (f x)) xs
  list_any-map [] = refl
  list_any-map (x ∷ xs) = ap (λ b. p (f x) || b) (list_any-map xs)

  pub position-map : (xs : List X) → position p (map f xs) ≡ position (λ x. p (f x)) xs
  position-map xs = simp (position_or_len-map, length-map)

module _ {X : Type 0} (p : X → Bool) where
  -- where no element passes, the first place that passes is the length
  pub position_or_len-none : (xs : List X) → list_any p xs ≡ false → position_or_len p xs ≡ length xs
  position_or_len-none [] h = refl
  position_or_len-none (x ∷ xs) h =
      elim (p x) as (λ b. (b || list_any p xs) ≡ false → cond (not b) (1 + position_or_len p xs) 0 ≡ suc (length xs)) [
        | true ↦ λ e. absurd (cc)
        | false ↦ λ e. omega (arith, position_or_len-none xs e)
      ] h

  -- where one does, it is below the length
  pub position_or_len-some : (xs : List X) → list_any p xs ≡ true → position_or_len p xs < length xs
  position_or_len-some [] h = absurd (cc)
  position_or_len-some (x ∷ xs) h =
      elim (p x) as (λ b. (b || list_any p xs) ≡ true → cond (not b) (1 + position_or_len p xs) 0 < suc (length xs)) [
        | true ↦ λ e. omega arith
        | false ↦ λ e. omega (arith, position_or_len-some xs e)
      ] h

  -- the place that passes first, where it is below the length
  pub position-at : (xs : List X) (n : ℕ) → position_or_len p xs ≡ n → n < length xs → position p xs ≡ Some n
  position-at xs n e below =
      let found : ltb (position_or_len p xs) (length xs) ≡ true = grind (arith, nat_tests) in
      ap (λ b. cond b (Some (position_or_len p xs)) None) found ∙ ap Some e

  position-past : (xs : List X) → position_or_len p xs ≡ length xs → position p xs ≡ None
  position-past xs e =
      let lost : ltb (position_or_len p xs) (length xs) ≡ false = grind (arith, nat_tests) in
      ap (λ b. cond b (Some (position_or_len p xs)) None) lost

  -- where a place passes, an element does
  list_any-position : (xs : List X) (i : ℕ) → position p xs ≡ Some i → list_any p xs ≡ true
  list_any-position xs i h = by (list_any p xs) refl
    where
      by : (b : Bool) → list_any p xs ≡ b → b ≡ true
      by true e = refl
      by false e = let past : position p xs ≡ None = position-past xs (position_or_len-none xs e) in absurd (cc)

-- one more element that passes, where none did
pushed : (at len place : ℕ) (passes : Bool) → place ≡ cond (eqb at len) (len + cond passes 0 1) at → at ≡ len → passes ≡ true → place ≡ at
pushed at len place passes e past own = grind (arith, nat_tests)

-- a name that stands in the list adds nothing
pub with_name-there : (name : List ℕ) (names : List (List ℕ)) (i : ℕ) → place_of name names ≡ Some i → with_name name names ≡ names
with_name-there name names i h = rw (list_any-position (bytes_eq name) names i h) refl

-- a name stands where it stood, or last
pub place_of-with_name : (name : List ℕ) (names : List (List ℕ)) → place_of name (with_name name names) ≡ Some (position_or_len (bytes_eq name) names)
place_of-with_name name names = by (list_any (bytes_eq name) names) refl
  where
    by : (b : Bool) → list_any (bytes_eq name) names ≡ b → place_of name (if b then names else names ++ name ∷ []) ≡ Some (position_or_len (bytes_eq name) names)
    by true e = position-at (bytes_eq name) names _ refl (position_or_len-some (bytes_eq name) names e)
    by false e =
        let past : position_or_len (bytes_eq name) names ≡ length names = position_or_len-none (bytes_eq name) names e in
        let own : bytes_eq name name ≡ true = (bytes_eq-Decides name name).1 refl in
        let last = pushed _ _ _ _ (position_or_len_push (bytes_eq name) names name) past own in
        position-at (bytes_eq name) (names ++ name ∷ []) _ last (omega (arith, length-append {A = List ℕ}, past))

-- the names of a set of keys after one more
pub with_name-keys : {X : Type 0} (f : X → List ℕ) (keys : List X) (k : X) →
    map f (if list_any (λ x. bytes_eq (f k) (f x)) keys then keys else keys ++ k ∷ []) ≡ with_name (f k) (map f keys)
with_name-keys f keys k = rw (list_any-map (bytes_eq (f k)) f keys) (by (list_any (λ x. bytes_eq (f k) (f x)) keys))
  where
    by : (b : Bool) → map f (if b then keys else keys ++ k ∷ []) ≡ (if b then map f keys else map f keys ++ f k ∷ [])
    by true = refl
    by false = map-append f keys (k ∷ [])
