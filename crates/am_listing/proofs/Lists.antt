-- Lists that are filtered, and numbers that stand once.
use Rattle.std.proofs.Common.{◌≡◌, ℕ, ◌==◌, List, [], ◌∷◌, ◌++◌, Bool, true, false, not, ◌&&◌, ◌||◌, filter, map, refl, ap, ◌∙◌, inl, inr}
use Rattle.std.specs.List.{list_any}
use Rattle.std.proofs.lemmas.Bool.{cases_Bool}
use Rattle.std.proofs.lemmas.Bool.Decides.{eqb_tells}
use Rattle.std.proofs.lemmas.List.Folds.{list_any-append}

-- one test after another is both
pub filter-filter : {X : Type 0} (f g h : X → Bool) → ((x : X) → h x ≡ (g x && f x)) → (xs : List X) → filter f (filter g xs) ≡ filter h xs
filter-filter f g h both [] = refl
filter-filter f g h both (x ∷ xs) =
    elim (cases_Bool (g x)) [
      | inl on ↦ elim (cases_Bool (f x)) [
        | inl kept ↦ rw (both x, on, kept) (ap (λ ys. x ∷ ys) (filter-filter f g h both xs))
        | inr left ↦ rw (both x, on, left) (filter-filter f g h both xs)
      ]
      | inr off ↦ rw (both x, off) (filter-filter f g h both xs)
    ]

-- a test of what a function makes
pub filter-map : {X Y : Type 0} (test : Y → Bool) (f : X → Y) (xs : List X) → filter test (map f xs) ≡ map f (filter (λ x. test (f x)) xs)
filter-map test f [] = refl
filter-map test f (x ∷ xs) =
    elim (cases_Bool (test (f x))) [
      | inl on ↦ rw on (ap (λ ys. f x ∷ ys) (filter-map test f xs))
      | inr off ↦ rw off (filter-map test f xs)
    ]

-- ---- numbers that stand once

-- those that don't stand among others
abbrev pub apart : List ℕ → List ℕ → List ℕ
apart done xs = filter (λ y. not (list_any (λ d. y == d) done)) xs

pub apart-none : (xs : List ℕ) → apart [] xs ≡ xs
apart-none [] = refl
apart-none (x ∷ xs) = ap (λ ys. x ∷ ys) (apart-none xs)

none_of : (done : List ℕ) (x y : ℕ) → list_any (λ d. x == d) done ≡ true → not (list_any (λ d. y == d) done) ≡ (not (y == x) && not (list_any (λ d. y == d) done))
none_of done x y there =
    elim (eqb_tells y x) [
      | inl same ↦ rw (same.0, same.1, there) refl
      | inr other ↦ rw other.0 refl
    ]

-- one that stands among them already
pub apart-seen : (done : List ℕ) (x : ℕ) (xs : List ℕ) → list_any (λ d. x == d) done ≡ true → apart done (x ∷ filter (λ y. not (y == x)) xs) ≡ apart done xs
apart-seen done x xs there =
    rw there (filter-filter (λ y. not (list_any (λ d. y == d) done)) (λ y. not (y == x)) (λ y. not (list_any (λ d. y == d) done)) (λ y. none_of done x y there) xs)

swapped : (a b : Bool) → not (a || (b || false)) ≡ (not b && not a)
swapped true true = refl
swapped true false = refl
swapped false true = refl
swapped false false = refl

-- a new one
pub apart-new : (done : List ℕ) (x : ℕ) (xs : List ℕ) → list_any (λ d. x == d) done ≡ false →
    apart done (x ∷ filter (λ y. not (y == x)) xs) ≡ x ∷ apart (done ++ x ∷ []) xs
apart-new done x xs none =
    rw none (ap (λ ys. x ∷ ys) (filter-filter (λ y. not (list_any (λ d. y == d) done)) (λ y. not (y == x)) (λ y. not (list_any (λ d. y == d) (done ++ x ∷ [])))
    (λ y. ap not (list_any-append (λ d. y == d) done (x ∷ [])) ∙ swapped (list_any (λ d. y == d) done) (y == x)) xs))
