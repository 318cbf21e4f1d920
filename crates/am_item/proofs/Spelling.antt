-- How many bytes spell entries: the sum of their parts, each in 64 bits.
use Rattle.std.proofs.Common.{◌≡◌, ℕ, ◌+◌, ◌*◌, ◌-◌, ◌^◌, ◌<◌, ◌≤◌, List, [], ◌∷◌, ◌++◌, length, refl, ap, ◌∙◌, sym, arith}
use Rattle.std.specs.List.{sum_by}
use Rattle.std.proofs.lemmas.List.Sums.{sum_by-append, sum_by-cons}
use Rattle.am_length.specs.Capped.{capped}
use Rattle.am_item.specs.Held.{items_by}
use Rattle.am_item.specs.Lengths.{spelled_length}
use Rattle.am_item.specs.declared.item.Item.{Item}

-- parts in 64 bits come to at most their number times the greatest
pub sum_fits : {X : Type 0} (f : X → ℕ) (xs : List X) → sum_by (λ x. capped (f x)) xs ≤ length xs * (2 ^ 64 - 1)
sum_fits f [] = omega arith
sum_fits f (x ∷ xs) = omega (arith, sum_fits f xs, sum_by-cons (λ y. capped (f y)) x xs)

-- one part more fits 128 bits, where 64 bits can count the others
pub more_fits : {X : Type 0} (f : X → ℕ) (xs : List X) (total more : ℕ) → length xs < 2 ^ 64 → total ≤ sum_by (λ x. capped (f x)) xs → more < 2 ^ 64 → total + more < 2 ^ 128
more_fits f xs total more few is small = omega (arith, sum_fits f xs)

-- the cap of a sum of capped parts is that of the sum
pub capped_sum : {X : Type 0} (f : X → ℕ) (xs : List X) → capped (sum_by (λ x. capped (f x)) xs) ≡ capped (sum_by f xs)
capped_sum f [] = refl
capped_sum f (x ∷ xs) = omega (arith, capped_sum f xs, sum_by-cons (λ y. capped (f y)) x xs, sum_by-cons f x xs)

-- the items of entries are as long as these
pub sum_by_items : {K V : Type 0} (item : K → V → Item) (size : K × V → ℕ) → ((k : K) (v : V) → size (k, v) ≡ spelled_length (item k v)) → (es : List (K × V))
    → sum_by size es ≡ sum_by spelled_length (items_by item es)
sum_by_items item size each [] = refl
sum_by_items item size each (e ∷ es) =
    sum_by-cons size e es ∙ ap (λ n. n + sum_by size es) (each e.0 e.1) ∙ ap (λ n. spelled_length (item e.0 e.1) + n) (sum_by_items item size each es)
    ∙ sym (sum_by-cons spelled_length (item e.0 e.1) (items_by item es))

-- four lists in a row, whose caps were added one after the other
pub four_sums : (cs ss zs es : List Item) (c s z e one two three : ℕ) → c ≡ capped (sum_by spelled_length cs) → s ≡ capped (sum_by spelled_length ss)
    → z ≡ capped (sum_by spelled_length zs) → e ≡ capped (sum_by spelled_length es) → one ≡ capped (c + s) → two ≡ capped (one + z) → three ≡ capped (two + e)
    → three ≡ capped (sum_by spelled_length (cs ++ (ss ++ (zs ++ es))))
four_sums cs ss zs es c s z e one two three hc hs hz he h1 h2 h3 =
    let first : one ≡ capped (sum_by spelled_length cs + sum_by spelled_length ss) = omega arith in
    let second : two ≡ capped (sum_by spelled_length cs + sum_by spelled_length ss + sum_by spelled_length zs) = omega arith in
    omega (arith, sum_by-append spelled_length cs (ss ++ (zs ++ es)), sum_by-append spelled_length ss (zs ++ es), sum_by-append spelled_length zs es)
