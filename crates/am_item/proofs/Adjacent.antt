-- Label sets that rise: each is greater than the one before it.
use Rattle.std.proofs.Common.{◌≡◌, ℕ, zero, suc, ◌+◌, ◌<◌, true, false, List, [], ◌∷◌, length, get_or, refl, ap, ◌∙◌, add-one, arith}
use Rattle.std.specs.List.{AllAdjacentBelow, AllByRecursion}
use Rattle.std.specs.List.Sorted.{IsStrictlySortedBy}
use Rattle.std.specs.Ordering.{is_lt}
use Rattle.std.specs.declared.cmp.Ordering.{Ordering}
use Rattle.std.specs.declared.cmp.Ordering.TheVariants.{Less, Equal, Greater}
use Rattle.std.proofs.lemmas.Bool.{false≢true, true≢false}
use Rattle.am_labels.specs.declared.Label.{Label}
use Rattle.am_labels.specs.Labels.{labels_cmp, labels_total}

-- what the test `<` tells
less : (o : Ordering) → true ≡ is_lt o → o ≡ Less
less Less h = refl
less Equal h = absurd (true≢false h)
less Greater h = absurd (true≢false h)

-- what is below the first is below all
below_all : (x y : List Label) (zs : List (List Label)) → labels_cmp x y ≡ Less → AllByRecursion (λ z. labels_cmp y z ≡ Less) zs → AllByRecursion (λ z. labels_cmp x z ≡ Less) zs
below_all x y [] h all = tt
below_all x y (z ∷ zs) h all = (labels_total.trans x y z h all.0, below_all x y zs h all.1)

-- where each is greater than the one before it, they rise
rising : (xs : List (List Label)) → ((k : ℕ) (d : List Label) → suc k < length xs → true ≡ is_lt (labels_cmp (get_or xs k d) (get_or xs (suc k) d))) → IsStrictlySortedBy labels_cmp xs
unfolding IsStrictlySortedBy
rising [] h = tt
rising (x ∷ []) h = (tt, tt)
rising (x ∷ y ∷ zs) h =
    let rest : IsStrictlySortedBy labels_cmp (y ∷ zs) = rising (y ∷ zs) (λ k d l. h (suc k) d (omega arith)) in
    let first : labels_cmp x y ≡ Less = less (labels_cmp x y) (h zero [] (omega arith)) in
    ((first, below_all x y zs first rest.0), rest)

pub rising_from_adjacent : (xs : List (List Label)) → AllAdjacentBelow (λ x y. true ≡ is_lt (labels_cmp x y)) xs (length xs) → IsStrictlySortedBy labels_cmp xs
rising_from_adjacent xs h = rising xs (λ k d l. rw add-one at (h k d (omega arith)))

-- where they rise, each is greater than the one before it
adjacent : (xs : List (List Label)) → IsStrictlySortedBy labels_cmp xs → (k : ℕ) (d : List Label) → suc k < length xs → is_lt (labels_cmp (get_or xs k d) (get_or xs (suc k) d)) ≡ true
unfolding IsStrictlySortedBy
adjacent [] up k d h = absurd (omega arith)
adjacent (x ∷ []) up k d h = absurd (omega arith)
adjacent (x ∷ y ∷ zs) up zero d h = ap is_lt up.0.0
adjacent (x ∷ y ∷ zs) up (suc k) d h = adjacent (y ∷ zs) up.1 k d (omega arith)

-- so lists of which one isn't greater don't rise
pub not_rising : (xs : List (List Label)) (k : ℕ) → k + 1 < length xs → ((d : List Label) → false ≡ is_lt (labels_cmp (get_or xs k d) (get_or xs (k + 1) d))) → IsStrictlySortedBy labels_cmp xs → ⊥
not_rising xs k within h up = false≢true ((rw add-one at (h [])) ∙ adjacent xs up k [] (omega arith))
