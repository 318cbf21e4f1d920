-- Parts of what is held: their items by places, and how many bytes spell them.
use Rattle.std.proofs.Common.{◌≡◌, ℕ, ◌+◌, ◌<◌, ◌≤◌, List, [], ◌∷◌, ◌++◌, length, get_or, ap, arith}
use Rattle.std.specs.List.{HoldsAt, slice_range, sum_by}
use Rattle.std.proofs.lemmas.List.{get_or_default}
use Rattle.std.proofs.lemmas.List.Edits.{between_more}
use Rattle.std.proofs.lemmas.List.Sums.{sum_by-append, sum_by-cons}
use Rattle.am_length.specs.Capped.{capped}
use Rattle.am_item.specs.Lengths.{spelled_length}
use Rattle.am_item.specs.declared.item.Item.{Item}

-- an item stands at each place
pub there_is : (xs : List Item) (i : ℕ) → i < length xs → (x : Item) × (x ≡ get_or xs i x)
there_is [] i low = absurd (omega arith)
there_is (x ∷ xs) i low = (get_or (x ∷ xs) i x, get_or_default (x ∷ xs) i x (get_or (x ∷ xs) i x) low)

sum_more : (xs ys : List Item) (x : Item) (total size next : ℕ) → ys ≡ xs ++ x ∷ [] → size ≡ capped (spelled_length x)
    → total ≡ capped (sum_by spelled_length xs) → next ≡ capped (total + size) → next ≡ capped (sum_by spelled_length ys)
sum_more xs ys x total size next more of so is =
    omega (arith, ap (λ (zs : List Item). sum_by spelled_length zs) more, sum_by-append spelled_length xs (x ∷ []), sum_by-cons spelled_length x [])

-- one item more of a part
pub part_spelled : (xs : List Item) (from i total size next : ℕ) → from ≤ i → i < length xs → HoldsAt (λ (item : Item). size ≡ capped (spelled_length item)) xs i
    → total ≡ capped (sum_by spelled_length (slice_range xs from i)) → next ≡ capped (total + size)
    → next ≡ capped (sum_by spelled_length (slice_range xs from (i + 1)))
part_spelled xs from i total size next le low at so is =
    let x = (there_is xs i low).0 in
    sum_more (slice_range xs from i) (slice_range xs from (i + 1)) (get_or xs i x) total size next (between_more xs from i x le low) (at x) so is
