-- The incarnations of instances, written one by one.
use Rattle.std.proofs.Common.{◌≡◌, ◌∙◌, ◌+◌, ◌<◌, ◌++◌, ◌∷◌, ℕ, List, [], ap, arith, get_or, length, set, sym, take}
use Rattle.std.proofs.lemmas.List.{get_or-map, length-map, length-set, take_more, take_more_set}
use Rattle.am_instance.specs.declared.instance.Instance.{Instance}
use Rattle.am_world.specs.Places.{incarnations_of}

pub next_written : (xs : List Instance) (ns : List ℕ) (p : ℕ) (x : Instance) → p < length xs → length xs ≡ 8
    → length ns ≡ 8 → take p ns ≡ take p (incarnations_of xs) → x ≡ get_or xs p x
    → (length (set ns p x.incarnation) ≡ 8)
    × (take (p + 1) (set ns p x.incarnation) ≡ take (p + 1) (incarnations_of xs))
next_written xs ns p x less all size so_far found =
    let f = λ (y : Instance). y.incarnation in
    let here : x.incarnation ≡ get_or (incarnations_of xs) p 0 = ap f found ∙ sym (get_or-map f xs p x 0 less) in
    let low : p < length ns = omega arith in
    let many = length-map xs f in
    let low' : p < length (incarnations_of xs) = omega arith in (
      length-set ns p x.incarnation ∙ size,
      take_more_set ns p x.incarnation low
          ∙ ap (λ ms. ms ++ x.incarnation ∷ []) so_far
          ∙ ap (λ m. take p (incarnations_of xs) ++ m ∷ []) here
          ∙ sym (take_more (incarnations_of xs) p 0 low'),
    )
