-- The pairs of two lists of one length, with one more of each.
use Rattle.std.proofs.Common.{◌≡◌, ℕ, ◌+◌, ◌<◌, List, [], ◌∷◌, ◌++◌, get_or, length, take, zip, refl, sym, ap, ◌∙◌, arith}
use Rattle.std.proofs.lemmas.List.{length-take-le, take_more}

module _ {X Y : Type 0} where
  at_end : (xs : List X) (ys : List Y) (x : X) (y : Y) → length xs ≡ length ys → zip (xs ++ x ∷ []) (ys ++ y ∷ []) ≡ zip xs ys ++ (x, y) ∷ []
  at_end [] [] x y same = refl
  at_end [] (b ∷ ys) x y same = absurd (omega (arith, same))
  at_end (a ∷ xs) [] x y same = absurd (omega (arith, same))
  at_end (a ∷ xs) (b ∷ ys) x y same = ap (λ rest. (a, b) ∷ rest) (at_end xs ys x y (omega (arith, same)))

  pub one_more : (xs : List X) (ys : List Y) (n : ℕ) (x : X) (y : Y) → n < length xs → n < length ys → x ≡ get_or xs n x → y ≡ get_or ys n y →
      zip (take (n + 1) xs) (take (n + 1) ys) ≡ zip (take n xs) (take n ys) ++ (x, y) ∷ []
  one_more xs ys n x y within within' is is' =
      let one = length-take-le n xs (omega arith) in
      let other = length-take-le n ys (omega arith) in
      let left : take (n + 1) xs ≡ take n xs ++ x ∷ [] = take_more xs n x within ∙ ap (λ z. take n xs ++ z ∷ []) (sym is) in
      let right : take (n + 1) ys ≡ take n ys ++ y ∷ [] = take_more ys n y within' ∙ ap (λ z. take n ys ++ z ∷ []) (sym is') in
      rw (left, right) (at_end (take n xs) (take n ys) x y (omega (arith, one, other)))
