-- What is made of a list with one more.
use Rattle.std.proofs.Common.{◌≡◌, List, [], ◌∷◌, ◌++◌, Option, Some, None, map, sym, ap, ◌∙◌}
use Rattle.std.specs.List.{cons_option, filter_map}
use Rattle.std.proofs.lemmas.List.{append-nil, map-append}
use Rattle.std.proofs.lemmas.List.Elements.{filter_map-append}

module _ {X Y Z : Type 0} (f : Y → Option Z) (d : X → Y) (xs : List X) (x : X) where
  parts : filter_map f (map d (xs ++ x ∷ [])) ≡ filter_map f (map d xs) ++ cons_option (f (d x)) []
  parts = ap (filter_map f) (map-append d xs (x ∷ [])) ∙ filter_map-append f (map d xs) (d x ∷ [])

  -- where something is made of it
  pub one_more : (z : Z) → f (d x) ≡ Some z → filter_map f (map d xs) ++ z ∷ [] ≡ filter_map f (map d (xs ++ x ∷ []))
  one_more z made = ap (λ o. filter_map f (map d xs) ++ cons_option o []) (sym made) ∙ sym parts

  -- and where nothing is
  pub no_more : f (d x) ≡ None → filter_map f (map d xs) ≡ filter_map f (map d (xs ++ x ∷ []))
  no_more none = sym (append-nil (filter_map f (map d xs))) ∙ ap (λ o. filter_map f (map d xs) ++ cons_option o []) (sym none) ∙ sym parts
