-- Lists of what is put out.
use Rattle.std.proofs.Common.{◌≡◌, List, [], ◌∷◌, ◌++◌, map, refl, ap, ◌∙◌, Result, Ok, Err, is_ok, OnOk, if◌then◌else◌}

-- what was made of a list in two steps
pub map_twice : {A B C : Type 0} (f : A → B) (g : B → C) (xs : List A) → map (λ x. g (f x)) xs ≡ map g (map f xs)
map_twice f g [] = refl
map_twice f g (x ∷ xs) = ap (λ ys. g (f x) ∷ ys) (map_twice f g xs)

-- a list that was put behind another one
pub put_behind : {A X E : Type 0} (result : Result X E) (new old more said : List A) → more ≡ said → new ≡ (if is_ok result then old ++ more else old)
    → OnOk result (new ≡ old ++ said)
put_behind (Ok _) new old more said same items = items ∙ ap (λ l. old ++ l) same
put_behind (Err _) new old more said same items = tt
