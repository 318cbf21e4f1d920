-- All but the first element of which something is so.
use Rattle.std.proofs.Common.{◌≡◌, ◌∙◌, ℕ, suc, zero, ◌+◌, ◌<◌, ◌≤◌, Bool, true, false, List, [], ◌∷◌, ◌++◌, length, take, drop}
use Rattle.std.proofs.Common.{get_or, drop-cons, add-one, length-drop, refl, sym, ap, arith, append-nil, append_assoc}
use Rattle.std.proofs.Common.{if◌then◌else◌, IsSome, OnSome, Option, None, Some}
use Rattle.std.proofs.lemmas.List.{nil_from_length, take_all}
use Rattle.am_report.specs.Mail.{without_first}

-- what an option that is there gives
pub on_some : {A : Type 0} {P : Type 0} (o : Option A) → IsSome o → OnSome o P → P
on_some (Some x) is gives = gives
on_some None is gives = let clash : false ≡ true = is in absurd (cc)

take_next : {X : Type 0} (xs : List X) (k : ℕ) (x : X) → k < length xs → x ≡ get_or xs k x →
    take (suc k) xs ≡ take k xs ++ x ∷ []
take_next [] k x below at = let none : k < 0 = below in absurd (omega (arith, none))
take_next (y ∷ ys) zero x below at = ap (λ z. z ∷ []) (sym at)
take_next (y ∷ ys) (suc k) x below at =
    let shorter : k < length ys = omega (arith, below) in
    ap (λ zs. y ∷ zs) (take_next ys k x shorter at)

module _ {X : Type 0} (is : X → Bool) where
  -- up to a place it is so of none
  abbrev pub NoneBefore : ℕ → List X → Type 0
  NoneBefore k xs = without_first is xs ≡ take k xs ++ without_first is (drop k xs)

  pub none_before : (xs : List X) → NoneBefore 0 xs
  none_before xs = refl

  cut : (k : ℕ) (xs : List X) (x : X) → k < length xs → x ≡ get_or xs k x → drop k xs ≡ x ∷ drop (k + 1) xs
  cut k xs x below at = rw add-one (drop-cons xs k x below ∙ ap (λ z. z ∷ drop (suc k) xs) (sym at))

  found : (k : ℕ) (xs : List X) (x : X) (b : Bool) → k < length xs → x ≡ get_or xs k x → is x ≡ b → NoneBefore k xs →
      without_first is xs
      ≡ take k xs ++ (if b then drop (k + 1) xs else x ∷ without_first is (drop (k + 1) xs))
  found k xs x b below at so before =
      before ∙ ap (λ ys. take k xs ++ without_first is ys) (cut k xs x below at)
      ∙ ap (λ c. take k xs ++ (if c then drop (k + 1) xs else x ∷ without_first is (drop (k + 1) xs))) so

  pub none_more : (k : ℕ) (xs : List X) (x : X) → k < length xs → x ≡ get_or xs k x → is x ≡ false → NoneBefore k xs →
      NoneBefore (k + 1) xs
  none_more k xs x below at isnt before =
      let longer : take (k + 1) xs ≡ take k xs ++ x ∷ [] = rw add-one (take_next xs k x below at) in
      found k xs x false below at isnt before
      ∙ sym (append_assoc (take k xs) (x ∷ []) (without_first is (drop (k + 1) xs)))
      ∙ ap (λ ys. ys ++ without_first is (drop (k + 1) xs)) (sym longer)

  pub first_gone : (k : ℕ) (xs : List X) (x : X) → k < length xs → x ≡ get_or xs k x → is x ≡ true → NoneBefore k xs →
      without_first is xs ≡ take k xs ++ drop (k + 1) xs
  first_gone k xs x below at so before = found k xs x true below at so before

  pub none_at_all : (k : ℕ) (xs : List X) → length xs ≤ k → NoneBefore k xs → without_first is xs ≡ xs
  none_at_all k xs over before =
      let none : drop k xs ≡ [] = nil_from_length _ (omega (arith, over, length-drop k xs)) in
      before ∙ ap (λ ys. take k xs ++ without_first is ys) none ∙ append-nil (take k xs) ∙ take_all k xs over
