-- Two tests of the elements of a list, and keys that are apart.
use Rattle.std.proofs.Common.{◌≡◌, Bool, true, false, cond, ◌||◌, List, [], ◌∷◌, ◌++◌, filter, refl, sym, ap, ◌∙◌}
use Rattle.std.specs.List.{list_any}
use Rattle.std.specs.Ordering.{is_eq}
use Rattle.std.proofs.lemmas.Bool.{cond-false, cond-true, false≢true}
use Rattle.am_item.specs.Key.{key_cmp}
use Rattle.am_item.specs.declared.key.ThingKey.{ThingKey}
use Rattle.am_item.proofs.Greatest.{by_cases}
use Rattle.am_item.proofs.Keys.{key_itself, key_same}

-- a test that takes no more than another did before leaves what that one and itself leave
pub filter_both : {A : Type 0} (p q r : A → Bool) → ((x : A) → r x ≡ false → p x ≡ false) → ((x : A) → r x ≡ true → q x ≡ p x) → (xs : List A) → filter q (filter r xs) ≡ filter p xs
filter_both p q r out alike [] = refl
filter_both p q r out alike (x ∷ xs) =
    let rest = filter r xs in
    by_cases (r x)
    (λ e.
    ap (filter q) (cond-true _ (x ∷ rest) rest e)
    ∙ ap (λ b. cond b (x ∷ filter q rest) (filter q rest)) (alike x e)
    ∙ ap (λ ys. cond (p x) (x ∷ ys) ys) (filter_both p q r out alike xs))
    (λ e. ap (filter q) (cond-false _ (x ∷ rest) rest e) ∙ filter_both p q r out alike xs ∙ sym (cond-false _ (x ∷ filter p xs) (filter p xs) (out x e)))

-- what all pass leaves all
pub filter_all : {A : Type 0} (p : A → Bool) → ((x : A) → p x ≡ true) → (xs : List A) → filter p xs ≡ xs
filter_all p passes [] = refl
filter_all p passes (x ∷ xs) = cond-true _ (x ∷ filter p xs) (filter p xs) (passes x) ∙ ap (λ ys. x ∷ ys) (filter_all p passes xs)

-- one passes the test, where one did before or the last does
pub any_last : {A : Type 0} (p : A → Bool) (xs : List A) (x : A) → list_any p (xs ++ x ∷ []) ≡ (list_any p xs || p x)
any_last p [] x = or_none (p x)
  where
    or_none : (b : Bool) → (b || false) ≡ b
    or_none true = refl
    or_none false = refl
any_last p (y ∷ xs) x = ap (λ b. p y || b) (any_last p xs x) ∙ or_again (p y) (list_any p xs) (p x)
  where
    or_again : (a b c : Bool) → (a || (b || c)) ≡ ((a || b) || c)
    or_again true b c = refl
    or_again false b c = refl

-- a key is another than the second exactly if the second is another than it
pub apart_turned : (a b : ThingKey) → is_eq (key_cmp a b) ≡ false → is_eq (key_cmp b a) ≡ false
apart_turned a b h = by_cases (is_eq (key_cmp b a)) (λ e. absurd (false≢true (sym h ∙ ap (λ c. is_eq (key_cmp c b)) (sym (key_same b a e)) ∙ key_itself b))) (λ e. e)
