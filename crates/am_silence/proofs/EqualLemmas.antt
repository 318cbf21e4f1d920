-- Matchers that are equal.
use Rattle.std.proofs.Common.{◌≡◌, ℕ, List, [], ◌∷◌, refl, ap₂, ◌&&◌, ◌||◌}
use Rattle.std.specs.List.{list_any}
use lib.Pointwise.{pointwise}
use Rattle.am_match.specs.Matchers.{MatcherText}
use Rattle.am_match.specs.declared.matcher.Operator.{Operator}
use Rattle.am_match.specs.declared.matcher.Operator.TheVariants.{Equal, NotEqual, Match, NotMatch}
use Rattle.am_match.specs.contracts.matcher.MatcherPartialEq.TheImpl.{eq-value}
use Rattle.am_silence.specs.Changing.{same_matcher, same_matchers}

same_by : (o p : Operator) (n m v w : List ℕ) →
    (eq-value).it (record { operator = o; name = n; value = v }) (record { operator = p; name = m; value = w })
    ≡ same_matcher (record { operator = o; name = n; value = v }) (record { operator = p; name = m; value = w })
same_by Equal Equal n m v w = refl
same_by Equal NotEqual n m v w = refl
same_by Equal Match n m v w = refl
same_by Equal NotMatch n m v w = refl
same_by NotEqual Equal n m v w = refl
same_by NotEqual NotEqual n m v w = refl
same_by NotEqual Match n m v w = refl
same_by NotEqual NotMatch n m v w = refl
same_by Match Equal n m v w = refl
same_by Match NotEqual n m v w = refl
same_by Match Match n m v w = refl
same_by Match NotMatch n m v w = refl
same_by NotMatch Equal n m v w = refl
same_by NotMatch NotEqual n m v w = refl
same_by NotMatch Match n m v w = refl
same_by NotMatch NotMatch n m v w = refl

-- two are equal
pub same_one : (a b : MatcherText) → (eq-value).it a b ≡ same_matcher a b
same_one a b = same_by a.operator b.operator a.name b.name a.value b.value

pub same_all : (xs ys : List MatcherText) → pointwise (eq-value).it xs ys ≡ same_matchers xs ys
same_all [] [] = refl
same_all [] (y ∷ ys) = refl
same_all (x ∷ xs) [] = refl
same_all (x ∷ xs) (y ∷ ys) = ap₂ (λ p q. p && q) (same_one x y) (same_all xs ys)

-- one of them is equal
pub same_any : (xs : List MatcherText) (wanted : MatcherText) → list_any (λ m. (eq-value).it m wanted) xs ≡ list_any (λ m. same_matcher m wanted) xs
same_any [] wanted = refl
same_any (x ∷ xs) wanted = ap₂ (λ p q. p || q) (same_one x wanted) (same_any xs wanted)
