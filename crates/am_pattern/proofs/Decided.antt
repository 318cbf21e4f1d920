-- The tests of specs/, and what they tell.
use Rattle.std.proofs.Common.{◌≡◌, ℕ, List, [], ◌∷◌, Bool, true, ◌||◌, map, length, refl, sym, ap, ◌∙◌, nat_le, ⊎_elim, true≢false, arith}
use Rattle.std.specs.List.{list_any}
use Rattle.std.proofs.lemmas.Bool.{and_parts, and_from}
use Rattle.std.proofs.lemmas.Bool.Decides.{leb_tells}
use Rattle.am_pattern.specs.Taking.{IsPattern, is_pattern, is_read, anchored}

-- a test of the images is one of the elements
pub list_any-map : {X Y : Type 0} (p : Y → Bool) (f : X → Y) (xs : List X) → list_any p (map f xs) ≡ list_any (λ x. p (f x)) xs
list_any-map p f [] = refl
list_any-map p f (x ∷ xs) = ap (λ b. p (f x) || b) (list_any-map p f xs)

-- the test says what a pattern is
pub IsPattern-from_test : (p : List ℕ) → is_pattern p ≡ true → IsPattern p
IsPattern-from_test p e =
    let parts = and_parts (nat_le (length p) 256) _ e in
    let reads = and_parts (is_read p) (is_read (anchored p)) parts.1 in
    ⊎_elim (λ short. (short.1, reads.0, reads.1)) (λ long. absurd (true≢false (sym parts.0 ∙ long.0))) (leb_tells (length p) 256)

-- and the other way round
pub test-from_IsPattern : (p : List ℕ) → IsPattern p → is_pattern p ≡ true
test-from_IsPattern p pattern =
    let short : nat_le (length p) 256 ≡ true =
    ⊎_elim (λ h. h.0) (λ h. absurd (omega (arith, h.1, pattern.0))) (leb_tells (length p) 256) in
    and_from _ _ short (and_from (is_read p) (is_read (anchored p)) pattern.1 pattern.2)
