-- The incarnations of all instances where one of them is in its next one.
use Rattle.std.proofs.Common.{◌≡◌, ◌∙◌, ℕ, ◌+◌, ◌<◌, nat_eq, suc, zero, true, false, List, [], ◌∷◌, get_or, length}
use Rattle.std.proofs.Common.{map, set, Some, refl, sym, ap, arith}
use Rattle.std.proofs.lemmas.Bool.Decides.{nat_tests}
use Rattle.std.proofs.lemmas.List.{get_or-map}
use Rattle.am_cluster.specs.Roster.{last_incarnation}
use Rattle.am_ring.specs.Instances.{all_instances}
use Rattle.am_instance.specs.declared.instance.Instance.{Instance}
use Rattle.am_world.specs.Changing.{incarnations_with}
use Rattle.am_world.specs.Places.{AreNumbered, At, incarnations_of, instance_at}
use Rattle.am_world.proofs.InstancesLemmas.{eight, here_at}

-- ---- one written anew in its place

abbrev NumberedFrom : ℕ → List Instance → Type 0
NumberedFrom n [] = Unit {0}
NumberedFrom n (x ∷ xs) = (x.number ≡ n) × NumberedFrom (suc n) xs

abbrev CountsFrom : ℕ → List ℕ → Type 0
CountsFrom n [] = Unit {0}
CountsFrom n (m ∷ ms) = (m ≡ n) × CountsFrom (suc n) ms

numbered_by : (n : ℕ) (xs : List Instance) (ns : List ℕ) → map (λ (x : Instance). x.number) xs ≡ ns → CountsFrom n ns
    → NumberedFrom n xs
numbered_by n [] ns e counts = tt
numbered_by n (x ∷ xs) [] e counts = absurd cc
numbered_by n (x ∷ xs) (m ∷ ms) e (first, rest) =
    let head : x.number ≡ m = cc in
    let tail : map (λ (y : Instance). y.number) xs ≡ ms = cc in
    (head ∙ first, numbered_by (suc n) xs ms tail rest)

-- those behind are others
others_stay : (n i : ℕ) (xs : List Instance) → NumberedFrom n xs → i < n → incarnations_of xs ≡ incarnations_with i xs
others_stay n i [] counts less = refl
others_stay n i (x ∷ xs) (first, rest) less =
    let apart : nat_eq x.number i ≡ false = grind (arith, nat_tests) in
    rw apart (ap (λ ks. x.incarnation ∷ ks) (others_stay (suc n) i xs rest (omega (arith, less))))

written : (n p : ℕ) (xs : List Instance) → NumberedFrom n xs → p < length xs
    → set (incarnations_of xs) p (get_or (incarnations_of xs) p 0 + 1) ≡ incarnations_with (n + p) xs
written n p [] counts less = absurd (omega (arith, less))
written n zero (x ∷ xs) (first, rest) less =
    let same : nat_eq x.number (n + 0) ≡ true = grind (arith, nat_tests) in
    rw same (ap (λ ks. (x.incarnation + 1) ∷ ks) (others_stay (suc n) (n + 0) xs rest (omega arith)))
written n (suc p) (x ∷ xs) (first, rest) less =
    let apart : nat_eq x.number (n + suc p) ≡ false = grind (arith, nat_tests) in
    let next : n + suc p ≡ suc n + p = omega arith in
    rw apart (ap (λ ks. x.incarnation ∷ ks)
    (written (suc n) p xs rest (omega (arith, less)) ∙ ap (λ m. incarnations_with m xs) (sym next)))

pub at_next : (xs : List Instance) (p i : ℕ) (ns : List ℕ) → AreNumbered xs → p + 1 ≡ i → p < 8
    → ns ≡ incarnations_of xs → set ns p (get_or ns p 0 + 1) ≡ incarnations_with i xs
at_next xs p i ns numbered at less is =
    let size = eight xs numbered in
    let place : 1 + p ≡ i = omega (arith, at) in
    let counts : NumberedFrom 1 xs =
    numbered_by 1 xs all_instances numbered (refl, (refl, (refl, (refl, (refl, (refl, (refl, (refl, tt)))))))) in
    ap (λ ms. set ms p (get_or ms p 0 + 1)) is
    ∙ written 1 p xs counts (omega (arith, less, size))
    ∙ ap (λ n. incarnations_with n xs) place

-- it had not its last
read_at : (xs : List Instance) (p : ℕ) → p < length xs → (x : Instance) × (x ≡ get_or xs p x)
read_at [] p less = absurd (omega (arith, less))
read_at (x ∷ xs) zero less = (x, refl)
read_at (x ∷ xs) (suc p) less = read_at xs p (omega (arith, less))

pub next_below : (xs : List Instance) (p i : ℕ) (ns : List ℕ) → AreNumbered xs → p + 1 ≡ i → p < 8
    → ns ≡ incarnations_of xs → At i (λ x. x.incarnation < last_incarnation) xs → get_or ns p 0 < last_incarnation
next_below xs p i ns numbered at less is next =
    let size = eight xs numbered in
    let below : p < length xs = omega (arith, less, size) in
    let x = read_at xs p below in
    let there : instance_at i xs ≡ Some x.0 = here_at xs p i x.0 numbered at less x.1 in
    let own : x.0.incarnation < last_incarnation = next x.0 there in
    let same : get_or ns p 0 ≡ x.0.incarnation =
    ap (λ ms. get_or ms p 0) is ∙ get_or-map (λ (y : Instance). y.incarnation) xs p x.0 0 below
    ∙ ap (λ (y : Instance). y.incarnation) (sym x.1) in
    omega (arith, own, same)
