-- The instances of a ring, in order of number.
use Rattle.std.proofs.Common.{◌≡◌, ℕ, ◌-◌, ◌≤◌, Bool, true, false, ◌&&◌, cond, List, [], ◌∷◌, length, filter, get_or}
use Rattle.std.proofs.Common.{Some, None, if◌then◌else◌, refl, subst, arith}
use Rattle.std.specs.Prelude.{nat_le}
use Rattle.std.specs.List.{list_all}
use Rattle.std.proofs.lemmas.Bool.{and_from, and_parts, le-leb}
use Rattle.am_ring.specs.Instances.{IsRing, Members, all_differ, all_instances, flagged, flags_of, in_order}
use Rattle.am_ring.specs.Instances.{is_instance, may_be_ring}
use Rattle.am_ring.proofs.Flags.{flagged-flags_of, made_ring, members_again, members_differ}

no_longer : (p : ℕ → Bool) (xs : List ℕ) → length (filter p xs) ≤ length xs
no_longer p [] = omega arith
no_longer p (x ∷ xs) = at_head (p x) (no_longer p xs)
  where
    at_head : (b : Bool) → length (filter p xs) ≤ length xs
        → length (cond b (x ∷ filter p xs) (filter p xs)) ≤ length (x ∷ xs)
    at_head true le = omega (arith, le)
    at_head false le = omega (arith, le)

all_still : (p q : ℕ → Bool) (xs : List ℕ) → list_all q xs ≡ true → list_all q (filter p xs) ≡ true
all_still p q [] all = refl
all_still p q (x ∷ xs) all =
    let parts = and_parts (q x) (list_all q xs) all in
    at_head (p x) parts.0 (all_still p q xs parts.1)
  where
    at_head : (b : Bool) → q x ≡ true → list_all q (filter p xs) ≡ true
        → list_all q (cond b (x ∷ filter p xs) (filter p xs)) ≡ true
    at_head true here more = and_from (q x) (list_all q (filter p xs)) here more
    at_head false here more = more

few : (flags : List Bool) → length (flagged flags) ≤ 8
unfolding flagged
few flags = no_longer (λ i. get_or flags (i - 1) false) all_instances

are_instances : (flags : List Bool) → list_all is_instance (flagged flags) ≡ true
unfolding flagged
are_instances flags = all_still (λ i. get_or flags (i - 1) false) is_instance all_instances refl

-- the instances at whose places the flags of a ring stand can be a ring
named_ring : (flags : List Bool) → IsRing flags → may_be_ring (flagged flags) ≡ true
named_ring flags is =
    let ring = flagged flags in
    and_from (nat_le 3 (length ring) && nat_le (length ring) 8 && list_all is_instance ring) (all_differ ring)
    (and_from (nat_le 3 (length ring) && nat_le (length ring) 8) (list_all is_instance ring)
    (and_from (nat_le 3 (length ring)) (nat_le (length ring) 8) (le-leb 3 _ is.enough) (le-leb _ 8 (few flags)))
    (are_instances flags))
    (members_differ flags)

named_again : (flags : List Bool) → in_order (flagged flags) ≡ flagged flags
unfolding in_order
named_again flags = members_again flags

-- numbers that can be a ring still can in order
ring_in_order : (numbers : List ℕ) → may_be_ring numbers ≡ true → may_be_ring (in_order numbers) ≡ true
ring_in_order numbers may =
    subst (λ ring. may_be_ring ring ≡ true) (flagged-flags_of numbers)
    (named_ring (flags_of numbers) (made_ring numbers may))

-- .. and what is in order stays so
order_again : (numbers : List ℕ) → in_order (in_order numbers) ≡ in_order numbers
order_again numbers = subst (λ ring. in_order ring ≡ ring) (flagged-flags_of numbers) (named_again (flags_of numbers))

-- what `Ring::new` makes is a ring, in order
pub made : (numbers : List ℕ) (ring : Members)
    → Some ring ≡ (if may_be_ring numbers then Some (record { instances = in_order numbers }) else None)
    → (may_be_ring ring.instances ≡ true) × (in_order ring.instances ≡ ring.instances)
made numbers ring e = at_test (may_be_ring numbers) refl e
  where
    at_test : (b : Bool) → may_be_ring numbers ≡ b
        → Some ring ≡ (if b then Some (record { instances = in_order numbers }) else None)
        → (may_be_ring ring.instances ≡ true) × (in_order ring.instances ≡ ring.instances)
    at_test true may is =
        let same : ring.instances ≡ in_order numbers = cc in
        rw same (ring_in_order numbers may, order_again numbers)
    at_test false may is = absurd (cc)
