-- Maps in the order of their keys: what is put, looked up and removed there.
use Rattle.std.proofs.Common.{◌≡◌, ℕ, Bool, true, false, ◌==◌, not, cond, List, [], ◌∷◌, Option, Some, None, Ordering, Less, Equal, Greater, refl, sym, ap, ◌∙◌, arith, nat_cmp}
use Rattle.std.specs.BTreeMap.{insert_entry, is_at}
use Rattle.std.specs.Cmp.{IsTotalOrder}
use Rattle.std.specs.List.{AllByRecursion, filter}
use Rattle.std.specs.List.Sorted.{IsStrictlySortedBy}
use Rattle.std.specs.Map.{keys_of, lookup, remove_entry, set_value}
use Rattle.std.specs.Ordering.{is_eq, match_ordering, ordering_then}
use Rattle.std.proofs.lemmas.Bool.Decides.{nat_tests}
use Rattle.std.proofs.lemmas.Cmp.{nat_cmp_total, on_total, then_total}
use Rattle.std.proofs.lemmas.Map.Lookups.{exact_unsigned}
use Rattle.std.proofs.lemmas.Map.Steps.{set_value_same}
use Rattle.std.specs.Cmp.{Equal-is}
use Rattle.am_transfer.specs.Peers.{ByNumber, Peer, at_number, peer_cmp, without_number}

pub peers_total : IsTotalOrder peer_cmp
peers_total = then_total (on_total (λ (p : Peer). p.instance) nat_cmp_total) (on_total (λ (p : Peer). p.incarnation) nat_cmp_total)

module _ {K X : Type 0} {R : K → K → Ordering} (o : IsTotalOrder R) (k : K) where
  -- what stands behind a greater key isn't found
  none_behind : (y : K) (es : List (K × X)) → R k y ≡ Less → AllByRecursion (λ z. R y z ≡ Less) (keys_of es) → lookup (is_at (R k)) es ≡ None
  none_behind y [] below all = refl
  none_behind y (e ∷ es) below all =
      ap (λ r. cond (is_eq r) (Some e.1) (lookup (is_at (R k)) es)) (o.trans k y e.0 below all.0) ∙ none_behind y es below all.1

  -- where something stands at the key, a value that is put there takes its place
  pub put_found : (es : List (K × X)) (v w : X) → IsStrictlySortedBy R (keys_of es) → lookup (is_at (R k)) es ≡ Some v → set_value (is_at (R k)) es w ≡ insert_entry R es k w
  unfolding IsStrictlySortedBy
  put_found [] v w up at = absurd (cc)
  put_found (e ∷ es) v w up at = by_order (R k e.0) refl (put_found es v w up.1)
    where
      by_order : (r : Ordering) → R k e.0 ≡ r → (lookup (is_at (R k)) es ≡ Some v → set_value (is_at (R k)) es w ≡ insert_entry R es k w)
          → set_value (is_at (R k)) (e ∷ es) w ≡ insert_entry R (e ∷ es) k w
      by_order Less h rest =
          let found : lookup (is_at (R k)) es ≡ Some v = rw h at at in
          let none : lookup (is_at (R k)) es ≡ None = none_behind e.0 es h up.0 in
          absurd (clash (lookup (is_at (R k)) es) none found)
        where
          clash : (q : Option X) → q ≡ None → q ≡ Some v → ⊥
          clash q none some = cc
      by_order Equal h rest = rw h refl
      by_order Greater h rest =
          let found : lookup (is_at (R k)) es ≡ Some v = rw h at at in
          rw h (ap (λ zs. e ∷ zs) (rest found))

  -- .. and the value that stands there changes nothing
  pub put_same : (es : List (K × X)) (v : X) → IsStrictlySortedBy R (keys_of es) → lookup (is_at (R k)) es ≡ Some v → insert_entry R es k v ≡ es
  put_same es v up at = sym (put_found es v v up at) ∙ set_value_same (is_at (R k)) es v at

-- ---- maps by numbers

same_number : (n m : ℕ) → is_eq (nat_cmp n m) ≡ (n == m)
same_number n m = grind (arith, nat_tests)

other_above : (n m : ℕ) → nat_cmp n m ≡ Less → (n == m) ≡ false
other_above n m h = sym (same_number n m) ∙ ap is_eq h

module _ {X : Type 0} (n : ℕ) where
  pub number_found : (es : ByNumber X) → lookup (is_at (nat_cmp n)) es ≡ at_number n es
  number_found [] = refl
  number_found (e ∷ es) = rw (same_number n e.0) (ap (λ (q : Option X). cond (n == e.0) (Some e.1) q) (number_found es))

  all_pass : (es : ByNumber X) → AllByRecursion (λ m. nat_cmp n m ≡ Less) (keys_of es) → without_number n es ≡ es
  all_pass [] all = refl
  all_pass (e ∷ es) all = rw (other_above n e.0 all.0) (ap (λ zs. e ∷ zs) (all_pass es all.1))

pub number_removed : {X : Type 0} (n : ℕ) (es : ByNumber X) → IsStrictlySortedBy nat_cmp (keys_of es) → remove_entry (is_at (nat_cmp n)) es ≡ without_number n es
unfolding IsStrictlySortedBy
number_removed n [] up = refl
number_removed {X} n (e ∷ es) up = by_cases (n == e.0) refl (number_removed n es up.1)
  where
    by_cases : (b : Bool) → (n == e.0) ≡ b → remove_entry (is_at (nat_cmp n)) es ≡ without_number n es → remove_entry (is_at (nat_cmp n)) (e ∷ es) ≡ without_number n (e ∷ es)
    by_cases true h rest =
        let is = same_number n e.0 ∙ h in
        let one : n ≡ e.0 = exact_unsigned n e.0 ((Equal-is (nat_cmp n e.0)).0 is) in
        rw (is, h) (sym (all_pass n es (rw one up.0)))
    by_cases false h rest = rw (same_number n e.0 ∙ h, h) (ap (λ zs. e ∷ zs) rest)

-- one equation after another
pub after_that : {A : Type 0} {x : A} (y z : A) → y ≡ z → x ≡ y → x ≡ z
after_that y z q p = p ∙ q
