-- A world in which an instance was stopped is consistent and backed.
use Rattle.std.proofs.Common.{◌≡◌, ◌∙◌, inl, inr, ℕ, ◌==◌, nat_eq, ◌<◌, ◌≤◌, true, false, List, Some}
use Rattle.std.proofs.Common.{[], ◌∷◌, None, Option, IsSome, IsTrue, refl, sym, ap, subst, arith, length}
use Rattle.std.specs.List.{list_any}
use Rattle.std.proofs.lemmas.Bool.{cases_Bool, true≢false}
use Rattle.std.proofs.lemmas.Bool.Decides.{nat_tests}
use Rattle.am_cluster.specs.Moments.{last_moment}
use Rattle.am_item.specs.declared.fault.Fault.{Fault}
use Rattle.am_ring.proofs.Numbers.{all_among}
use Rattle.am_ring.specs.Instances.{all_instances, is_instance}
use Rattle.am_instance.specs.Instance.{IsDown}
use Rattle.am_instance.specs.Shelves.{IsBacked, Shelf}
use Rattle.am_instance.specs.Whole.{IsWhole}
use Rattle.am_instance.specs.declared.instance.Instance.{Instance}
use Rattle.am_world.specs.Consistent.{IsConsistent, IsConsistentBut, IsMember, IsRingInOrder, around_at, newest_in}
use Rattle.am_world.specs.Places.{AreNumbered, At, ChangesAt, EachIs, Turns, cause_at, cause_where, instance_at}
use Rattle.am_world.specs.Posting.{AreFiled, ArePast, AreReached}
use Rattle.am_world.specs.Shelves.{AreBacked, AreBackedBut, IsQuiet, shelf_at}
use Rattle.am_world.specs.declared.common.Common.{Common}
use Rattle.am_world.specs.declared.state.State.{State}
use Rattle.am_world.proofs.FreshKept.{past_stopped}
use Rattle.am_world.proofs.Placed.{also_there, is_there}
use Rattle.am_world.proofs.Reached.{NotEarlier, reached_at}
use Rattle.am_world.proofs.Turned.{whole_at}

-- each of the instances is there
any_flipped : (i : ℕ) (ns : List ℕ) → list_any (λ n. i == n) ns ≡ true → list_any (λ n. n == i) ns ≡ true
any_flipped i [] any = any
any_flipped i (n ∷ ns) any = elim (cases_Bool (nat_eq n i)) [
  | inl h ↦ rw h refl
  | inr h ↦
      let other : nat_eq i n ≡ false = grind (arith, nat_tests) in
      rw h (any_flipped i ns (rw other at any))
]

pub exists_at : (i : ℕ) (xs : List Instance) → AreNumbered xs → IsTrue (is_instance i) → IsSome (instance_at i xs)
exists_at i xs numbered is = is_there i xs numbered ∙ any_flipped i all_instances (all_among i is)

-- why one stopped
pub cause_here : (i : ℕ) (xs : List Instance) (fault : Fault) → IsSome (instance_at i xs)
    → At i (λ x. x.cause ≡ Some fault) xs → cause_at i xs ≡ Some fault
unfolding cause_at
cause_here i xs fault is causes = by_found (instance_at i xs) refl is
  where
    by_found : (o : Option Instance) → instance_at i xs ≡ o → IsSome o → cause_where o ≡ Some fault
    by_found None here some = absurd (true≢false (sym some))
    by_found (Some x) here some = causes x here

-- ---- where it was stopped

module _ (i : ℕ) (xs ys : List Instance) (change : ChangesAt i xs ys) (down : At i IsDown ys) where
  pub backed_stopped : (shelves : List Shelf) → AreBackedBut i xs shelves → AreBacked ys shelves
  backed_stopped shelves backed = record { size = backed.size; each = each }
    where
      each : (j : ℕ) → At j (λ x. IsBacked x (shelf_at j shelves)) ys
      each j x there = elim (cases_Bool (nat_eq j i)) [
        | inl h ↦
            let here : j ≡ i = grind (arith, nat_tests) in
            let is = down x (sym (ap (λ k. instance_at k ys) here) ∙ there) in
            record {
              opens = λ up. absurd (true≢false (sym up ∙ is.up));
              stores = λ up. absurd (true≢false (sym up ∙ is.up));
            }
        | inr h ↦ backed.each j h x (sym (change.others j h) ∙ there)
      ]

  pub quiet_stopped : ((j : ℕ) → (j == i) ≡ false → At j IsQuiet xs) → EachIs IsQuiet ys
  quiet_stopped quiet j x there = elim (cases_Bool (nat_eq j i)) [
    | inl h ↦
        let here : j ≡ i = grind (arith, nat_tests) in
        λ off. down x (sym (ap (λ k. instance_at k ys) here) ∙ there)
    | inr h ↦ quiet j h x (sym (change.others j h) ∙ there)
  ]

pub consistent_stopped : (i : ℕ) (w w' : State) → IsConsistentBut i w → ChangesAt i w.instances w'.instances
    → At i IsDown w'.instances → w'.clock ≡ w.clock → w'.common ≡ w.common → w'.messages ≡ w.messages
    → Turns i (λ x x'. x.known < length w'.common.rings.items → IsWhole (around_at w'.clock w') x') w.instances
    w'.instances
    → Turns i NotEarlier w.instances w'.instances → IsConsistent w'
consistent_stopped i w w' was change down clock common messages wholes later = record {
  clock = subst (λ n. n ≤ last_moment) (sym clock) was.clock;
  numbered = change.numbered;
  whole = whole;
  quiet = quiet_stopped i w.instances w'.instances change down was.quiet;
  ring = subst (λ (c : Common). IsRingInOrder (newest_in c)) (sym common) was.ring;
  members = members;
  filed = subst AreFiled (sym messages) was.filed;
  past = subst (λ post. ArePast post w'.instances) (sym messages)
      (past_stopped i w.messages w.instances w'.instances was.past down change.others);
  fresh = subst (λ post. AreReached post w'.instances) (sym messages)
      (reached_at i w.messages w.instances w'.instances was.numbered change later was.fresh);
}
  where
    members : EachIs (IsMember (newest_in w'.common)) w'.instances
    members j x' there = elim (cases_Bool (nat_eq j i)) [
      | inl h ↦
          let here : j ≡ i = grind (arith, nat_tests) in
          let is = down x' (sym (ap (λ k. instance_at k w'.instances) here) ∙ there) in
          λ up. absurd (true≢false (sym up ∙ is.up))
      | inr h ↦
          subst (λ (c : Common). IsMember (newest_in c) x') (sym common)
          (was.members j h x' (sym (change.others j h) ∙ there))
    ]

    whole : EachIs (IsWhole (around_at w'.clock w')) w'.instances
    whole j x' there = elim (cases_Bool (nat_eq j i)) [
      | inl h ↦
          let here : j ≡ i = grind (arith, nat_tests) in
          let own = sym (ap (λ k. instance_at k w'.instances) here) ∙ there in
          let x = also_there i w'.instances w.instances change.numbered was.numbered x' own in
          wholes x.0 x' x.1 own
          (subst (λ (c : Common). x.0.known < length c.rings.items) (sym common) (was.known x.0 x.1))
      | inr h ↦
          whole_at (around_at w.clock w) (around_at w'.clock w') x' (ap (λ (c : Common). c.rings.items) common)
          (ap (λ (c : Common). c.first) common) (was.whole j h x' (sym (change.others j h) ∙ there))
    ]
