-- What turns leave in the stores, as instances take them one after the other.
use Rattle.std.proofs.Common.{◌≡◌, ◌∙◌, inl, inr, ℕ, ◌+◌, ◌<◌, ◌≤◌, ◌==◌, nat_eq, nat_le, suc, true, false, List}
use Rattle.std.proofs.Common.{length, map, get_or, slice_get, slice_set, zero, Option, None, Some, refl, sym, ap, arith}
use Rattle.std.proofs.Common.{subst, if◌then◌else◌}
use Rattle.std.proofs.lemmas.Bool.{cases_Bool, true≢false}
use Rattle.std.proofs.lemmas.Bool.Decides.{nat_tests}
use Rattle.std.proofs.lemmas.Option.{same_Some}
use Rattle.am_cluster.specs.Events.{Tick}
use Rattle.am_item.specs.declared.item.Item.{Item}
use Rattle.am_instance.specs.Node.{retired}
use Rattle.am_ring.specs.Instances.{all_instances, is_among, is_instance}
use Rattle.am_instance.specs.Leaving.{LeavesShelf}
use Rattle.am_instance.specs.Shelves.{Shelf}
use Rattle.am_instance.specs.declared.instance.Instance.{Instance}
use Rattle.am_world.specs.Leaving.{LeavesShelves, stop_at, stored_of}
use Rattle.am_world.specs.Places.{AreNumbered, SameElsewhere, instance_at, up_at, up_where}
use Rattle.am_world.specs.Posting.{Post}
use Rattle.am_world.specs.Shelves.{shelf_at}
use Rattle.am_world.specs.declared.state.State.{State}
use Rattle.am_world.proofs.Shelved.{left_as, shelf_is, shelf_other, shelf_put, stop_same, stored_same, up_same}
use Rattle.am_world.proofs.TickPlaces.{all_counted, nobody, not_past}

-- what the turn of the instance of a number left in its store, where it was up; else the store is as it was
abbrev pub LeftAt : (m : ℕ) (w w' : State) (i : ℕ) (old new : Shelf) → Type 0
LeftAt m w w' i old new =
    (up_at i w.instances ≡ true
    → LeavesShelf (stored_of w i) (λ t. retired m (stored_of w i t)) ⊥ (stop_at i w'.instances) old new)
    × (up_at i w.instances ≡ false → new ≡ old)

-- each instance up to this number has taken its turn, and the others, with their stores, are as they were
abbrev pub Turned : {R : Type 0} → (f : R → Shelf) → (m upto : ℕ) (w w' : State) (before after : List R) → ℕ → Type 0
Turned f m upto w w' before after i =
    (i ≤ upto → LeftAt m w w' i (shelf_at i (map f before)) (shelf_at i (map f after)))
    × (upto < i → (instance_at i w'.instances ≡ instance_at i w.instances)
    × (shelf_at i (map f after) ≡ shelf_at i (map f before)))

none_up : (i : ℕ) (xs : List Instance) → instance_at i xs ≡ None → up_at i xs ≡ false
unfolding up_at
none_up i xs none = ap up_where none

pub turned_none : {R : Type 0} (f : R → Shelf) (m : ℕ) (w : State) (stores : List R) (i : ℕ)
    → AreNumbered w.instances → Turned f m 0 w w stores stores i
turned_none f m w stores i numbered = (λ low. (λ up. absurd (nobody_up low up), λ down. refl), λ past. (refl, refl))
  where
    nobody_up : i ≤ 0 → up_at i w.instances ≡ true → ⊥
    nobody_up low up =
        let first : nat_eq i 1 ≡ false = grind (arith, nat_tests) in
        let is : i ≡ 0 = omega (arith, low) in
        let none = nobody i w.instances numbered (ap (λ k. is_among k all_instances) is) in
        true≢false (sym up ∙ none_up i w.instances none)

-- one more took its turn: its store stands at place p, and its number is behind that
module _ {R : Type 0} (f : R → Shelf) (m p n : ℕ) (next : p + 1 ≡ n) (w mid w' : State) (before now : List R) (x y : R)
    (less : p < length now) (found : slice_get now p ≡ Some x)
    (others : SameElsewhere n mid.instances w'.instances)
    (left : LeftAt m mid w' n (f x) (f y)) where
  here : (i : ℕ) → i ≡ n → Turned f m p w mid before now i
      → LeftAt m w w' i (shelf_at i (map f before)) (shelf_at i (map f (slice_set now p y)))
  here i is turned =
      let same = turned.1 (omega (arith, is, next)) in
      let old : shelf_at i (map f before) ≡ f x =
      sym same.1 ∙ ap (λ k. shelf_at k (map f now)) is ∙ shelf_is f now p n next x found in
      let new : shelf_at i (map f (slice_set now p y)) ≡ f y =
      ap (λ k. shelf_at k (map f (slice_set now p y))) is ∙ shelf_put f now p n next y less in
      let own : LeftAt m mid w' i (f x) (f y) = subst (λ k. LeftAt m mid w' k (f x) (f y)) (sym is) left in
      subst (λ s. LeftAt m w w' i s (shelf_at i (map f (slice_set now p y)))) (sym old)
      (subst (λ s. LeftAt m w w' i (f x) s) (sym new) (as_first i same.0 own))
    where
      as_first : (j : ℕ) → instance_at j mid.instances ≡ instance_at j w.instances → LeftAt m mid w' j (f x) (f y)
          → LeftAt m w w' j (f x) (f y)
      as_first j is_same own = (
        λ up clean.
            left_as (stored_of mid j) (stored_of w j) (λ t. retired m (stored_of mid j t))
            (λ t. retired m (stored_of w j t)) ⊥ ⊥ (stop_at j w'.instances) (f x).medium (f y).medium
            (f y).pairs (λ t. stored_same w mid j t is_same)
            (λ t. ap (retired m) (stored_same w mid j t is_same)) (λ no. no)
            (own.0 (up_same j w.instances mid.instances is_same ∙ up) clean),
        λ down. own.1 (up_same j w.instances mid.instances is_same ∙ down),
      )

  pub turned_more : (i : ℕ) → Turned f m p w mid before now i → Turned f m n w w' before (slice_set now p y) i
  turned_more i turned = (done, ahead)
    where
      ahead : n < i → (instance_at i w'.instances ≡ instance_at i w.instances)
          × (shelf_at i (map f (slice_set now p y)) ≡ shelf_at i (map f before))
      ahead past =
          let apart : (i == n) ≡ false = grind (arith, nat_tests) in
          let same = turned.1 (omega (arith, past, next)) in
          (others i apart ∙ same.0, shelf_other f now p n next i y less apart ∙ same.1)

      done : i ≤ n → LeftAt m w w' i (shelf_at i (map f before)) (shelf_at i (map f (slice_set now p y)))
      done low = elim (cases_Bool (i == n)) [
        | inl same ↦ here i (grind (arith, nat_tests)) turned
        | inr apart ↦
            let earlier : i ≤ p = grind (arith, nat_tests) in
            let was = turned.0 earlier in
            subst (LeftAt m w w' i (shelf_at i (map f before))) (sym (shelf_other f now p n next i y less apart)) (
              λ up. subst (λ o. LeavesShelf (stored_of w i) (λ t. retired m (stored_of w i t)) ⊥ o
                  (shelf_at i (map f before)) (shelf_at i (map f now)))
                  (sym (stop_same i mid.instances w'.instances (others i apart))) (was.0 up),
              was.1,
            )
      ]

-- all eight have
pub turned_all : {R : Type 0} (f : R → Shelf) (Rejects : List ℕ → List Item → Type 0) (m upto : ℕ) (w w' : State)
    (before after : List R) → 8 ≤ upto → AreNumbered w.instances
    → ((i : ℕ) → Turned f m upto w w' before after i) → LeavesShelves Rejects w (Tick m) w' (map f before) (map f after)
turned_all f Rejects m upto w w' before after enough numbered turned = record {
  each = each;
  turned = λ i never. absurd (true≢false (sym never));
  others = λ i down apart. others i down;
}
  where
    past_all : (i : ℕ) → nat_le i upto ≡ false → is_among i all_instances ≡ false
    past_all i past =
        let above : upto < i = grind (arith, nat_tests) in
        not_past 1 i all_instances all_counted (omega (arith, above, enough))

    each : (i : ℕ) → up_at i w.instances ≡ true → LeavesShelf (stored_of w i) (λ t. retired m (stored_of w i t)) ⊥
        (stop_at i w'.instances) (shelf_at i (map f before)) (shelf_at i (map f after))
    each i up = elim (cases_Bool (nat_le i upto)) [
      | inl low ↦ ((turned i).0 (grind (arith, nat_tests))).0 up
      | inr past ↦
          absurd (true≢false (sym up ∙ none_up i w.instances (nobody i w.instances numbered (past_all i past))))
    ]

    others : (i : ℕ) → up_at i w.instances ≡ false → shelf_at i (map f after) ≡ shelf_at i (map f before)
    others i down = elim (cases_Bool (nat_le i upto)) [
      | inl low ↦ ((turned i).0 (grind (arith, nat_tests))).1 down
      | inr past ↦ ((turned i).1 (grind (arith, nat_tests))).1
    ]

-- .. at the moment of the tick, before which messages were lost
pub left_at : (Rejects : List ℕ → List Item → Type 0) (w : State) (k m : ℕ) (post : Post) (w' : State)
    (old new : List Shelf) → k ≡ m → LeavesShelves Rejects (record w { clock = k; messages = post }) (Tick k) w' old new
    → LeavesShelves Rejects w (Tick m) w' old new
unfolding stored_of
left_at Rejects w k m post w' old new is left =
    subst (λ n. LeavesShelves Rejects w (Tick n) w' old new) is (record {
      each = left.each;
      turned = λ i never. absurd (true≢false (sym never));
      others = left.others;
    })

-- ---- the numbers of all instances

pub number_is : (i : ℕ) → i < 8 → get_or all_instances i 0 ≡ i + 1
number_is zero low = refl
number_is (suc zero) low = refl
number_is (suc (suc zero)) low = refl
number_is (suc (suc (suc zero))) low = refl
number_is (suc (suc (suc (suc zero)))) low = refl
number_is (suc (suc (suc (suc (suc zero))))) low = refl
number_is (suc (suc (suc (suc (suc (suc zero)))))) low = refl
number_is (suc (suc (suc (suc (suc (suc (suc zero))))))) low = refl
number_is (suc (suc (suc (suc (suc (suc (suc (suc n)))))))) low = absurd (omega arith)

pub among_is : (i : ℕ) → i < 8 → is_among (i + 1) all_instances ≡ true
among_is zero low = refl
among_is (suc zero) low = refl
among_is (suc (suc zero)) low = refl
among_is (suc (suc (suc zero))) low = refl
among_is (suc (suc (suc (suc zero)))) low = refl
among_is (suc (suc (suc (suc (suc zero))))) low = refl
among_is (suc (suc (suc (suc (suc (suc zero)))))) low = refl
among_is (suc (suc (suc (suc (suc (suc (suc zero))))))) low = refl
among_is (suc (suc (suc (suc (suc (suc (suc (suc n)))))))) low = absurd (omega arith)

-- the number that was unwrapped
pub unwrapped : (i n r : ℕ) (o : Option ℕ) → i < 8 → n ≡ i + 1 → o ≡ (if is_instance n then Some n else None)
    → o ≡ Some r → r ≡ i + 1
unwrapped i n r o low is made whole =
    let exists : is_instance n ≡ true = within (i + 1) (omega arith) (omega (arith, low)) n is in
    let some : o ≡ Some n = made ∙ rw exists refl in
    same_Some r n (sym whole ∙ some) ∙ is
  where
    within : (k : ℕ) → 1 ≤ k → k ≤ 8 → (l : ℕ) → l ≡ k → is_instance l ≡ true
    within k least most l same = grind (arith, nat_tests)
