-- What stores have beside the instances whose stores they are, as one instance and its store change.
use Rattle.std.proofs.Common.{◌≡◌, ◌∙◌, inl, inr, ℕ, ◌+◌, ◌==◌, ◌<◌, zero, suc, nat_eq, true, false, List, [], ◌∷◌}
use Rattle.std.proofs.Common.{length, map, slice_get, slice_set, Option, Some, None, option_map, refl, sym, ap, arith}
use Rattle.std.proofs.Common.{subst, if◌then◌else◌}
use Rattle.std.proofs.Math.ListN.{length-set}
use Rattle.std.proofs.lemmas.Bool.{cases_Bool, false≢true, true≢false}
use Rattle.std.proofs.lemmas.Bool.Decides.{nat_tests}
use Rattle.std.proofs.lemmas.List.{length-map}
use Rattle.std.proofs.lemmas.Option.{slice_get-map}
use Rattle.am_cluster.specs.Events.{Event}
use Rattle.am_item.specs.declared.fault.Fault.{Fault}
use Rattle.am_item.specs.declared.fault.Fault.TheVariants.{StoreRefused}
use Rattle.am_item.specs.declared.item.Item.{Item}
use Rattle.am_instance.specs.Node.{AreRowsOf, LeavesStore, Local}
use Rattle.am_rows.specs.Refusing.{Medium}
use Rattle.am_rows.specs.Rows.{rows_of, stored_in}
use Rattle.am_instance.specs.Instance.{local_in, node_local_in}
use Rattle.am_instance.specs.Leaving.{LeavesShelf, stop_for}
use Rattle.am_instance.specs.Shelves.{IsBacked, Shelf}
use Rattle.am_instance.specs.declared.instance.Instance.{Instance}
use Rattle.am_instance.specs.Site.{local_of as local_in_site}
use Rattle.am_world.specs.Leaving.{LeavesShelves, LeavesOpenedOrDropped, RejectedBy, stop_at, stored_after, stored_of}
use Rattle.am_world.specs.Leaving.{stored_where, opens_or_drops, writes}
use Rattle.am_world.specs.Places.{At, SameElsewhere, cause_at, cause_where, instance_at, up_at, up_where}
use Rattle.am_world.specs.Shelves.{AreBacked, AreBackedBut, AreClean, NeverCleaner, shelf_at, shelf_where}
use Rattle.am_world.specs.declared.state.State.{State}
use Rattle.am_world.proofs.InstancesLemmas.{set_get}

-- ---- the store of a number, at its place

module _ {R : Type 0} (f : R → Shelf) (stores : List R) where
  found_at : (p : ℕ) (x : R) → slice_get stores p ≡ Some x → shelf_at (suc p) (map f stores) ≡ f x
  unfolding shelf_at
  found_at p x found = ap shelf_where (slice_get-map f stores p ∙ ap (option_map f) found)

  put_at : (p : ℕ) (y : R) → p < length stores → shelf_at (suc p) (map f (slice_set stores p y)) ≡ f y
  unfolding shelf_at
  put_at p y less =
      let itself : nat_eq p p ≡ true = grind (arith, nat_tests) in
      let got : slice_get (slice_set stores p y) p ≡ Some y = set_get stores p p y less ∙ rw itself refl in
      ap shelf_where (slice_get-map f (slice_set stores p y) p ∙ ap (option_map f) got)

  other_at : (p j : ℕ) (y : R) → p < length stores → (j == suc p) ≡ false
      → shelf_at j (map f (slice_set stores p y)) ≡ shelf_at j (map f stores)
  unfolding shelf_at
  other_at p zero y less apart = refl
  other_at p (suc q) y less apart =
      let other : nat_eq q p ≡ false = grind (arith, nat_tests) in
      let got : slice_get (slice_set stores p y) q ≡ slice_get stores q = set_get stores p q y less ∙ rw other refl in
      ap shelf_where (slice_get-map f (slice_set stores p y) q ∙ ap (option_map f) got ∙ sym (slice_get-map f stores q))

-- ---- by number

pub up_same : (i : ℕ) (xs ys : List Instance) → instance_at i ys ≡ instance_at i xs → up_at i ys ≡ up_at i xs
unfolding up_at
up_same i xs ys is = ap up_where is

pub stop_up : (i : ℕ) (xs : List Instance) (fault : Fault) → up_at i xs ≡ true → stop_at i xs ≡ Some fault → ⊥
stop_up i xs fault up is =
    let none : stop_for true (cause_at i xs) ≡ Some fault = sym (ap (λ b. stop_for b (cause_at i xs)) up) ∙ is in
    let clash = none in cc

pub stop_down : (i : ℕ) (xs : List Instance) → up_at i xs ≡ false → stop_at i xs ≡ cause_at i xs
stop_down i xs down = ap (λ b. stop_for b (cause_at i xs)) down

pub stop_same : (i : ℕ) (xs ys : List Instance) → instance_at i ys ≡ instance_at i xs → stop_at i ys ≡ stop_at i xs
unfolding up_at cause_at
stop_same i xs ys is = ap (λ o. stop_for (up_where o) (cause_where o)) is

pub stop_here : (i : ℕ) (xs : List Instance) (x : Instance) → instance_at i xs ≡ Some x
    → stop_at i xs ≡ stop_for x.up x.cause
unfolding up_at cause_at
stop_here i xs x here = ap (λ o. stop_for (up_where o) (cause_where o)) here

pub stored_same : (w w' : State) (i : ℕ) (t : List ℕ) → instance_at i w'.instances ≡ instance_at i w.instances
    → stored_of w' i t ≡ stored_of w i t
unfolding stored_of
stored_same w w' i t is = ap (stored_where t) is

-- who is up still wasn't refused by its store
pub unrefused_up : (xs ys : List Instance) → ((i : ℕ) → up_at i ys ≡ up_at i xs) → (j : ℕ) → up_at j xs ≡ true
    → stop_at j ys ≡ Some StoreRefused → ⊥
unrefused_up xs ys same j up is = stop_up j ys StoreRefused (same j ∙ up) is

-- .. nor is anybody where one instance stopped for another fault
pub unrefused_but : (i : ℕ) (xs ys : List Instance) → SameElsewhere i xs ys → (stop_at i ys ≡ Some StoreRefused → ⊥)
    → (j : ℕ) → up_at j xs ≡ true → stop_at j ys ≡ Some StoreRefused → ⊥
unrefused_but i xs ys others here j up is = elim (cases_Bool (j == i)) [
  | inl same ↦ let one : j ≡ i = grind (arith, nat_tests) in here (sym (ap (λ k. stop_at k ys) one) ∙ is)
  | inr apart ↦ stop_up j xs StoreRefused up (sym (stop_same j xs ys (others j apart)) ∙ is)
]

-- ---- what is left, where the same is said otherwise

rows_as : (a b : List ℕ → Local) (pairs : List (List ℕ × Item)) → ((t : List ℕ) → a t ≡ b t) → AreRowsOf a pairs
    → AreRowsOf b pairs
rows_as a b pairs same rows t = rows t ∙ ap (λ (l : Local). stored_in l.held) (same t)

pub left_as : (a b c d : List ℕ → Local) (P Q : Type 0) (fault : Option Fault) (old new : Medium)
    (pairs : List (List ℕ × Item)) → ((t : List ℕ) → a t ≡ b t) → ((t : List ℕ) → c t ≡ d t) → (P → Q)
    → LeavesStore a c P fault old new pairs → LeavesStore b d Q fault old new pairs
left_as a b c d P Q fault old new pairs one other reject left = record {
  rows = λ still. elim (left.rows still) [
    | inl before ↦ inl (rows_as a b pairs one before)
    | inr after ↦ inr (rows_as c d pairs other after)
  ];
  cause = λ is. elim (left.cause is) [ inl refuses ↦ inl refuses | inr rejected ↦ inr (reject rejected) ];
}

pub left_alone : (before after : List ℕ → Local) (Rejected : Type 0) (fault : Option Fault) (shelf : Shelf)
    → AreRowsOf before shelf.pairs → (fault ≡ Some StoreRefused → ⊥)
    → LeavesStore before after Rejected fault shelf.medium shelf.medium shelf.pairs
left_alone before after Rejected fault shelf rows unrefused = record {
  rows = λ still. inl rows;
  cause = λ is. absurd (unrefused is);
}

-- ---- no store changed

pub never_cleaner : (shelves : List Shelf) → NeverCleaner shelves shelves
never_cleaner shelves i clean = clean

pub cleaner_then : (a b c : List Shelf) → NeverCleaner a b → NeverCleaner b c → NeverCleaner a c
cleaner_then a b c first next i clean = first i (next i clean)

pub clean_before : (old new : List Shelf) → NeverCleaner old new → AreClean new → AreClean old
clean_before old new never clean i exists = never i (clean i exists)

-- who is up and whose store is clean has its rows there
node_held : (t : List ℕ) (x : Instance) → (node_local_in t x).held ≡ (local_in t x).held
unfolding node_local_in local_in local_in_site
node_held t x = refl

pub rows_there : (w : State) (shelves : List Shelf) (i : ℕ) → AreBacked w.instances shelves
    → up_at i w.instances ≡ true → (shelf_at i shelves).is_clean ≡ true
    → AreRowsOf (stored_of w i) (shelf_at i shelves).pairs
unfolding stored_of up_at
rows_there w shelves i backed up clean t = by (instance_at i w.instances) refl up
  where
    by : (o : Option Instance) → instance_at i w.instances ≡ o → up_where o ≡ true
        → rows_of t (shelf_at i shelves).pairs ≡ stored_in (stored_where t o).held
    by None at is = absurd (false≢true is)
    by (Some x) at is = (backed.each i x at).stores is clean t ∙ ap stored_in (sym (node_held t x))

-- an event changed no store
pub shelves_alone : (Rejects : List ℕ → List Item → Type 0) (w : State) (e : Event) (w' : State) (shelves : List Shelf)
    → AreBacked w.instances shelves → ((i : ℕ) → writes w e i ≡ true → up_at i w.instances ≡ true)
    → ((i : ℕ) → opens_or_drops w e i ≡ false)
    → ((i : ℕ) → up_at i w.instances ≡ true → stop_at i w'.instances ≡ Some StoreRefused → ⊥)
    → LeavesShelves Rejects w e w' shelves shelves
shelves_alone Rejects w e w' shelves backed up unturned unrefused = record {
  each = λ i some clean.
      left_alone (stored_of w i) (stored_after w e i) (RejectedBy Rejects w e i) (stop_at i w'.instances)
      (shelf_at i shelves) (rows_there w shelves i backed (up i some) clean) (unrefused i (up i some));
  turned = λ i some. absurd (true≢false (sym some ∙ unturned i));
  others = λ i idle apart. refl;
}

-- nothing is written
pub shelves_unwritten : (Rejects : List ℕ → List Item → Type 0) (w : State) (e : Event) (w' : State)
    (shelves : List Shelf) → ((i : ℕ) → writes w e i ≡ false) → ((i : ℕ) → opens_or_drops w e i ≡ false)
    → LeavesShelves Rejects w e w' shelves shelves
shelves_unwritten Rejects w e w' shelves none unturned = record {
  each = λ i some. absurd (true≢false (sym some ∙ none i));
  turned = λ i some. absurd (true≢false (sym some ∙ unturned i));
  others = λ i idle apart. refl;
}

-- ---- one store changed

-- what an event leaves in the store of a number to which it writes
abbrev LeavesAt : (Rejects : List ℕ → List Item → Type 0) (w : State) (e : Event) (w' : State) → ℕ → (old new : Shelf)
    → Type 0
LeavesAt Rejects w e w' i old new =
    LeavesShelf (stored_of w i) (stored_after w e i) (RejectedBy Rejects w e i) (stop_at i w'.instances) old new

-- it stands at place p, and is that of the instance of number n
module _ {R : Type 0} (f : R → Shelf) (stores : List R) (p n : ℕ) (next : p + 1 ≡ n) where
  behind : suc p ≡ n
  behind = omega (arith, next)

  pub shelf_is : (x : R) → slice_get stores p ≡ Some x → shelf_at n (map f stores) ≡ f x
  shelf_is x found = subst (λ k. shelf_at k (map f stores) ≡ f x) behind (found_at f stores p x found)

  pub shelf_put : (y : R) → p < length stores → shelf_at n (map f (slice_set stores p y)) ≡ f y
  shelf_put y less = subst (λ k. shelf_at k (map f (slice_set stores p y)) ≡ f y) behind (put_at f stores p y less)

  pub shelf_other : (j : ℕ) (y : R) → p < length stores → (j == n) ≡ false
      → shelf_at j (map f (slice_set stores p y)) ≡ shelf_at j (map f stores)
  shelf_other j y less apart =
      other_at f stores p j y less (subst (λ k. (j == k) ≡ false) (sym behind) apart)

  -- the store of an instance that stands there
  pub backed_there : (xs : List Instance) (x : R) → slice_get stores p ≡ Some x → AreBacked xs (map f stores)
      → At n (λ z. IsBacked z (f x)) xs
  backed_there xs x found backed z at = subst (IsBacked z) (shelf_is x found) (backed.each n z at)

  -- all are backed where this one is and no other changed
  pub backed_put : (xs ys : List Instance) (y : R) → p < length stores → SameElsewhere n xs ys
      → At n (λ z. IsBacked z (f y)) ys → AreBacked xs (map f stores) → AreBacked ys (map f (slice_set stores p y))
  backed_put xs ys y less others here backed = record {
    size = length-map (slice_set stores p y) f ∙ length-set stores p y ∙ sym (length-map stores f) ∙ backed.size;
    each = each;
  }
    where
      each : (j : ℕ) → At j (λ z. IsBacked z (shelf_at j (map f (slice_set stores p y)))) ys
      each j z at = elim (cases_Bool (j == n)) [
        | inl same ↦
            let is : j ≡ n = grind (arith, nat_tests) in
            subst (λ k. IsBacked z (shelf_at k (map f (slice_set stores p y)))) (sym is)
            (subst (IsBacked z) (sym (shelf_put y less)) (here z (sym (ap (λ k. instance_at k ys) is) ∙ at)))
        | inr apart ↦
            subst (IsBacked z) (sym (shelf_other j y less apart)) (backed.each j z (sym (others j apart) ∙ at))
      ]

  -- .. all but this one, where that stopped midway
  pub backed_but_put : (xs ys : List Instance) (y : R) → p < length stores → SameElsewhere n xs ys
      → AreBacked xs (map f stores) → AreBackedBut n ys (map f (slice_set stores p y))
  backed_but_put xs ys y less others backed = record {
    size = length-map (slice_set stores p y) f ∙ length-set stores p y ∙ sym (length-map stores f) ∙ backed.size;
    each = λ j apart z at.
        subst (IsBacked z) (sym (shelf_other j y less apart)) (backed.each j z (sym (others j apart) ∙ at));
  }

  -- its disk returns no more than before
  pub cleaner_put : (x y : R) → p < length stores → slice_get stores p ≡ Some x
      → ((f y).is_clean ≡ true → (f x).is_clean ≡ true) → NeverCleaner (map f stores) (map f (slice_set stores p y))
  cleaner_put x y less found stays j clean = elim (cases_Bool (j == n)) [
    | inl same ↦
        let is : j ≡ n = grind (arith, nat_tests) in
        let now : shelf_at j (map f (slice_set stores p y)) ≡ f y =
        ap (λ k. shelf_at k (map f (slice_set stores p y))) is ∙ shelf_put y less in
        ap (λ (s : Shelf). s.is_clean) (ap (λ k. shelf_at k (map f stores)) is ∙ shelf_is x found)
        ∙ stays (sym (ap (λ (s : Shelf). s.is_clean) now) ∙ clean)
    | inr apart ↦ sym (ap (λ (s : Shelf). s.is_clean) (shelf_other j y less apart)) ∙ clean
  ]

  -- an event that writes to this store alone
  pub left_put : (Rejects : List ℕ → List Item → Type 0) (w : State) (e : Event) (w' : State) (x y : R)
      → p < length stores → slice_get stores p ≡ Some x → writes w e n ≡ true
      → ((j : ℕ) → (j == n) ≡ false → writes w e j ≡ false) → ((j : ℕ) → opens_or_drops w e j ≡ false)
      → LeavesShelf (stored_of w n) (stored_after w e n) (RejectedBy Rejects w e n) (stop_at n w'.instances) (f x) (f y)
      → LeavesShelves Rejects w e w' (map f stores) (map f (slice_set stores p y))
  left_put Rejects w e w' x y less found written alone unturned left = record {
    each = each;
    turned = λ j some. absurd (true≢false (sym some ∙ unturned j));
    others = others;
  }
    where
      own : LeavesAt Rejects w e w' n (shelf_at n (map f stores)) (shelf_at n (map f (slice_set stores p y)))
      own =
          subst (λ old. LeavesAt Rejects w e w' n old (shelf_at n (map f (slice_set stores p y))))
          (sym (shelf_is x found))
          (subst (λ new. LeavesAt Rejects w e w' n (f x) new) (sym (shelf_put y less)) left)

      each : (j : ℕ) → writes w e j ≡ true
          → LeavesAt Rejects w e w' j (shelf_at j (map f stores)) (shelf_at j (map f (slice_set stores p y)))
      each j some = elim (cases_Bool (j == n)) [
        | inl same ↦
            let is : n ≡ j = grind (arith, nat_tests) in
            subst (λ k. LeavesAt Rejects w e w' k (shelf_at k (map f stores))
            (shelf_at k (map f (slice_set stores p y)))) is own
        | inr apart ↦ absurd (true≢false (sym some ∙ alone j apart))
      ]

      others : (j : ℕ) → writes w e j ≡ false → opens_or_drops w e j ≡ false
          → shelf_at j (map f (slice_set stores p y)) ≡ shelf_at j (map f stores)
      others j idle apart = elim (cases_Bool (j == n)) [
        | inl same ↦
            let is : j ≡ n = grind (arith, nat_tests) in
            absurd (true≢false (sym written ∙ sym (ap (writes w e) is) ∙ idle))
        | inr apart ↦ shelf_other j y less apart
      ]

  -- an event that turns over this store alone
  pub turned_put : (Rejects : List ℕ → List Item → Type 0) (w : State) (e : Event) (w' : State) (x y : R)
      → p < length stores → slice_get stores p ≡ Some x → ((j : ℕ) → writes w e j ≡ false)
      → ((j : ℕ) → (j == n) ≡ false → opens_or_drops w e j ≡ false)
      → (opens_or_drops w e n ≡ true → LeavesOpenedOrDropped w e w' n (f x) (f y))
      → (opens_or_drops w e n ≡ false → f y ≡ f x)
      → LeavesShelves Rejects w e w' (map f stores) (map f (slice_set stores p y))
  turned_put Rejects w e w' x y less found unwritten alone left idle = record {
    each = λ j some. absurd (true≢false (sym some ∙ unwritten j));
    turned = turned;
    others = others;
  }
    where
      own : opens_or_drops w e n ≡ true
          → LeavesOpenedOrDropped w e w' n (shelf_at n (map f stores)) (shelf_at n (map f (slice_set stores p y)))
      own some =
          subst (λ old. LeavesOpenedOrDropped w e w' n old (shelf_at n (map f (slice_set stores p y))))
          (sym (shelf_is x found))
          (subst (λ new. LeavesOpenedOrDropped w e w' n (f x) new) (sym (shelf_put y less)) (left some))

      stays : opens_or_drops w e n ≡ false → shelf_at n (map f (slice_set stores p y)) ≡ shelf_at n (map f stores)
      stays out = shelf_put y less ∙ idle out ∙ sym (shelf_is x found)

      turned : (j : ℕ) → opens_or_drops w e j ≡ true
          → LeavesOpenedOrDropped w e w' j (shelf_at j (map f stores)) (shelf_at j (map f (slice_set stores p y)))
      turned j some = elim (cases_Bool (j == n)) [
        | inl same ↦
            let is : n ≡ j = grind (arith, nat_tests) in
            subst (λ k. LeavesOpenedOrDropped w e w' k (shelf_at k (map f stores))
            (shelf_at k (map f (slice_set stores p y)))) is (own (ap (opens_or_drops w e) is ∙ some))
        | inr apart ↦ absurd (true≢false (sym some ∙ alone j apart))
      ]

      others : (j : ℕ) → writes w e j ≡ false → opens_or_drops w e j ≡ false
          → shelf_at j (map f (slice_set stores p y)) ≡ shelf_at j (map f stores)
      others j unwrites out = elim (cases_Bool (j == n)) [
        | inl same ↦
            let is : n ≡ j = grind (arith, nat_tests) in
            subst (λ k. shelf_at k (map f (slice_set stores p y)) ≡ shelf_at k (map f stores)) is
            (stays (ap (opens_or_drops w e) is ∙ out))
        | inr apart ↦ shelf_other j y less apart
      ]
