-- Which instances there are, and what is so of each of them where one has changed.
use Rattle.std.proofs.Common.{◌≡◌, ℕ, ◌<◌, ◌≤◌, Bool, true, false, ◌||◌, List, [], ◌∷◌, length, map, Option, Some, None}
use Rattle.std.proofs.Common.{is_some, IsSome, arith, cond, find, inl, inr, ap, refl, sym, subst, ◌∙◌}
use Rattle.std.specs.Prelude.{◌==◌}
use Rattle.std.specs.List.{list_any}
use Rattle.std.proofs.lemmas.Bool.{cases_eq, ne_eqb}
use Rattle.am_cluster.specs.Moments.{last_moment}
use Rattle.am_cluster.specs.Messages.{Message}
use Rattle.am_item.specs.declared.fault.Fault.{Fault}
use Rattle.am_item.specs.declared.fault.Fault.TheVariants.{StoreRefused}
use Rattle.am_item.specs.declared.item.Item.{Item}
use Rattle.am_instance.specs.Node.{Local, accepted_for, retired}
use Rattle.am_ring.specs.Instances.{all_instances}
use Rattle.am_instance.specs.Here.{Circumstances}
use Rattle.am_instance.specs.Instance.{IsSameNode, bytes_in, node_local_in}
use Rattle.am_instance.specs.Leaving.{LeavesShelf}
use Rattle.am_instance.specs.Receiving.{brought_on}
use Rattle.am_instance.specs.Shelves.{Shelf}
use Rattle.am_instance.specs.Whole.{IsWhole}
use Rattle.am_instance.specs.declared.instance.Instance.{Instance}
use Rattle.am_world.specs.Consistent.{IsConsistent, IsConsistentBut, IsMember, IsRingInOrder, around_at, newest_in}
use Rattle.am_world.specs.Leaving.{stored_of, stored_where}
use Rattle.am_world.specs.Places.{AreNumbered, At, ChangesAt, EachIs, SameElsewhere, Turns, bytes_at, bytes_where}
use Rattle.am_world.specs.Places.{instance_at}
use Rattle.am_world.specs.Posting.{AreFiled, ArePast, AreReached, IsSamePost}
use Rattle.am_instance.specs.Shelves.{IsBacked, Shelf}
use Rattle.am_world.specs.Shelves.{AreBacked, IsQuiet, StaysBacked, shelf_at}
use Rattle.am_world.specs.Simulation.{IsSameBeside}
use Rattle.am_world.specs.declared.state.State.{State}
use Rattle.am_instance.specs.Site.{IsRejected, with_brought}
use Rattle.am_world.proofs.FreshKept.{past_but, past_but_any}
use Rattle.am_world.proofs.Reached.{reached_alike, reached_at}
use Rattle.am_world.proofs.Shelved.{left_as}
use Rattle.am_world.proofs.Turned.{StaysMember, whole_at}

-- ---- which there are

found_by : (i : ℕ) (xs : List Instance)
    → is_some (find (λ (x : Instance). x.number == i) xs) ≡ list_any (λ n. n == i) (map (λ (x : Instance). x.number) xs)
found_by i [] = refl
found_by i (x ∷ xs) = head (x.number == i) (found_by i xs)
  where
    head : (b : Bool)
        → is_some (find (λ (y : Instance). y.number == i) xs)
        ≡ list_any (λ n. n == i) (map (λ (y : Instance). y.number) xs)
        → is_some (cond b (Some x) (find (λ (y : Instance). y.number == i) xs))
        ≡ (b || list_any (λ n. n == i) (map (λ (y : Instance). y.number) xs))
    head true e = refl
    head false e = e

pub is_there : (i : ℕ) (xs : List Instance) → AreNumbered xs
    → is_some (instance_at i xs) ≡ list_any (λ n. n == i) all_instances
unfolding instance_at
is_there i xs numbered = found_by i xs ∙ ap (list_any (λ n. n == i)) numbered

some_of : {X : Type 0} (o : Option X) → is_some o ≡ true → (x : X) × (o ≡ Some x)
some_of None e = absurd (let clash = e in cc)
some_of (Some x) e = (x, refl)

-- the one that is there in one of two lists is there in the other
pub also_there : (i : ℕ) (xs ys : List Instance) → AreNumbered xs → AreNumbered ys → (x : Instance)
    → instance_at i xs ≡ Some x
    → (y : Instance) × (instance_at i ys ≡ Some y)
also_there i xs ys one other x found =
    some_of (instance_at i ys) (is_there i ys other ∙ sym (is_there i xs one) ∙ ap is_some found)

pub there : (i : ℕ) (xs : List Instance) → IsSome (instance_at i xs) → (x : Instance) × (instance_at i xs ≡ Some x)
there i xs is = by (instance_at i xs) is
  where
    by : (o : Option Instance) → IsSome o → (x : Instance) × (o ≡ Some x)
    by None none = absurd (let never = none in cc)
    by (Some x) some = (x, refl)

-- the bytes of a connection that is read
pub bytes_there : (c : ℕ) (x : Instance) → IsSome (bytes_in c x) → (before : List ℕ) × (bytes_in c x ≡ Some before)
bytes_there c x is = by (bytes_in c x) is
  where
    by : (o : Option (List ℕ)) → IsSome o → (before : List ℕ) × (o ≡ Some before)
    by None none = absurd (let never = none in cc)
    by (Some before) some = (before, refl)

-- ---- what is so of each

-- .. where one has changed
pub each_after : (Is : Instance → Type 0) (i : ℕ) (xs ys : List Instance) → SameElsewhere i xs ys → EachIs Is xs
    → At i Is ys → EachIs Is ys
each_after Is i xs ys others each own j x found = elim (cases_eq j i) [
  | inl is ↦ own x (subst (λ k. instance_at k ys ≡ Some x) is found)
  | inr apart ↦ each j x (sym (others j (ne_eqb j i apart)) ∙ found)
]

pub each_but : (Is : Instance → Type 0) (i : ℕ) (xs ys : List Instance) → SameElsewhere i xs ys → EachIs Is xs
    → (j : ℕ) → (j == i) ≡ false → At j Is ys
each_but Is i xs ys others each j apart x found = each j x (sym (others j apart) ∙ found)

-- ---- a world stays consistent

module _ (i : ℕ) (w w' : State) (was : IsConsistent w) (changes : ChangesAt i w.instances w'.instances)
    (beside : IsSameBeside w w')
    (filed : AreFiled w'.messages) where
  rings : (around_at w'.clock w').rings ≡ (around_at w.clock w).rings
  rings = ap (λ c. c.rings.items) beside.common

  first : (around_at w'.clock w').first ≡ (around_at w.clock w).first
  first = ap (λ c. c.first) beside.common

  clock : w'.clock ≤ last_moment
  clock = subst (λ n. n ≤ last_moment) (sym beside.clock) was.clock

  ring : newest_in w'.common ≡ newest_in w.common
  ring = ap newest_in beside.common

  ring_still : IsRingInOrder (newest_in w'.common)
  ring_still = subst IsRingInOrder (sym ring) was.ring

  each_member : EachIs (IsMember (newest_in w'.common)) w.instances
  each_member = subst (λ (r : List ℕ). EachIs (IsMember r) w.instances) (sym ring) was.members

  each_whole : EachIs (IsWhole (around_at w'.clock w')) w.instances
  each_whole j x found = whole_at (around_at w.clock w) (around_at w'.clock w') x rings first (was.whole j x found)

  -- .. but for the instance that changed, where all messages are as they were
  pub consistent_but : Turns i IsSameNode w.instances w'.instances → IsSamePost w.messages w'.messages
      → IsConsistentBut i w'
  consistent_but stays alike = record {
    clock = clock;
    numbered = changes.numbered;
    whole = each_but (IsWhole (around_at w'.clock w')) i w.instances w'.instances changes.others each_whole;
    quiet = each_but IsQuiet i w.instances w'.instances changes.others was.quiet;
    known = known_still;
    ring = ring_still;
    members = each_but (IsMember (newest_in w'.common)) i w.instances w'.instances changes.others each_member;
    filed = filed;
    past = past_but i w.messages w'.messages w.instances w'.instances changes.others alike was.past;
    fresh = reached_alike w.messages w'.messages w'.instances alike
        (reached_at i w.messages w.instances w'.instances was.numbered changes
        (λ x x' from to. let same = (stays x x' from to).incarnation in omega (arith, same)) was.fresh);
  }
    where
      known_still : At i (λ x. x.known < length w'.common.rings.items) w'.instances
      known_still x' found =
          let x = also_there i w'.instances w.instances changes.numbered was.numbered x' found in
          let same = stays x.0 x' x.1 found in
          subst (λ k. k < length w'.common.rings.items) (sym same.known) (each_whole i x.0 x.1).known

  -- .. all of it, where that is whole
  pub consistent_still : At i (IsWhole (around_at w'.clock w')) w'.instances → At i IsQuiet w'.instances
      → Turns i StaysMember w.instances w'.instances → ArePast w'.messages w'.instances
      → AreReached w'.messages w'.instances → IsConsistent w'
  consistent_still whole quiet member past fresh = record {
    clock = clock;
    numbered = changes.numbered;
    whole = each_after (IsWhole (around_at w'.clock w')) i w.instances w'.instances changes.others each_whole whole;
    quiet = each_after IsQuiet i w.instances w'.instances changes.others was.quiet quiet;
    ring = ring_still;
    members = each_after (IsMember (newest_in w'.common)) i w.instances w'.instances changes.others each_member here;
    filed = filed;
    past = past;
    fresh = fresh;
  }
    where
      here : At i (IsMember (newest_in w'.common)) w'.instances
      here x' found =
          let x = also_there i w'.instances w.instances changes.numbered was.numbered x' found in
          member x.0 x' x.1 found (newest_in w'.common) (each_member i x.0 x.1)

-- a consistent world is so but for any instance
pub consistent_but_all : (i : ℕ) (w : State) → IsConsistent w → IsConsistentBut i w
consistent_but_all i w was = record {
  clock = was.clock;
  numbered = was.numbered;
  whole = λ j apart. was.whole j;
  quiet = λ j apart. was.quiet j;
  known = λ x found. (was.whole i x found).known;
  ring = was.ring;
  members = λ j apart. was.members j;
  filed = was.filed;
  past = past_but_any i w.messages w.instances was.past;
  fresh = was.fresh;
}

-- ---- stores

-- the stores of all instances are theirs still, where the one that changed has what it had in its own
pub backed_after : (i : ℕ) (xs ys : List Instance) → AreNumbered xs → ChangesAt i xs ys → Turns i StaysBacked xs ys
    → (shelves : List Shelf) → AreBacked xs shelves → AreBacked ys shelves
backed_after i xs ys numbered changes stays shelves backed = record {
  size = backed.size;
  each = λ j x' found. elim (cases_eq j i) [
    | inl is ↦
        let here = subst (λ k. instance_at k ys ≡ Some x') is found in
        let x = also_there i ys xs changes.numbered numbered x' here in
        subst (λ k. IsBacked x' (shelf_at k shelves)) (sym is)
        (stays x.0 x' x.1 here (shelf_at i shelves) (backed.each i x.0 x.1))
    | inr apart ↦ backed.each j x' (sym (changes.others j (ne_eqb j i apart)) ∙ found)
  ];
}

-- an instance that reads a connection
pub reads_at : (c i : ℕ) (xs : List Instance) (x : Instance) (before : List ℕ) → instance_at i xs ≡ Some x
    → bytes_in c x ≡ Some before → is_some (bytes_at c i xs) ≡ true
unfolding bytes_at
reads_at c i xs x before found read = ap (λ o. is_some (bytes_where c o)) found ∙ ap is_some read

-- ---- what is left in its store

stored_here : (w : State) (i : ℕ) (x : Instance) → instance_at i w.instances ≡ Some x → (t : List ℕ)
    → node_local_in t x ≡ stored_of w i t
unfolding stored_of
stored_here w i x found t = sym (ap (stored_where t) found)

brought_same : (brought : Option (List Item)) (tenant : List ℕ) (moment : ℕ) (f g : List ℕ → Local)
    → ((t : List ℕ) → f t ≡ g t) → (t : List ℕ)
    → with_brought brought tenant moment f t ≡ with_brought brought tenant moment g t
brought_same None tenant moment f g same t = same t
brought_same (Some items) tenant moment f g same t = ap (accepted_for tenant moment items t) (same t)

-- .. where a message came, as the world says it
pub left_of : (Rejects : List ℕ → List Item → Type 0) (w : State) (i : ℕ) (a b : Circumstances) (x : Instance)
    (message : Message) (fault : Option Fault) (old new : Shelf) → a ≡ b → instance_at i w.instances ≡ Some x
    → LeavesShelf (λ t. node_local_in t x)
    (with_brought (brought_on a x message) message.tenant a.moment (λ t. node_local_in t x))
    (IsRejected Rejects message.tenant (brought_on a x message)) fault old new
    → LeavesShelf (stored_of w i)
    (with_brought (brought_on b x message) message.tenant b.moment (stored_of w i))
    (IsRejected Rejects message.tenant (brought_on b x message)) fault old new
left_of Rejects w i a b x message fault old new is found left =
    subst (λ (c : Circumstances). LeavesShelf (stored_of w i)
    (with_brought (brought_on c x message) message.tenant c.moment (stored_of w i))
    (IsRejected Rejects message.tenant (brought_on c x message)) fault old new) is
    (λ clean. left_as (λ t. node_local_in t x) (stored_of w i) _ _ _ _ fault old.medium new.medium new.pairs
    (stored_here w i x found)
    (brought_same (brought_on a x message) message.tenant a.moment (λ t. node_local_in t x) (stored_of w i)
    (stored_here w i x found))
    (λ rejected. rejected) (left clean))

-- .. where it ticked
pub left_ticked : (w : State) (i m moment : ℕ) (x : Instance) (fault ending : Option Fault) (old new : Shelf)
    → m ≡ moment → instance_at i w.instances ≡ Some x → (ending ≡ Some StoreRefused → fault ≡ Some StoreRefused)
    → LeavesShelf (λ t. node_local_in t x) (λ t. retired m (node_local_in t x)) ⊥ fault old new
    → LeavesShelf (stored_of w i) (λ t. retired moment (stored_of w i t)) ⊥ ending old new
left_ticked w i m moment x fault ending old new is found refused left clean =
    let was = left_as (λ t. node_local_in t x) (stored_of w i) (λ t. retired m (node_local_in t x))
    (λ t. retired moment (stored_of w i t)) ⊥ ⊥ fault old.medium new.medium new.pairs (stored_here w i x found)
    (λ t. ap (λ n. retired n (node_local_in t x)) is ∙ ap (retired moment) (stored_here w i x found t))
    (λ never. never) (left clean) in
    record { rows = was.rows; cause = λ why. was.cause (refused why) }
