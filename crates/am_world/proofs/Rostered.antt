-- The rings and instances of a world where the ring or one of them changed: what they are then, and that the world
-- stays consistent where the new ring is the newest one.
use Rattle.std.proofs.Common.{◌≡◌, ◌∙◌, inl, inr, ℕ, ◌+◌, ◌-◌, ◌<◌, ◌≤◌, ◌==◌, ◌&&◌, ◌||◌, nat_eq, not, suc, zero}
use Rattle.std.proofs.Common.{true, false, Bool, List, [], ◌∷◌, ◌++◌, get_or, length, map, option_map, slice_get}
use Rattle.std.proofs.Common.{None, Some, Result, Ok, Err, is_err, is_ok, unwrap_or, length-append, refl, sym, ap}
use Rattle.std.proofs.Common.{subst, arith, if◌then◌else◌}
use Rattle.std.specs.List.{list_all}
use Rattle.std.proofs.lemmas.Bool.{cases_Bool, or_right, true≢false}
use Rattle.std.proofs.lemmas.Bool.Decides.{nat_tests}
use Rattle.std.proofs.lemmas.List.{length-map, map-append, take-append-le}
use Rattle.std.proofs.lemmas.Option.{slice_get-map, slice_get_read}
use Rattle.am_cluster.proofs.Newest.{in_order_after}
use Rattle.am_cluster.specs.Moments.{last_moment}
use Rattle.am_cluster.specs.Rings.{Rings, is_always_replica, newest_epoch, newest_ring, ring_at}
use Rattle.am_cluster.specs.Roster.{IsSameRoster, Joins, Leaves, put_at, ring_event_refusal, roster_after}
use Rattle.am_cluster.specs.Roster.{with_opened_in}
use Rattle.am_messages.specs.Posted.{posted_at}
use Rattle.am_ring.proofs.Lists.{among-filter}
use Rattle.am_ring.proofs.Numbers.{all_among, among_all}
use Rattle.am_ring.specs.Changes.{with_instance, without}
use Rattle.am_ring.specs.Instances.{Members, all_instances, in_order, is_among, is_instance}
use Rattle.am_ring.specs.Replicas.{replicas}
use Rattle.am_instance.proofs.Whole.{in_order_at}
use Rattle.am_instance.specs.Changing.{learned, renewed}
use Rattle.am_instance.specs.Here.{Circumstances, has_stayed_on, here_on, rings_on, three_on}
use Rattle.am_instance.specs.Instance.{IsSameNode}
use Rattle.am_instance.specs.Whole.{IsWhole}
use Rattle.am_instance.specs.declared.instance.Instance.{Instance}
use Rattle.am_world.specs.Consistent.{IsConsistent, IsConsistentBut, IsMember, IsRingInOrder, around_at, newest_in}
use Rattle.am_world.specs.Places.{AreNumbered, At, EachIs, SameElsewhere, incarnation_at, incarnation_where}
use Rattle.am_world.specs.Places.{instance_at, known_at, known_where, up_at, up_where}
use Rattle.am_world.specs.Posting.{AreFiled}
use Rattle.am_world.specs.Simulation.{roster_of}
use Rattle.am_world.specs.declared.common.Common.{Common}
use Rattle.am_world.specs.declared.state.State.{State}
use Rattle.am_world.proofs.AlonePlaces.{at_each, incarnation_here, known_here, up_here}
use Rattle.am_world.proofs.FaultedRing.{Begins}
use Rattle.am_world.proofs.InstancesLemmas.{number_of}
use Rattle.am_world.proofs.TickPlaces.{nobody, standing}
use Rattle.am_world.proofs.Turned.{whole_at}

-- ---- a function with another value at one place

pub put_here : {A : Type 0} (f : ℕ → A) (i : ℕ) (x : A) → put_at f i x i ≡ x
put_here f i x = let itself : nat_eq i i ≡ true = grind (arith, nat_tests) in rw itself refl

pub put_other : {A : Type 0} (f : ℕ → A) (i j : ℕ) (x : A) → nat_eq j i ≡ false → put_at f i x j ≡ f j
put_other f i j x apart = rw apart refl

-- ---- one instance more, or less, is up

-- of an instance that is another one
pub record StaysSo (j : ℕ) (xs ys : List Instance) : Type 0 where
  pub known : known_at j ys ≡ known_at j xs
  pub up : up_at j ys ≡ up_at j xs
  pub incarnation : incarnation_at j ys ≡ incarnation_at j xs

pub stays_so : (i : ℕ) (xs ys : List Instance) → SameElsewhere i xs ys → (j : ℕ) → (j == i) ≡ false
    → StaysSo j xs ys
unfolding known_at up_at incarnation_at
stays_so i xs ys others j apart = record {
  known = ap known_where (others j apart);
  up = ap up_where (others j apart);
  incarnation = ap incarnation_where (others j apart);
}

module _ (i : ℕ) (w w' : State) (x x' : Instance) (here : instance_at i w.instances ≡ Some x)
    (there : instance_at i w'.instances ≡ Some x') (first : w'.common.first ≡ w.common.first)
    (others : (j : ℕ) → (j == i) ≡ false → StaysSo j w.instances w'.instances) where
  known_put : (n : ℕ) → x'.known ≡ n → (j : ℕ)
      → known_at j w'.instances ≡ put_at (λ k. known_at k w.instances) i n j
  known_put n is =
      at_each (λ j. known_at j w'.instances ≡ put_at (λ k. known_at k w.instances) i n j) i
      (known_here i w'.instances x' there ∙ is ∙ sym (put_here (λ k. known_at k w.instances) i n))
      (λ j apart. (others j apart).known ∙ sym (put_other (λ k. known_at k w.instances) i j n apart))

  known_stays : x'.known ≡ x.known → (j : ℕ) → known_at j w'.instances ≡ known_at j w.instances
  known_stays same =
      at_each (λ j. known_at j w'.instances ≡ known_at j w.instances) i
      (known_here i w'.instances x' there ∙ same ∙ sym (known_here i w.instances x here))
      (λ j apart. (others j apart).known)

  up_put : (b : Bool) → x'.up ≡ b → (j : ℕ) → up_at j w'.instances ≡ put_at (λ k. up_at k w.instances) i b j
  up_put b is =
      at_each (λ j. up_at j w'.instances ≡ put_at (λ k. up_at k w.instances) i b j) i
      (up_here i w'.instances x' there ∙ is ∙ sym (put_here (λ k. up_at k w.instances) i b))
      (λ j apart. (others j apart).up ∙ sym (put_other (λ k. up_at k w.instances) i j b apart))

  up_stays : x'.up ≡ x.up → (j : ℕ) → up_at j w'.instances ≡ up_at j w.instances
  up_stays same =
      at_each (λ j. up_at j w'.instances ≡ up_at j w.instances) i
      (up_here i w'.instances x' there ∙ same ∙ sym (up_here i w.instances x here))
      (λ j apart. (others j apart).up)

  incarnation_stays : x'.incarnation ≡ x.incarnation → (j : ℕ)
      → incarnation_at j w'.instances ≡ incarnation_at j w.instances
  incarnation_stays same =
      at_each (λ j. incarnation_at j w'.instances ≡ incarnation_at j w.instances) i
      (incarnation_here i w'.instances x' there ∙ same ∙ sym (incarnation_here i w.instances x here))
      (λ j apart. (others j apart).incarnation)

  next_put : x'.incarnation ≡ x.incarnation + 1 → (j : ℕ) → incarnation_at j w'.instances
      ≡ put_at (λ k. incarnation_at k w.instances) i (incarnation_at i w.instances + 1) j
  next_put is =
      at_each (λ j. incarnation_at j w'.instances
      ≡ put_at (λ k. incarnation_at k w.instances) i (incarnation_at i w.instances + 1) j) i
      (incarnation_here i w'.instances x' there ∙ is
      ∙ ap (λ n. n + 1) (sym (incarnation_here i w.instances x here))
      ∙ sym (put_here (λ k. incarnation_at k w.instances) i (incarnation_at i w.instances + 1)))
      (λ j apart. (others j apart).incarnation
      ∙ sym (put_other (λ k. incarnation_at k w.instances) i j (incarnation_at i w.instances + 1) apart))

  -- it is opened in its next incarnation, and knows the newest of these rings
  pub opened_roster : (around : Circumstances) → IsSameNode (renewed around x) x' → x'.up ≡ true
      → (roster_of w').rings ≡ rings_on around
      → IsSameRoster (roster_of w') (with_opened_in (rings_on around) i (roster_of w))
  opened_roster around node up rings = record {
    rings = rings;
    known = known_put (newest_epoch (rings_on around)) node.known;
    up = up_put true up;
    incarnation = next_put node.incarnation;
    first = first;
  }

  -- it goes down, and these are the rings then
  pub down_roster : (rings : Rings) → IsSameNode x x' → x'.up ≡ false → (roster_of w').rings ≡ rings
      → IsSameRoster (roster_of w')
      (record (roster_of w) { rings = rings; up = put_at (λ k. up_at k w.instances) i false })
  down_roster rings node down same = record {
    rings = same;
    known = known_stays node.known;
    up = up_put false down;
    incarnation = incarnation_stays node.incarnation;
    first = first;
  }

  -- it goes by the next ring
  pub learned_roster : IsSameNode (learned x) x' → x'.up ≡ x.up → (roster_of w').rings ≡ (roster_of w).rings
      → IsSameRoster (roster_of w')
      (record (roster_of w) { known = put_at (λ k. known_at k w.instances) i (known_at i w.instances + 1) })
  learned_roster node up rings = record {
    rings = rings;
    known = known_put (known_at i w.instances + 1)
        (node.known ∙ ap (λ n. n + 1) (sym (known_here i w.instances x here)));
    up = up_stays up;
    incarnation = incarnation_stays node.incarnation;
    first = first;
  }

-- ---- one ring more

-- the instances of each
abbrev pub named_by : List Members → Rings
named_by rings = map (λ (ring : Members). ring.instances) rings

pub named_push : (rings : List Members) (ring : Members)
    → named_by (rings ++ ring ∷ []) ≡ named_by rings ++ ring.instances ∷ []
named_push rings ring = map-append (λ (r : Members). r.instances) rings (ring ∷ [])

last_at : (rings : Rings) (ring : List ℕ) → slice_get (rings ++ ring ∷ []) (length rings) ≡ Some ring
last_at [] ring = refl
last_at (r ∷ rings) ring = last_at rings ring

pub newest_push : (rings : Rings) (ring : List ℕ) → newest_ring (rings ++ ring ∷ []) ≡ ring
newest_push rings ring =
    let last : length (rings ++ ring ∷ []) - 1 ≡ length rings =
    omega (arith, length-append rings (ring ∷ [])) in
    ap (λ n. unwrap_or (slice_get (rings ++ ring ∷ []) n) []) last ∙ ap (λ o. unwrap_or o []) (last_at rings ring)

-- .. as it is read in its place
pub newest_read : (rings : List Members) (ring : Members) (n : ℕ) → 0 < length rings → n ≡ length rings
    → ring ≡ get_or rings (n - 1) ring → ring.instances ≡ newest_ring (named_by rings)
newest_read rings ring n some size found =
    sym (ap (λ k. unwrap_or (slice_get (named_by rings) (k - 1)) [])
    (length-map rings (λ (r : Members). r.instances) ∙ sym size)
    ∙ ap (λ o. unwrap_or o []) (slice_get-map (λ (r : Members). r.instances) rings (n - 1)
    ∙ ap (option_map (λ (r : Members). r.instances))
    (slice_get_read rings n (n - 1) ring size (omega (arith, some, size)) found)))

-- those so far stay what they are
get_before : (rings more : Rings) (n : ℕ) → n < length rings → slice_get (rings ++ more) n ≡ slice_get rings n
get_before [] more n less = absurd (omega (arith, less))
get_before (r ∷ rings) more zero less = refl
get_before (r ∷ rings) more (suc n) less = get_before rings more n (omega (arith, less))

ring_before : (rings more : Rings) (n : ℕ) → n < length rings → ring_at n (rings ++ more) ≡ ring_at n rings
ring_before rings more n less = ap (λ o. unwrap_or o []) (get_before rings more n less)

always_before : (f : List ℕ → List ℕ) (rings more : Rings) (n i : ℕ) → n < length rings
    → is_always_replica f n (rings ++ more) i ≡ is_always_replica f n rings i
unfolding is_always_replica
always_before f rings more n i less =
    ap (list_all (λ ring. is_among i (f ring))) (take-append-le (n + 1) rings more (omega (arith, less)))

-- what is so of an instance between calls is so where one ring more is there, which it doesn't know yet
module _ (a b : Circumstances) (x : Instance) (ring : Members) (rings : b.rings ≡ a.rings ++ ring ∷ [])
    (first : b.first ≡ a.first) where
  named : rings_on b ≡ rings_on a ++ ring.instances ∷ []
  named = ap named_by rings ∙ named_push a.rings ring

  more : length b.rings ≡ length a.rings + 1
  more = ap length rings ∙ length-append a.rings (ring ∷ [])

  module _ (known : x.known < length a.rings) where
    within : x.known < length (rings_on a)
    within = let size = length-map a.rings (λ (r : Members). r.instances) in omega (arith, size, known)

    three_still : (t : List ℕ) → three_on b x t ≡ three_on a x t
    unfolding three_on
    three_still t =
        ap (λ rs. replicas t (ring_at x.known rs)) named
        ∙ ap (replicas t) (ring_before (rings_on a) (ring.instances ∷ []) x.known within)

    stayed_still : (t : List ℕ) → has_stayed_on b x t ≡ has_stayed_on a x t
    unfolding has_stayed_on
    stayed_still t =
        ap (λ n. x.incarnation == n && is_always_replica (replicas t) x.known (rings_on b) x.number) first
        ∙ ap (λ rs. x.incarnation == a.first && is_always_replica (replicas t) x.known rs x.number) named
        ∙ ap (λ c. x.incarnation == a.first && c)
        (always_before (replicas t) (rings_on a) (ring.instances ∷ []) x.known x.number within)

  pub whole_more : IsWhole a x → IsWhole b x
  unfolding here_on
  whole_more whole = record {
    known = let was = whole.known in omega (arith, was, more);
    order = λ t. in_order_at (here_on a x t) (here_on b x t) x.site refl refl (three_still whole.known t)
        (stayed_still whole.known t) (whole.order t);
    timed = whole.timed;
    incarnation = whole.incarnation;
    noted = whole.noted;
    idle = λ t elsewhere.
        whole.idle t (ap (λ three. is_among x.number three) (sym (three_still whole.known t)) ∙ elsewhere);
  }

-- ---- a ring that has an instance more, or less

pub joined_itself : (i : ℕ) (ring : List ℕ) → is_instance i ≡ true → is_among i (with_instance i ring) ≡ true
unfolding with_instance
joined_itself i ring is =
    let itself : nat_eq i i ≡ true = grind (arith, nat_tests) in
    among-filter (λ j. i == j || is_among j ring) i all_instances ∙ rw itself (all_among i is)

pub joined_member : (i j : ℕ) (ring : List ℕ) → is_instance j ≡ true → is_among j ring ≡ true
    → is_among j (with_instance i ring) ≡ true
unfolding with_instance
joined_member i j ring is among =
    among-filter (λ k. i == k || is_among k ring) j all_instances
    ∙ rw (or_right (i == j) (is_among j ring) among) (all_among j is)

pub left_member : (i j : ℕ) (ring : List ℕ) → (j == i) ≡ false → is_among j ring ≡ true
    → is_among j (without i ring) ≡ true
left_member i j ring apart among =
    let other : nat_eq i j ≡ false = grind (arith, nat_tests) in
    among-filter (λ k. not (i == k)) j ring ∙ rw (other, among) refl

-- ---- the world with one ring more

-- with other rings, and nothing else
pub begun_with : (w : State) (common : Common) → common.limits ≡ w.common.limits
    → common.service_key ≡ w.common.service_key → common.first ≡ w.common.first
    → Begins w (record w { common = common })
begun_with w common limits service_key first = record {
  instances = refl;
  messages = refl;
  outputs = refl;
  faults = refl;
  clock = refl;
  limits = limits;
  service_key = service_key;
  first = first;
}

module _ (w begun : State) (begins : Begins w begun) (ring : Members)
    (rings : begun.common.rings.items ≡ w.common.rings.items ++ ring ∷ []) where
  pub rings_pushed : (roster_of begun).rings ≡ (roster_of w).rings ++ ring.instances ∷ []
  rings_pushed = ap named_by rings ∙ named_push w.common.rings.items ring

  pub newest_pushed : newest_in begun.common ≡ ring.instances
  newest_pushed = ap newest_ring rings_pushed ∙ newest_push (roster_of w).rings ring.instances

  module _ (was : IsConsistent w) where
    there_before : (j : ℕ) (x : Instance) → instance_at j begun.instances ≡ Some x → instance_at j w.instances ≡ Some x
    there_before j x found = sym (ap (instance_at j) begins.instances) ∙ found

    each_whole : EachIs (IsWhole (around_at begun.clock begun)) begun.instances
    each_whole j x found =
        whole_more (around_at w.clock w) (around_at begun.clock begun) x ring rings begins.first
        (was.whole j x (there_before j x found))

    -- where it has all that are up
    pub consistent_pushed : in_order ring.instances ≡ ring.instances → EachIs (IsMember ring.instances) w.instances
        → IsConsistent begun
    consistent_pushed order members = record {
      clock = subst (λ n. n ≤ last_moment) (sym begins.clock) was.clock;
      numbered = subst AreNumbered (sym begins.instances) was.numbered;
      whole = each_whole;
      quiet = λ j x found. was.quiet j x (there_before j x found);
      ring = subst IsRingInOrder (sym newest_pushed) order;
      members = λ j x found.
          subst (λ r. IsMember r x) (sym newest_pushed) (members j x (there_before j x found));
      filed = subst AreFiled (sym begins.messages) was.filed;
      past = λ name posted is x found.
          was.past name posted (sym (ap (posted_at name) begins.messages) ∙ is) x (there_before name.from x found);
      fresh = λ name posted is x found.
          was.fresh name posted (sym (ap (posted_at name) begins.messages) ∙ is) x (there_before name.from x found);
    }

    -- .. where it has all that are up but one
    pub but_pushed : (i : ℕ) → in_order ring.instances ≡ ring.instances
        → ((j : ℕ) → (j == i) ≡ false → At j (IsMember ring.instances) w.instances) → IsConsistentBut i begun
    but_pushed i order members = record {
      clock = subst (λ n. n ≤ last_moment) (sym begins.clock) was.clock;
      numbered = subst AreNumbered (sym begins.instances) was.numbered;
      whole = λ j apart. each_whole j;
      quiet = λ j apart x found. was.quiet j x (there_before j x found);
      known = λ x found. (each_whole i x found).known;
      ring = subst IsRingInOrder (sym newest_pushed) order;
      members = λ j apart x found.
          subst (λ r. IsMember r x) (sym newest_pushed) (members j apart x (there_before j x found));
      filed = subst AreFiled (sym begins.messages) was.filed;
      past = λ name posted apart is x found.
          was.past name posted (sym (ap (posted_at name) begins.messages) ∙ is) x (there_before name.from x found);
      fresh = λ name posted is x found.
          was.fresh name posted (sym (ap (posted_at name) begins.messages) ∙ is) x (there_before name.from x found);
    }

-- ---- .. by a join, or a leave

-- who is up has the number of an instance
pub up_instance : (w : State) (j : ℕ) (x : Instance) → AreNumbered w.instances → instance_at j w.instances ≡ Some x
    → is_instance j ≡ true
up_instance w j x numbered found = elim (cases_Bool (is_among j all_instances)) [
  | inl among ↦ among_all j among
  | inr apart ↦ let never : None ≡ Some x = sym (nobody j w.instances numbered apart) ∙ found in absurd (cc)
]

pub ring_joined : (w : State) (i : ℕ) → IsConsistent w → ring_event_refusal (Joins i) (roster_of w) ≡ None
    → in_order (with_instance i (newest_in w.common)) ≡ with_instance i (newest_in w.common)
unfolding roster_after
ring_joined w i was none =
    subst (λ r. in_order r ≡ r) (newest_push (roster_of w).rings (with_instance i (newest_in w.common)))
    (sym (in_order_after (roster_of w) (Joins i) (sym was.ring) none))

pub ring_left : (w : State) (i : ℕ) → IsConsistent w → ring_event_refusal (Leaves i) (roster_of w) ≡ None
    → in_order (without i (newest_in w.common)) ≡ without i (newest_in w.common)
unfolding roster_after
ring_left w i was none =
    subst (λ r. in_order r ≡ r) (newest_push (roster_of w).rings (without i (newest_in w.common)))
    (sym (in_order_after (roster_of w) (Leaves i) (sym was.ring) none))

pub members_joined : (w : State) (i : ℕ) → IsConsistent w
    → EachIs (IsMember (with_instance i (newest_in w.common))) w.instances
members_joined w i was j x found up =
    let number : x.number ≡ j = number_of j w.instances x found in
    joined_member i x.number (newest_in w.common)
    (ap is_instance number ∙ up_instance w j x was.numbered found) (was.members j x found up)

pub members_left : (w : State) (i : ℕ) → IsConsistent w → (j : ℕ) → (j == i) ≡ false
    → At j (IsMember (without i (newest_in w.common))) w.instances
members_left w i was j apart x found up =
    let number : x.number ≡ j = number_of j w.instances x found in
    left_member i x.number (newest_in w.common) (ap (λ k. k == i) number ∙ apart) (was.members j x found up)

-- ---- what a push says

pub pushed : {A X E : Type 0} (r : Result X E) (new a b : A) → new ≡ (if is_ok r then a else b) → is_err r ≡ false
    → new ≡ a
pushed (Ok x) new a b is ok = is
pushed (Err e) new a b is never = absurd (true≢false never)

pub unpushed : {A X E : Type 0} (r : Result X E) (new a b : A) → new ≡ (if is_ok r then a else b) → is_err r ≡ true
    → new ≡ b
unpushed (Ok x) new a b is never = absurd (true≢false (sym never))
unpushed (Err e) new a b is err = is

-- ---- where no memory was found for the ring

module _ (w w' : State) (instances : w'.instances ≡ w.instances) (messages : w'.messages ≡ w.messages)
    (clock : w'.clock ≡ w.clock) (first : w'.common.first ≡ w.common.first)
    (rings : w'.common.rings.items ≡ w.common.rings.items) where
  same_newest : newest_in w'.common ≡ newest_in w.common
  same_newest = ap (λ (rs : List Members). newest_ring (named_by rs)) rings

  before : (j : ℕ) (x : Instance) → instance_at j w'.instances ≡ Some x → instance_at j w.instances ≡ Some x
  before j x found = sym (ap (instance_at j) instances) ∙ found

  pub consistent_again : IsConsistent w → IsConsistent w'
  consistent_again was = record {
    clock = subst (λ n. n ≤ last_moment) (sym clock) was.clock;
    numbered = subst AreNumbered (sym instances) was.numbered;
    whole = λ j x found.
        whole_at (around_at w.clock w) (around_at w'.clock w') x rings first (was.whole j x (before j x found));
    quiet = λ j x found. was.quiet j x (before j x found);
    ring = subst IsRingInOrder (sym same_newest) was.ring;
    members = λ j x found. subst (λ r. IsMember r x) (sym same_newest) (was.members j x (before j x found));
    filed = subst AreFiled (sym messages) was.filed;
    past = λ name posted is x found.
        was.past name posted (sym (ap (posted_at name) messages) ∙ is) x (before name.from x found);
    fresh = λ name posted is x found.
        was.fresh name posted (sym (ap (posted_at name) messages) ∙ is) x (before name.from x found);
  }

-- there is one at least
pub rings_some : (w : State) → IsConsistent w → 0 < length w.common.rings.items
rings_some w was =
    let x = standing 1 w.instances was.numbered refl in
    let known : x.0.known < length w.common.rings.items = (was.whole 1 x.0 x.1).known in
    omega (arith, known)
