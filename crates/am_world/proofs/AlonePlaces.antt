-- What stands at the place of an instance, and what the roster and the incarnations of a world are where one instance
-- did something.
use Rattle.std.proofs.Common.{◌≡◌, ◌∙◌, inl, inr, ℕ, nat_eq, not, Bool, true, false, List, [], ◌∷◌, map}
use Rattle.std.proofs.Common.{Option, None, Some, refl, sym, ap, arith}
use Rattle.std.specs.Prelude.{◌==◌}
use Rattle.std.specs.List.{list_any}
use Rattle.std.proofs.lemmas.Bool.{and_parts, cases_Bool, or_parts}
use Rattle.std.proofs.lemmas.Bool.Decides.{nat_tests}
use Rattle.am_cluster.specs.Roster.{IsSameRoster, Roster}
use Rattle.am_ring.specs.Instances.{all_differ, all_instances}
use Rattle.am_instance.specs.Instance.{IsSameNode, bytes_in, local_in, refused_in}
use Rattle.am_instance.specs.declared.instance.Instance.{Instance}
use Rattle.am_world.specs.Places.{AreNumbered, SameElsewhere, bytes_at, bytes_where, incarnation_at}
use Rattle.am_world.specs.Places.{incarnation_where, incarnations_of, instance_at, known_at, known_where, local_at}
use Rattle.am_world.specs.Places.{local_where, refused_at, refused_where, up_at, up_where}
use Rattle.am_world.specs.Simulation.{IsSameBeside, roster_of}
use Rattle.am_world.specs.declared.state.State.{State}

-- ---- one instance by its number

-- where all have the same numbers, one is found where the other is
found_by : (i : ℕ) (xs ys : List Instance) (x : Instance)
    → map (λ (z : Instance). z.number) xs ≡ map (λ (z : Instance). z.number) ys → instance_at i xs ≡ Some x
    → (y : Instance) × (instance_at i ys ≡ Some y)
unfolding instance_at
found_by i [] ys x e here = absurd cc
found_by i (z ∷ xs) [] x e here = absurd cc
found_by i (z ∷ xs) (u ∷ ys) x e here =
    let head : z.number ≡ u.number = cc in
    let tail : map (λ (v : Instance). v.number) xs ≡ map (λ (v : Instance). v.number) ys = cc in
    elim (cases_Bool (nat_eq u.number i)) [
      | inl h ↦ (u, rw h refl)
      | inr h ↦
          let other : nat_eq z.number i ≡ false = rw head h in
          let more = found_by i xs ys x tail (rw other at here) in
          (more.0, rw h more.1)
    ]

pub exists_then : (i : ℕ) (xs ys : List Instance) (x : Instance) → AreNumbered xs → AreNumbered ys
    → instance_at i xs ≡ Some x → (y : Instance) × (instance_at i ys ≡ Some y)
exists_then i xs ys x e d here = found_by i xs ys x (e ∙ sym d) here

-- ---- what is known at a place

pub up_here : (i : ℕ) (xs : List Instance) (x : Instance) → instance_at i xs ≡ Some x → up_at i xs ≡ x.up
unfolding up_at
up_here i xs x e = rw e refl

-- one that is up is there
pub up_there : (i : ℕ) (xs : List Instance) → up_at i xs ≡ true
    → (x : Instance) × (instance_at i xs ≡ Some x) × (x.up ≡ true)
unfolding up_at
up_there i xs up = by_place (instance_at i xs) refl up
  where
    by_place : (o : Option Instance) → instance_at i xs ≡ o → up_where o ≡ true
        → (x : Instance) × (instance_at i xs ≡ Some x) × (x.up ≡ true)
    by_place None e never = absurd cc
    by_place (Some x) e is = (x, e, is)

pub incarnation_here : (i : ℕ) (xs : List Instance) (x : Instance) → instance_at i xs ≡ Some x
    → incarnation_at i xs ≡ x.incarnation
unfolding incarnation_at
incarnation_here i xs x e = rw e refl

pub known_here : (i : ℕ) (xs : List Instance) (x : Instance) → instance_at i xs ≡ Some x → known_at i xs ≡ x.known
unfolding known_at
known_here i xs x e = rw e refl

pub local_here : (t : List ℕ) (i : ℕ) (xs : List Instance) (x : Instance) → instance_at i xs ≡ Some x
    → local_at t i xs ≡ local_in t x
unfolding local_at
local_here t i xs x e = rw e refl

pub bytes_here : (c i : ℕ) (xs : List Instance) (x : Instance) → instance_at i xs ≡ Some x
    → bytes_at c i xs ≡ bytes_in c x
unfolding bytes_at
bytes_here c i xs x e = rw e refl

pub refused_here : (i : ℕ) (xs : List Instance) (x : Instance) → instance_at i xs ≡ Some x
    → refused_at i xs ≡ refused_in x
unfolding refused_at
refused_here i xs x e = rw e refl

-- ---- .. where all others are as they were

-- a fact of each place is one of that of the instance, and of those of the others
pub at_each : (P : ℕ → Type 0) (i : ℕ) → P i → ((j : ℕ) → nat_eq j i ≡ false → P j) → (j : ℕ) → P j
at_each P i here others j = elim (cases_Bool (nat_eq j i)) [
  | inl h ↦ let number : j ≡ i = grind (arith, nat_tests) in rw number here
  | inr h ↦ others j h
]

pub locals_then : (t : List ℕ) (i : ℕ) (xs ys : List Instance) → local_at t i ys ≡ local_at t i xs
    → SameElsewhere i xs ys → (j : ℕ) → local_at t j ys ≡ local_at t j xs
unfolding local_at
locals_then t i xs ys here others =
    at_each (λ j. local_at t j ys ≡ local_at t j xs) i here (λ j h. ap (local_where t) (others j h))

pub local_other : (t : List ℕ) (i j : ℕ) (xs ys : List Instance) → SameElsewhere i xs ys → nat_eq j i ≡ false
    → local_at t j ys ≡ local_at t j xs
unfolding local_at
local_other t i j xs ys others h = ap (local_where t) (others j h)

pub bytes_other : (c i j : ℕ) (xs ys : List Instance) → SameElsewhere i xs ys → nat_eq j i ≡ false
    → bytes_at c j ys ≡ bytes_at c j xs
unfolding bytes_at
bytes_other c i j xs ys others h = ap (bytes_where c) (others j h)

pub refused_other : (i j : ℕ) (xs ys : List Instance) → SameElsewhere i xs ys → nat_eq j i ≡ false
    → refused_at j ys ≡ refused_at j xs
unfolding refused_at
refused_other i j xs ys others h = ap refused_where (others j h)

pub refused_then : (i : ℕ) (xs ys : List Instance) → refused_at i ys ≡ refused_at i xs → SameElsewhere i xs ys
    → (j : ℕ) → refused_at j ys ≡ refused_at j xs
unfolding refused_at
refused_then i xs ys here others =
    at_each (λ j. refused_at j ys ≡ refused_at j xs) i here (λ j h. ap refused_where (others j h))

up_other : (i j : ℕ) (xs ys : List Instance) → SameElsewhere i xs ys → nat_eq j i ≡ false → up_at j ys ≡ up_at j xs
unfolding up_at
up_other i j xs ys others h = ap up_where (others j h)

incarnation_other : (i j : ℕ) (xs ys : List Instance) → SameElsewhere i xs ys → nat_eq j i ≡ false
    → incarnation_at j ys ≡ incarnation_at j xs
unfolding incarnation_at
incarnation_other i j xs ys others h = ap incarnation_where (others j h)

known_other : (i j : ℕ) (xs ys : List Instance) → SameElsewhere i xs ys → nat_eq j i ≡ false
    → known_at j ys ≡ known_at j xs
unfolding known_at
known_other i j xs ys others h = ap known_where (others j h)

-- ---- rosters

pub same_again : (r : Roster) → IsSameRoster r r
same_again r = record { rings = refl; known = λ i. refl; up = λ i. refl; incarnation = λ i. refl; first = refl }

pub roster_then : (a b c : Roster) → IsSameRoster a b → IsSameRoster b c → IsSameRoster a c
roster_then a b c first next = record {
  rings = first.rings ∙ next.rings;
  known = λ i. first.known i ∙ next.known i;
  up = λ i. first.up i ∙ next.up i;
  incarnation = λ i. first.incarnation i ∙ next.incarnation i;
  first = first.first ∙ next.first;
}

-- one instance did something, and is up as it was
pub roster_stays : (i : ℕ) (w w' : State) (x x' : Instance) → instance_at i w.instances ≡ Some x
    → instance_at i w'.instances ≡ Some x' → IsSameNode x x' → x'.up ≡ x.up
    → SameElsewhere i w.instances w'.instances → IsSameBeside w w' → IsSameRoster (roster_of w') (roster_of w)
roster_stays i w w' x x' here there node up others beside = record {
  rings = ap (λ common. (roster_of (record w { common = common })).rings) beside.common;
  known = at_each (λ j. known_at j w'.instances ≡ known_at j w.instances) i
      (known_here i w'.instances x' there ∙ node.known ∙ sym (known_here i w.instances x here))
      (λ j h. known_other i j w.instances w'.instances others h);
  up = at_each (λ j. up_at j w'.instances ≡ up_at j w.instances) i
      (up_here i w'.instances x' there ∙ up ∙ sym (up_here i w.instances x here))
      (λ j h. up_other i j w.instances w'.instances others h);
  incarnation = at_each (λ j. incarnation_at j w'.instances ≡ incarnation_at j w.instances) i
      (incarnation_here i w'.instances x' there ∙ node.incarnation ∙ sym (incarnation_here i w.instances x here))
      (λ j h. incarnation_other i j w.instances w'.instances others h);
  first = ap (λ common. (roster_of (record w { common = common })).first) beside.common;
}

-- ---- incarnations in order of number

not_true : (b : Bool) → not b ≡ true → b ≡ false
not_true true e = sym e
not_true false e = refl

-- an instance in front changes nothing for others
skipped : (y : Instance) (ys : List Instance) (js : List ℕ) → list_any (λ j. y.number == j) js ≡ false
    → map (λ j. incarnation_at j ys) js ≡ map (λ j. incarnation_at j (y ∷ ys)) js
unfolding incarnation_at instance_at
skipped y ys [] e = refl
skipped y ys (j ∷ js) e =
    let parts = or_parts (y.number == j) (list_any (λ k. y.number == k) js) e in
    let head : incarnation_at j ys ≡ incarnation_at j (y ∷ ys) = rw parts.0 refl in
    ap (λ k. k ∷ map (λ l. incarnation_at l ys) js) head
    ∙ ap (λ ks. incarnation_at j (y ∷ ys) ∷ ks) (skipped y ys js parts.1)

itself : (n : ℕ) → nat_eq n n ≡ true
itself n = grind (arith, nat_tests)

first_here : (y : Instance) (ys : List Instance) → y.incarnation ≡ incarnation_at y.number (y ∷ ys)
unfolding incarnation_at instance_at
first_here y ys = rw (itself y.number) refl

each_incarnation : (xs : List Instance) → all_differ (map (λ (z : Instance). z.number) xs) ≡ true
    → incarnations_of xs ≡ map (λ j. incarnation_at j xs) (map (λ (z : Instance). z.number) xs)
each_incarnation [] e = refl
each_incarnation (y ∷ ys) e =
    let numbers : List ℕ = map (λ (z : Instance). z.number) ys in
    let parts = and_parts (not (list_any (λ j. y.number == j) numbers)) (all_differ numbers) e in
    ap (λ k. k ∷ incarnations_of ys) (first_here y ys)
    ∙ ap (λ ks. incarnation_at y.number (y ∷ ys) ∷ ks)
    (each_incarnation ys parts.1 ∙ skipped y ys numbers (not_true (list_any (λ j. y.number == j) numbers) parts.0))

-- .. are those of all eight
pub incarnations_are : (xs : List Instance) → AreNumbered xs
    → incarnations_of xs ≡ map (λ j. incarnation_at j xs) all_instances
incarnations_are xs e =
    each_incarnation xs (ap all_differ e) ∙ ap (λ numbers. map (λ j. incarnation_at j xs) numbers) e

pub map_alike : {A B : Type 0} (f g : A → B) (xs : List A) → ((x : A) → f x ≡ g x) → map f xs ≡ map g xs
map_alike f g [] e = refl
map_alike f g (x ∷ xs) e = ap (λ y. y ∷ map f xs) (e x) ∙ ap (λ ys. g x ∷ ys) (map_alike f g xs e)
