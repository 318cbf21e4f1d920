-- The instance of a number, by its place, and what one changed place makes of all.
use Rattle.std.proofs.Common.{◌≡◌, ◌∙◌, inl, inr, ℕ, ◌+◌, ◌==◌, ◌<◌, zero, suc, nat_eq, Bool, true, false, List, []}
use Rattle.std.proofs.Common.{◌∷◌, length, map, slice_set, find, Option, Some, None, IsSome, is_some}
use Rattle.std.proofs.Common.{◌≤◌, slice_get, slice_index_or, refl, sym, ap, subst, arith, if◌then◌else◌}
use Rattle.std.proofs.lemmas.Bool.{cases_Bool}
use Rattle.std.proofs.lemmas.Bool.Decides.{nat_tests}
use Rattle.std.proofs.lemmas.List.{length-map}
use Rattle.std.proofs.lemmas.Option.{slice_get_read}
use Rattle.am_ring.specs.Instances.{all_instances}
use Rattle.am_instance.specs.Instance.{bytes_in, reads}
use Rattle.am_instance.specs.declared.instance.Instance.{Instance}
use Rattle.am_world.specs.Places.{AreNumbered, At, ChangesAt, EachIs, SameElsewhere, Turns}
use Rattle.am_world.specs.Places.{instance_at, up_at}

-- ---- numbers that count on

abbrev NumberedFrom : ℕ → List Instance → Type 0
NumberedFrom n [] = Unit {0}
NumberedFrom n (x ∷ xs) = (x.number ≡ n) × NumberedFrom (suc n) xs

abbrev CountsFrom : ℕ → List ℕ → Type 0
CountsFrom n [] = Unit {0}
CountsFrom n (m ∷ ms) = (m ≡ n) × CountsFrom (suc n) ms

numbered-map : (n : ℕ) (xs : List Instance) (ns : List ℕ) → map (λ (x : Instance). x.number) xs ≡ ns → CountsFrom n ns
    → NumberedFrom n xs
numbered-map n [] ns e counts = tt
numbered-map n (x ∷ xs) [] e counts = absurd cc
numbered-map n (x ∷ xs) (m ∷ ms) e (first, rest) =
    let head : x.number ≡ m = cc in
    let tail : map (λ (y : Instance). y.number) xs ≡ ms = cc in
    (head ∙ first, numbered-map (suc n) xs ms tail rest)

numbered : (xs : List Instance) → AreNumbered xs → NumberedFrom 1 xs
numbered xs e =
    numbered-map 1 xs all_instances e (refl, (refl, (refl, (refl, (refl, (refl, (refl, (refl, tt))))))))

at_from : (n p : ℕ) (xs : List Instance) → NumberedFrom n xs
    → find (λ (x : Instance). x.number == n + p) xs ≡ slice_get xs p
at_from n p [] counts = refl
at_from n zero (x ∷ xs) (first, rest) =
    let test : nat_eq x.number (n + 0) ≡ true = grind (arith, nat_tests) in rw test refl
at_from n (suc p) (x ∷ xs) (first, rest) =
    let test : nat_eq x.number (n + suc p) ≡ false = grind (arith, nat_tests) in
    let next : n + suc p ≡ suc n + p = omega arith in
    rw test (ap (λ m. find (λ (y : Instance). y.number == m) xs) next ∙ at_from (suc n) p xs rest)

below : (n i : ℕ) (xs : List Instance) → NumberedFrom n xs → i < n → find (λ (x : Instance). x.number == i) xs ≡ None
below n i [] counts less = refl
below n i (x ∷ xs) (first, rest) less =
    let test : nat_eq x.number i ≡ false = grind (arith, nat_tests) in
    rw test (below (suc n) i xs rest (omega arith))

-- the instance of number p + 1 stands at place p
at_place : (xs : List Instance) (p : ℕ) → AreNumbered xs → instance_at (1 + p) xs ≡ slice_get xs p
unfolding instance_at
at_place xs p e = at_from 1 p xs (numbered xs e)

at_zero : (xs : List Instance) → AreNumbered xs → instance_at 0 xs ≡ None
unfolding instance_at
at_zero xs e = below 1 0 xs (numbered xs e) (omega arith)

pub eight : (xs : List Instance) → AreNumbered xs → length xs ≡ 8
eight xs e = sym (length-map xs (λ (x : Instance). x.number)) ∙ ap length e

-- what is read at a place is the instance of its number
pub here_at : (xs : List Instance) (p i : ℕ) (x : Instance) → AreNumbered xs → p + 1 ≡ i → p < 8
    → x ≡ slice_index_or xs p x → instance_at i xs ≡ Some x
here_at xs p i x e at less found =
    let place : i ≡ 1 + p = omega arith in
    let size = eight xs e in
    rw place (at_place xs p e ∙ slice_get_read xs (length xs) p x refl (omega arith) found)

-- an instance has the number by which it is found
pub number_of : (i : ℕ) (xs : List Instance) (x : Instance) → instance_at i xs ≡ Some x → x.number ≡ i
unfolding instance_at
number_of i [] x e = cc
number_of i (y ∷ xs) x e = elim (cases_Bool (nat_eq y.number i)) [
  | inl h ↦
      let same : y ≡ x = (let f = rw h at e in cc) in
      let number : y.number ≡ i = grind (arith, nat_tests) in
      ap (λ (z : Instance). z.number) (sym same) ∙ number
  | inr h ↦ number_of i xs x (rw h at e)
]

-- ---- one instance is changed in its place

same_step : (q p : ℕ) → nat_eq q p ≡ nat_eq (suc q) (suc p)
same_step q p = elim (cases_Bool (nat_eq q p)) [
  | inl e ↦ let next : nat_eq (suc q) (suc p) ≡ true = grind (arith, nat_tests) in e ∙ sym next
  | inr e ↦ let next : nat_eq (suc q) (suc p) ≡ false = grind (arith, nat_tests) in e ∙ sym next
]

pub set_get : {A : Type 0} (xs : List A) (p q : ℕ) (y : A) → p < length xs →
    slice_get (slice_set xs p y) q ≡ (if nat_eq q p then Some y else slice_get xs q)
set_get [] p q y less = absurd (omega arith)
set_get (x ∷ xs) zero zero y less = refl
set_get (x ∷ xs) zero (suc q) y less = let apart : nat_eq (suc q) 0 ≡ false = grind (arith, nat_tests) in rw apart refl
set_get (x ∷ xs) (suc p) zero y less = let apart : nat_eq 0 (suc p) ≡ false = grind (arith, nat_tests) in rw apart refl
set_get (x ∷ xs) (suc p) (suc q) y less =
    set_get xs p q y (omega arith) ∙ ap (λ b. if b then Some y else slice_get xs q) (same_step q p)

numbers_stay : (n p : ℕ) (xs : List Instance) (y : Instance) → NumberedFrom n xs → y.number ≡ n + p →
    map (λ (x : Instance). x.number) (slice_set xs p y) ≡ map (λ (x : Instance). x.number) xs
numbers_stay n p [] y counts own = refl
numbers_stay n zero (x ∷ xs) y (first, rest) own =
    let same : y.number ≡ x.number = omega arith in
    ap (λ m. m ∷ map (λ (z : Instance). z.number) xs) same
numbers_stay n (suc p) (x ∷ xs) y (first, rest) own =
    ap (λ ms. x.number ∷ ms) (numbers_stay (suc n) p xs y rest (omega arith))

others_stay : (xs : List Instance) (p j : ℕ) (y : Instance) → AreNumbered xs → AreNumbered (slice_set xs p y)
    → p < length xs → (j == 1 + p) ≡ false → instance_at j (slice_set xs p y) ≡ instance_at j xs
others_stay xs p zero y e f less other = at_zero (slice_set xs p y) f ∙ sym (at_zero xs e)
others_stay xs p (suc j) y e f less other =
    let apart : nat_eq j p ≡ false = grind (arith, nat_tests) in
    let number : suc j ≡ 1 + j = omega arith in
    rw number (at_place (slice_set xs p y) j f ∙ set_get xs p j y less ∙ rw apart (sym (at_place xs j e)))

-- eight instances of which the one of a number was x and is now y
pub record Changed (i : ℕ) (before after : List Instance) (x y : Instance) : Type 0 where
  pub here : instance_at i before ≡ Some x
  pub there : instance_at i after ≡ Some y
  pub at : ChangesAt i before after

changed_place : (xs : List Instance) (p : ℕ) (x y : Instance) → AreNumbered xs → p < length xs → y.number ≡ 1 + p
    → instance_at (1 + p) xs ≡ Some x → Changed (1 + p) xs (slice_set xs p y) x y
changed_place xs p x y e less own here =
    let same : nat_eq p p ≡ true = grind (arith, nat_tests) in
    let f : AreNumbered (slice_set xs p y) = numbers_stay 1 p xs y (numbered xs e) own ∙ e in
    record {
      here = here;
      there = at_place (slice_set xs p y) p f ∙ set_get xs p p y less ∙ rw same refl;
      at = record { numbered = f; others = λ j other. others_stay xs p j y e f less other };
    }

-- what is read at a place is changed there, and keeps its number
pub changed : (xs : List Instance) (p i : ℕ) (x y : Instance) → AreNumbered xs → p + 1 ≡ i → p < 8
    → x ≡ slice_index_or xs p x → y.number ≡ x.number → Changed i xs (slice_set xs p y) x y
changed xs p i x y e at less found keeps =
    let place : i ≡ 1 + p = omega arith in
    let size = eight xs e in
    let here = here_at xs p i x e at less found in
    rw place (changed_place xs p x y e (omega arith) (keeps ∙ number_of i xs x here ∙ place) (rw place at here))

-- ---- what is so of it

pub at_here : (Is : Instance → Type 0) (i : ℕ) (xs : List Instance) (x : Instance) → instance_at i xs ≡ Some x → Is x
    → At i Is xs
at_here Is i xs x here is a found = let same : x ≡ a = cc in subst Is same is

pub turns_here : (Are : Instance → Instance → Type 0) (i : ℕ) (xs ys : List Instance) (x y : Instance)
    → Changed i xs ys x y → Are x y → Turns i Are xs ys
turns_here Are i xs ys x y change are a b from to =
    let first : x ≡ a = cc in
    let next : y ≡ b = cc in
    subst (λ z. Are z b) first (subst (λ z. Are x z) next are)

-- what is so of it by two facts
pub turns_both : (A B : Instance → Instance → Type 0) (i : ℕ) (xs ys : List Instance) → Turns i A xs ys
    → Turns i B xs ys → Turns i (λ x y. A x y × B x y) xs ys
turns_both A B i xs ys first next x y from to = (first x y from to, next x y from to)

-- what is so of each instance with itself is so of all
pub turns_all : (Are : Instance → Instance → Type 0) (i : ℕ) (xs ys : List Instance) → ((x : Instance) → Are x x)
    → SameElsewhere i xs ys → Turns i Are xs ys → (j : ℕ) → Turns j Are xs ys
turns_all Are i xs ys alike others turns j x y from to = elim (cases_Bool (nat_eq j i)) [
  | inl h ↦
      let number : j ≡ i = grind (arith, nat_tests) in
      turns x y (ap (λ k. instance_at k xs) (sym number) ∙ from) (ap (λ k. instance_at k ys) (sym number) ∙ to)
  | inr h ↦
      let stays = others j h in
      let same : x ≡ y = cc in
      subst (Are x) same (alike x)
]

-- ---- each number has an instance still

some_of : {A : Type 0} (o : Option A) → IsSome o → (x : A) × (o ≡ Some x)
some_of None is = absurd cc
some_of (Some x) is = (x, refl)

is_found : {A : Type 0} (o : Option A) (x : A) → o ≡ Some x → IsSome o
is_found o x e = rw e refl

found_alike : (i : ℕ) (xs ys : List Instance)
    → map (λ (x : Instance). x.number) xs ≡ map (λ (x : Instance). x.number) ys
    → is_some (find (λ (x : Instance). x.number == i) xs) ≡ is_some (find (λ (x : Instance). x.number == i) ys)
found_alike i [] [] e = refl
found_alike i [] (y ∷ ys) e = absurd cc
found_alike i (x ∷ xs) [] e = absurd cc
found_alike i (x ∷ xs) (y ∷ ys) e =
    let head : x.number ≡ y.number = cc in
    let tail : map (λ (z : Instance). z.number) xs ≡ map (λ (z : Instance). z.number) ys = cc in
    elim (cases_Bool (nat_eq y.number i)) [
      | inl h ↦ rw (head, h) refl
      | inr h ↦ rw (head, h) (found_alike i xs ys tail)
    ]

pub exists_still : (i : ℕ) (xs ys : List Instance) → AreNumbered xs → AreNumbered ys → IsSome (instance_at i xs)
    → IsSome (instance_at i ys)
unfolding instance_at
exists_still i xs ys e f is = sym (found_alike i xs ys (e ∙ sym f)) ∙ is

still : (i : ℕ) (xs ys : List Instance) (x : Instance) → AreNumbered xs → AreNumbered ys → instance_at i xs ≡ Some x
    → (y : Instance) × (instance_at i ys ≡ Some y)
still i xs ys x e f from = some_of (instance_at i ys) (exists_still i xs ys e f (is_found (instance_at i xs) x from))

-- what is so after two changes
pub turns_then : (A B C : Instance → Instance → Type 0) (i : ℕ) (xs ys zs : List Instance) → AreNumbered xs
    → AreNumbered ys → ((x y z : Instance) → A x y → B y z → C x z) → Turns i A xs ys → Turns i B ys zs
    → Turns i C xs zs
turns_then A B C i xs ys zs e f joins first next x z from to =
    let mid = still i xs ys x e f from in
    joins x mid.0 z (first x mid.0 from mid.1) (next mid.0 z mid.1 to)

-- what is so of it afterwards
pub at_turned : (P : Instance → Type 0) (Are : Instance → Instance → Type 0) (Q : Instance → Type 0) (i : ℕ)
    (xs ys : List Instance) → AreNumbered xs → AreNumbered ys → ((x y : Instance) → P x → Are x y → Q y) → At i P xs
    → Turns i Are xs ys → At i Q ys
at_turned P Are Q i xs ys e f makes was turns y to =
    let before = still i ys xs y f e to in
    makes before.0 y (was before.0 before.1) (turns before.0 y before.1 to)

pub at_elsewhere : (P : Instance → Type 0) (i j : ℕ) (xs ys : List Instance) → SameElsewhere i xs ys → (j == i) ≡ false
    → At j P xs → At j P ys
at_elsewhere P i j xs ys others apart was y to = was y (sym (others j apart) ∙ to)

-- ---- who reads a connection

passes : (p : Instance → Bool) (xs : List Instance) (x : Instance) → find p xs ≡ Some x → p x ≡ true
passes p [] x found = cc
passes p (y ∷ xs) x found = elim (cases_Bool (p y)) [
  | inl h ↦ let e = rw h at found in let same : y ≡ x = cc in ap p (sym same) ∙ h
  | inr h ↦ passes p xs x (rw h at found)
]

passed_over : (p q : Instance → Bool) (xs : List Instance) (x : Instance) → find p xs ≡ None → find q xs ≡ Some x
    → p x ≡ false
passed_over p q [] x none found = cc
passed_over p q (y ∷ xs) x none found = elim (cases_Bool (p y)) [
  | inl h ↦ let never = rw h at none in cc
  | inr h ↦ elim (cases_Bool (q y)) [
    | inl k ↦ let e = rw k at found in let same : y ≡ x = cc in ap p (sym same) ∙ h
    | inr k ↦ passed_over p q xs x (rw h at none) (rw k at found)
  ]
]

found_above : (n : ℕ) (p : Instance → Bool) (xs : List Instance) (x : Instance) → NumberedFrom n xs → find p xs ≡ Some x
    → n ≤ x.number
found_above n p [] x counts found = absurd cc
found_above n p (y ∷ xs) x (first, rest) found = elim (cases_Bool (p y)) [
  | inl h ↦
      let e = rw h at found in
      let same : y ≡ x = cc in
      let number : x.number ≡ n = ap (λ (z : Instance). z.number) (sym same) ∙ first in omega arith
  | inr h ↦ let above = found_above (suc n) p xs x rest (rw h at found) in omega arith
]

found_itself : (n : ℕ) (p : Instance → Bool) (xs : List Instance) (x : Instance) → NumberedFrom n xs
    → find p xs ≡ Some x → find (λ (z : Instance). z.number == x.number) xs ≡ Some x
found_itself n p [] x counts found = absurd cc
found_itself n p (y ∷ xs) x (first, rest) found = elim (cases_Bool (p y)) [
  | inl h ↦
      let e = rw h at found in
      let same : y ≡ x = cc in
      let number : y.number ≡ x.number = ap (λ (z : Instance). z.number) same in
      let test : nat_eq y.number x.number ≡ true = grind (arith, nat_tests) in
      rw test (ap Some same)
  | inr h ↦
      let above = found_above (suc n) p xs x rest (rw h at found) in
      let test : nat_eq y.number x.number ≡ false = grind (arith, nat_tests) in
      rw test (found_itself (suc n) p xs x rest (rw h at found))
]

bytes_none : (o : Option (List ℕ)) → is_some o ≡ false → o ≡ None
bytes_none None e = refl
bytes_none (Some bytes) e = cc

-- the reader that is found is the instance of its number
pub reader_here : (c : ℕ) (xs : List Instance) (x : Instance) → AreNumbered xs → find (reads c) xs ≡ Some x
    → instance_at x.number xs ≡ Some x
unfolding instance_at
reader_here c xs x e found = found_itself 1 (reads c) xs x (numbered xs e) found

-- .. and reads
pub reader_reads : (c : ℕ) (xs : List Instance) (x : Instance) → find (reads c) xs ≡ Some x → IsSome (bytes_in c x)
reader_reads c xs x found = passes (reads c) xs x found

-- where no instance is found that reads a connection, none does
pub nobody_reads : (c : ℕ) (xs : List Instance) → find (reads c) xs ≡ None → EachIs (λ x. bytes_in c x ≡ None) xs
unfolding instance_at
nobody_reads c xs none i x found =
    bytes_none (bytes_in c x) (passed_over (reads c) (λ (z : Instance). z.number == i) xs x none found)

pub exists_here : (i : ℕ) (xs : List Instance) (x : Instance) → instance_at i xs ≡ Some x → IsSome (instance_at i xs)
exists_here i xs x here = is_found (instance_at i xs) x here

pub up_nowhere : (i : ℕ) (xs : List Instance) → instance_at i xs ≡ None → up_at i xs ≡ false
unfolding up_at
up_nowhere i xs none = rw none refl
