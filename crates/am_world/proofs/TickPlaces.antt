-- Where instances stand, by number, and what is the same of all where it is of each.
use Rattle.std.proofs.Common.{◌≡◌, ◌∙◌, inl, inr, ℕ, ◌+◌, ◌<◌, ◌≤◌, nat_eq, suc, true, false, is_some, subst, List, []}
use Rattle.std.proofs.Common.{◌∷◌, length, map, Option, None, Some, refl, sym, ap, arith}
use Rattle.std.proofs.lemmas.Bool.{cases_Bool, false≢true}
use Rattle.std.proofs.lemmas.Bool.Decides.{nat_tests}
use Rattle.am_ring.specs.Instances.{all_instances, is_among}
use Rattle.am_instance.specs.declared.instance.Instance.{Instance}
use Rattle.am_world.specs.Consistent.{around, around_at}
use Rattle.am_world.specs.Places.{AreNumbered, SameElsewhere, Turns, incarnation_at, incarnations_of, instance_at}
use Rattle.am_world.specs.Simulation.{IsSameBeside}
use Rattle.am_world.specs.declared.common.Common.{Common}
use Rattle.am_world.specs.declared.state.State.{State}
use Rattle.am_world.proofs.AlonePlaces.{incarnations_are, map_alike}

-- ---- numbers one after the other

abbrev pub CountsFrom : ℕ → List ℕ → Type 0
CountsFrom n [] = Unit {0}
CountsFrom n (m ∷ ms) = (m ≡ n) × CountsFrom (suc n) ms

pub all_counted : CountsFrom 1 all_instances
all_counted = (refl, (refl, (refl, (refl, (refl, (refl, (refl, (refl, tt))))))))

pub not_later : (n i : ℕ) (ns : List ℕ) → CountsFrom n ns → i < n → is_among i ns ≡ false
not_later n i [] counts less = refl
not_later n i (m ∷ ns) (first, rest) less =
    let apart : nat_eq i m ≡ false = grind (arith, nat_tests) in
    rw apart (not_later (suc n) i ns rest (omega arith))

pub not_past : (n i : ℕ) (ns : List ℕ) → CountsFrom n ns → n + length ns ≤ i → is_among i ns ≡ false
not_past n i [] counts past = refl
not_past n i (m ∷ ns) (first, rest) past =
    let apart : nat_eq i m ≡ false = differs (omega (arith, past, first)) in
    rw apart (not_past (suc n) i ns rest (omega (arith, past)))
  where
    differs : m < i → nat_eq i m ≡ false
    differs less = grind (arith, nat_tests)

-- ---- who stands under a number

some_among : (i : ℕ) (xs : List Instance)
    → is_some (instance_at i xs) ≡ is_among i (map (λ (x : Instance). x.number) xs)
unfolding instance_at
some_among i [] = refl
some_among i (x ∷ xs) = elim (cases_Bool (nat_eq x.number i)) [
  | inl h ↦ let same : nat_eq i x.number ≡ true = grind (arith, nat_tests) in rw (h, same) refl
  | inr h ↦ let apart : nat_eq i x.number ≡ false = grind (arith, nat_tests) in rw (h, apart) (some_among i xs)
]

some_there : (o : Option Instance) → is_some o ≡ true → (x : Instance) × (o ≡ Some x)
some_there None e = absurd (false≢true e)
some_there (Some x) e = (x, refl)

none_there : (o : Option Instance) → is_some o ≡ false → o ≡ None
none_there None e = refl
none_there (Some x) e = absurd cc

pub standing : (i : ℕ) (xs : List Instance) → AreNumbered xs → is_among i all_instances ≡ true
    → (x : Instance) × (instance_at i xs ≡ Some x)
standing i xs numbered among = some_there (instance_at i xs) (some_among i xs ∙ ap (is_among i) numbered ∙ among)

pub nobody : (i : ℕ) (xs : List Instance) → AreNumbered xs → is_among i all_instances ≡ false
    → instance_at i xs ≡ None
nobody i xs numbered apart = none_there (instance_at i xs) (some_among i xs ∙ ap (is_among i) numbered ∙ apart)

-- ---- the same everywhere

pub turns_same : (i : ℕ) (Are : Instance → Instance → Type 0) (xs xs' ys ys' : List Instance)
    → instance_at i xs' ≡ instance_at i xs → instance_at i ys' ≡ instance_at i ys → Turns i Are xs ys
    → Turns i Are xs' ys'
turns_same i Are xs xs' ys ys' first last turns x x' before after = turns x x' (sym first ∙ before) (sym last ∙ after)

-- what is the same at one place and all others is the same everywhere
pub everywhere : {A : Type 0} (f : Option Instance → A) (n : ℕ) (xs ys : List Instance)
    → f (instance_at n ys) ≡ f (instance_at n xs) → SameElsewhere n xs ys
    → (i : ℕ) → f (instance_at i ys) ≡ f (instance_at i xs)
everywhere f n xs ys here others i = elim (cases_Bool (nat_eq i n)) [
  | inl h ↦ let number : i ≡ n = grind (arith, nat_tests) in
      ap (λ k. f (instance_at k ys)) number ∙ here ∙ ap (λ k. f (instance_at k xs)) (sym number)
  | inr h ↦ ap f (others i h)
]

-- what is so of an instance then and now, and of what stays, is so at each number
pub at_each_place : (P : Option Instance → Option Instance → Type 0) (i : ℕ) (xs ys : List Instance) → AreNumbered xs
    → AreNumbered ys → (is_among i all_instances ≡ false → instance_at i ys ≡ instance_at i xs)
    → ((o : Option Instance) → P o o)
    → (is_among i all_instances ≡ true → (x y : Instance) → instance_at i xs ≡ Some x → instance_at i ys ≡ Some y
    → P (Some x) (Some y)) → P (instance_at i xs) (instance_at i ys)
at_each_place P i xs ys numbered also others same changed = elim (cases_Bool (is_among i all_instances)) [
  | inl among ↦
      let x = standing i xs numbered among in
      let y = standing i ys also among in
      subst (λ o. P o (instance_at i ys)) (sym x.1)
      (subst (P (Some x.0)) (sym y.1) (changed among x.0 y.0 x.1 y.1))
  | inr apart ↦ subst (P (instance_at i xs)) (sym (others apart)) (same (instance_at i xs))
]

-- ---- the incarnations of all

pub incarnations_same : (xs ys : List Instance) → AreNumbered xs → AreNumbered ys
    → ((i : ℕ) → incarnation_at i ys ≡ incarnation_at i xs) → incarnations_of ys ≡ incarnations_of xs
incarnations_same xs ys numbered also same =
    incarnations_are ys also
    ∙ map_alike (λ i. incarnation_at i ys) (λ i. incarnation_at i xs) all_instances same
    ∙ sym (incarnations_are xs numbered)

-- ---- what is so of all tenants

pub around_same : (w w' : State) → IsSameBeside w w' → incarnations_of w'.instances ≡ incarnations_of w.instances
    → around_at w'.clock w' ≡ around_at w.clock w
around_same w w' beside incarnations =
    ap (λ m. around m w'.common (incarnations_of w'.instances)) beside.clock
    ∙ ap (λ (c : Common). around w.clock c (incarnations_of w'.instances)) beside.common
    ∙ ap (around w.clock w.common) incarnations
