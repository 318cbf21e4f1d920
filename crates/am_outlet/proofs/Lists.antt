-- Attempts in order of their numbers: what stands there and what a look-up gives.
use Rattle.std.proofs.Common.{◌≡◌, ◌<◌, ℕ, Bool, true, false, ◌==◌, not, cond, List, [], ◌∷◌, ◌++◌, Option, Some, None, Less, Greater, refl, sym, ap, ◌∙◌, subst, arith, find}
use Rattle.std.specs.BTreeMap.{insert_entry, is_at}
use Rattle.std.specs.Cmp.{Equal-is}
use Rattle.std.specs.List.{AllByRecursion, filter}
use Rattle.std.specs.List.Sorted.{IsStrictlySortedBy}
use Rattle.std.specs.Map.{keys_of, remove_entry, set_value}
use Rattle.std.specs.Option.{option_map}
use Rattle.std.specs.Ordering.{is_eq, match_ordering, nat_cmp}
use Rattle.std.proofs.lemmas.Bool.Decides.{nat_tests}
use Rattle.std.proofs.lemmas.Cmp.{nat_cmp_total, tied_itself}
use Rattle.std.proofs.lemmas.Map.Lookups.{exact_unsigned}
use Rattle.am_outlet.specs.declared.attempt.Attempt.{Attempt}
use Rattle.am_outlet.specs.Attempts.{attempt_at, tried, with_tries, without_number}

-- whether two numbers are the same, in either form
pub same_number : (n m : ℕ) → is_eq (nat_cmp n m) ≡ (n == m)
same_number n m = grind (arith, nat_tests)

pub eq_numbers : (n m : ℕ) → is_eq (nat_cmp n m) ≡ true → n ≡ m
eq_numbers n m h = exact_unsigned n m ((Equal-is (nat_cmp n m)).0 h)

pub number_itself : (n : ℕ) → is_eq (nat_cmp n n) ≡ true
number_itself n = ap is_eq (tied_itself nat_cmp_total n)

-- the first has this number, so no other has
abbrev AllAbove : ℕ → List (ℕ × Attempt) → Type 0
AllAbove n es = AllByRecursion (λ m. nat_cmp n m ≡ Less) (keys_of es)

other_above : (n m : ℕ) → nat_cmp n m ≡ Less → (n == m) ≡ false
other_above n m h = sym (same_number n m) ∙ ap is_eq h

all_pass : (n : ℕ) (es : List (ℕ × Attempt)) → AllAbove n es → without_number n es ≡ es
all_pass n [] all = refl
all_pass n (e ∷ es) all = rw (other_above n e.0 all.0) (ap (λ zs. e ∷ zs) (all_pass n es all.1))

none_changes : (n tries : ℕ) (again : Option ℕ) (es : List (ℕ × Attempt)) → AllAbove n es → with_tries n tries again es ≡ es
none_changes n tries again [] all = refl
none_changes n tries again (e ∷ es) all = rw (other_above n e.0 all.0) (ap (λ zs. e ∷ zs) (none_changes n tries again es all.1))

none_found : (n : ℕ) (es : List (ℕ × Attempt)) → AllAbove n es → attempt_at n es ≡ None
none_found n [] all = refl
none_found n (e ∷ es) all = rw all.0 (none_found n es all.1)

-- ---- the map's words and the list's

pub removed : (n : ℕ) (es : List (ℕ × Attempt)) → IsStrictlySortedBy nat_cmp (keys_of es) → remove_entry (is_at (nat_cmp n)) es ≡ without_number n es
unfolding IsStrictlySortedBy
removed n [] up = refl
removed n (e ∷ es) up = by_cases (n == e.0) refl (removed n es up.1)
  where
    by_cases : (b : Bool) → (n == e.0) ≡ b → remove_entry (is_at (nat_cmp n)) es ≡ without_number n es → remove_entry (is_at (nat_cmp n)) (e ∷ es) ≡ without_number n (e ∷ es)
    by_cases true h rest =
        let is = same_number n e.0 ∙ h in
        rw (is, h) (sym (all_pass n es (subst (λ m. AllAbove m es) (sym (eq_numbers n e.0 is)) up.0)))
    by_cases false h rest = rw (same_number n e.0 ∙ h, h) (ap (λ zs. e ∷ zs) rest)

pub written : (n tries : ℕ) (again : Option ℕ) (a : Attempt) (es : List (ℕ × Attempt)) → IsStrictlySortedBy nat_cmp (keys_of es) → attempt_at n es ≡ Some a
    → set_value (is_at (nat_cmp n)) es (tried tries again a) ≡ with_tries n tries again es
unfolding IsStrictlySortedBy
written n tries again a [] up at = refl
written n tries again a (e ∷ es) up at = by_cases (n == e.0) refl (written n tries again a es up.1)
  where
    by_cases : (b : Bool) → (n == e.0) ≡ b → (attempt_at n es ≡ Some a → set_value (is_at (nat_cmp n)) es (tried tries again a) ≡ with_tries n tries again es)
        → set_value (is_at (nat_cmp n)) (e ∷ es) (tried tries again a) ≡ with_tries n tries again (e ∷ es)
    by_cases true h rest =
        let is = same_number n e.0 ∙ h in
        let found : Some e.1 ≡ Some a = rw is at at in
        let one : e.1 ≡ a = cc in
        rw (is, h) (ap (λ (b : Attempt). (e.0, tried tries again b) ∷ es) (sym one)
        ∙ ap (λ zs. (e.0, tried tries again e.1) ∷ zs) (sym (none_changes n tries again es (subst (λ m. AllAbove m es) (sym (eq_numbers n e.0 is)) up.0))))
    by_cases false h rest =
        let is = same_number n e.0 ∙ h in
        let found : attempt_at n es ≡ Some a = rw is at at in
        rw (is, h) (ap (λ zs. e ∷ zs) (rest found))

-- ---- look-ups

-- what stands behind the first is found too
found_later : (n : ℕ) (a : Attempt) (e : ℕ × Attempt) (es : List (ℕ × Attempt)) → AllAbove e.0 es → attempt_at n es ≡ Some a → attempt_at n (e ∷ es) ≡ Some a
found_later n a e es above at = by_cases (is_eq (nat_cmp n e.0)) refl
  where
    by_cases : (b : Bool) → is_eq (nat_cmp n e.0) ≡ b → attempt_at n (e ∷ es) ≡ Some a
    by_cases true h =
        let none : attempt_at n es ≡ None = none_found n es (subst (λ m. AllAbove m es) (sym (eq_numbers n e.0 h)) above) in
        absurd (clash (attempt_at n es) none at)
      where
        clash : (o : Option Attempt) → o ≡ None → o ≡ Some a → ⊥
        clash o none some = cc
    by_cases false h = rw h at

found_first : (e : ℕ × Attempt) (es : List (ℕ × Attempt)) → attempt_at e.0 (e ∷ es) ≡ Some e.1
found_first e es = rw (number_itself e.0) refl

-- two tests that agree on what a look-up finds leave the same
pub agree : (p q : ℕ × Attempt → Bool) (es : List (ℕ × Attempt)) → IsStrictlySortedBy nat_cmp (keys_of es) → ((n : ℕ) (a : Attempt) → attempt_at n es ≡ Some a → p (n, a) ≡ q (n, a)) → filter p es ≡ filter q es
unfolding IsStrictlySortedBy
agree p q [] up h = refl
agree p q (e ∷ es) up h =
    ap (λ b. cond b (e ∷ filter p es) (filter p es)) (h e.0 e.1 (found_first e es))
    ∙ ap (λ zs. cond (q e) (e ∷ zs) zs) (agree p q es up.1 (λ n a at. h n a (found_later n a e es up.0 at)))

-- and find the same
pub find_agree : (p q : ℕ × Attempt → Bool) (es : List (ℕ × Attempt)) → IsStrictlySortedBy nat_cmp (keys_of es) → ((n : ℕ) (a : Attempt) → attempt_at n es ≡ Some a → p (n, a) ≡ q (n, a)) → find p es ≡ find q es
unfolding IsStrictlySortedBy
find_agree p q [] up h = refl
find_agree p q (e ∷ es) up h =
    ap (λ b. cond b (Some e) (find p es)) (h e.0 e.1 (found_first e es))
    ∙ ap (λ (o : Option (ℕ × Attempt)). cond (q e) (Some e) o) (find_agree p q es up.1 (λ n a at. h n a (found_later n a e es up.0 at)))

pub all_left : (es : List (ℕ × Attempt)) → filter (λ p. true) es ≡ es
all_left [] = refl
all_left (e ∷ es) = ap (λ zs. e ∷ zs) (all_left es)

pub nothing_found : (es : List (ℕ × Attempt)) → find (λ p. false) es ≡ None
nothing_found [] = refl
nothing_found (e ∷ es) = nothing_found es

-- what is found by its number
pub number_found : (n : ℕ) (a : Attempt) (es : List (ℕ × Attempt)) → attempt_at n es ≡ Some a → option_map (λ p. p.0) (find (λ p. n == p.0) es) ≡ Some n
number_found n a [] at = absurd (cc)
number_found n a (e ∷ es) at = by_cases (n == e.0) refl (number_found n a es)
  where
    by_cases : (b : Bool) → (n == e.0) ≡ b → (attempt_at n es ≡ Some a → option_map (λ p. p.0) (find (λ p. n == p.0) es) ≡ Some n) → option_map (λ p. p.0) (find (λ p. n == p.0) (e ∷ es)) ≡ Some n
    by_cases true h rest = rw h (ap Some (sym (eq_numbers n e.0 (same_number n e.0 ∙ h))))
    by_cases false h rest =
        let is = same_number n e.0 ∙ h in
        let found : attempt_at n es ≡ Some a = rw is at at in
        rw h (rest found)

-- none has the number
pub none_of_number : (n : ℕ) (es : List (ℕ × Attempt)) → IsStrictlySortedBy nat_cmp (keys_of es) → attempt_at n es ≡ None → without_number n es ≡ es
none_of_number n es up none = agree (λ p. not (n == p.0)) (λ p. true) es up (λ m a at. ap not (sym (same_number n m) ∙ apart m a at)) ∙ all_left es
  where
    apart : (m : ℕ) (a : Attempt) → attempt_at m es ≡ Some a → is_eq (nat_cmp n m) ≡ false
    apart m a at = by_cases (is_eq (nat_cmp n m)) refl
      where
        by_cases : (b : Bool) → is_eq (nat_cmp n m) ≡ b → b ≡ false
        by_cases true h = absurd (clash (attempt_at m es) (ap (λ k. attempt_at k es) (sym (eq_numbers n m h)) ∙ none) at)
          where
            clash : (o : Option Attempt) → o ≡ None → o ≡ Some a → ⊥
            clash o none some = cc
        by_cases false h = refl

-- one of a greater number than all goes to the end
pub appended : (n : ℕ) (a : Attempt) (es : List (ℕ × Attempt)) → IsStrictlySortedBy nat_cmp (keys_of es) → ((m : ℕ) (b : Attempt) → attempt_at m es ≡ Some b → m < n) → insert_entry nat_cmp es n a ≡ es ++ (n, a) ∷ []
unfolding IsStrictlySortedBy
appended n a [] up below = refl
appended n a (e ∷ es) up below =
    ap (λ o. match_ordering o ((n, a) ∷ e ∷ es) ((e.0, a) ∷ es) (e ∷ insert_entry nat_cmp es n a)) (greater e.0 n (below e.0 e.1 (found_first e es)))
    ∙ ap (λ zs. e ∷ zs) (appended n a es up.1 (λ m b at. below m b (found_later m b e es up.0 at)))
  where
    greater : (m k : ℕ) → m < k → nat_cmp k m ≡ Greater
    greater m k lt = grind (arith, nat_tests)

-- where none has the number, none changes
pub none_tried : (n tries : ℕ) (again : Option ℕ) (es : List (ℕ × Attempt)) → attempt_at n es ≡ None → with_tries n tries again es ≡ es
none_tried n tries again [] none = refl
none_tried n tries again (e ∷ es) none = by_cases (n == e.0) refl (none_tried n tries again es)
  where
    by_cases : (b : Bool) → (n == e.0) ≡ b → (attempt_at n es ≡ None → with_tries n tries again es ≡ es) → with_tries n tries again (e ∷ es) ≡ e ∷ es
    by_cases true h rest =
        let found : Some e.1 ≡ None = rw (same_number n e.0 ∙ h) at none in
        absurd (cc)
    by_cases false h rest =
        let behind : attempt_at n es ≡ None = rw (same_number n e.0 ∙ h) at none in
        rw h (ap (λ zs. e ∷ zs) (rest behind))
