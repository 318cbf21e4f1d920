-- The greatest incarnation, row by row and tenant by tenant.
use Rattle.std.proofs.Common.{◌≡◌, ◌⊎◌, ◌+◌, ◌<◌, ◌≤◌, inl, inr, ℕ, Bool, true, false, ◌&&◌, ◌||◌, List, [], ◌∷◌, ap, ap₂, arith, get_or, length, max, nat_eq, nat_le, refl, subst, sym, take, ◌∙◌}
use Rattle.std.specs.List.{list_all, list_any}
use Rattle.std.proofs.lemmas.Bool.{and_parts, cases_Bool}
use Rattle.std.proofs.lemmas.Bool.Decides.{nat_tests}
use Rattle.std.proofs.lemmas.List.Folds.{list_all_more, list_any_kept, list_any_more}
use Rattle.am_tenant.specs.Names.{same}
use Rattle.am_tenant.proofs.Same.{eq_from_same}
use Rattle.am_item.specs.declared.item.Item.{Item}
use Rattle.am_incarnation.specs.Incarnations.{IsGreatestFrom, IsReached, bounds, has_incarnation}
use Rattle.am_rows.specs.Rows.{Keeps, rows_of}

abbrev Pairs : Type 0
Pairs = List (List ℕ × Item)

both : (a b : Bool) → a ≡ true → b ≡ true → (a && b) ≡ true
both a b x y = ap₂ (λ p q. p && q) x y

later : (a b : Bool) → b ≡ true → (a || b) ≡ true
later true b y = refl
later false b y = y

le_up : (x n m : ℕ) → n ≤ m → nat_le x n ≡ true → nat_le x m ≡ true
le_up x n m up le = grind (arith, nat_tests)

le_of : (x m : ℕ) → x ≤ m → nat_le x m ≡ true
le_of x m le = grind (arith, nat_tests)

eq_of : (x m : ℕ) → m ≡ x → nat_eq x m ≡ true
eq_of x m is = grind (arith, nat_tests)

max_is : (n x : ℕ) → (max n x ≡ n) ⊎ (max n x ≡ x)
max_is n x = elim (cases_Bool (nat_le n x)) [
  | inl le ↦ inr (grind (arith, nat_tests))
  | inr gt ↦ inl (grind (arith, nat_tests))
]

pub bounds_up : (n m : ℕ) (rows : List Item) → n ≤ m → bounds n rows ≡ true → bounds m rows ≡ true
bounds_up n m [] up all = refl
bounds_up n m (x ∷ xs) up all =
    let parts = and_parts (nat_le x.stamp.incarnation n) (bounds n xs) all in
    both (nat_le x.stamp.incarnation m) (bounds m xs) (le_up x.stamp.incarnation n m up parts.0) (bounds_up n m xs up parts.1)

pub none_from : (least : ℕ) → IsGreatestFrom least least []
none_from least = (omega arith, refl, inl refl)

-- one row more
pub one_from : (least n : ℕ) (rows : List Item) (i : ℕ) (row : Item) → i < length rows → row ≡ get_or rows i row
    → IsGreatestFrom least n (take i rows) → IsGreatestFrom least (max n row.stamp.incarnation) (take (i + 1) rows)
one_from least n rows i row within is (low, all, some) = (omega arith, bound, reached)
  where
    m : ℕ
    m = max n row.stamp.incarnation

    bound : bounds m (take (i + 1) rows) ≡ true
    bound =
        list_all_more (λ (x : Item). nat_le x.stamp.incarnation m) rows i row within
        ∙ both (bounds m (take i rows)) (nat_le (get_or rows i row).stamp.incarnation m) (bounds_up n m (take i rows) (omega arith) all)
        (ap (λ (x : Item). nat_le x.stamp.incarnation m) (sym is) ∙ le_of row.stamp.incarnation m (omega arith))

    kept : (k : ℕ) → (n ≡ least) ⊎ (has_incarnation n (take i rows) ≡ true) → k ≡ n → (k ≡ least) ⊎ (has_incarnation k (take (i + 1) rows) ≡ true)
    kept k (inl least_is) same_is = inl (same_is ∙ least_is)
    kept k (inr has) same_is = inr (subst (λ j. has_incarnation j (take (i + 1) rows) ≡ true) (sym same_is) (list_any_kept (λ (x : Item). nat_eq x.stamp.incarnation n) rows i has))

    made : (k : ℕ) → k ≡ row.stamp.incarnation → has_incarnation k (take (i + 1) rows) ≡ true
    made k row_is =
        list_any_more (λ (x : Item). nat_eq x.stamp.incarnation k) rows i row within
        ∙ later (has_incarnation k (take i rows)) (nat_eq (get_or rows i row).stamp.incarnation k)
        (ap (λ (x : Item). nat_eq x.stamp.incarnation k) (sym is) ∙ eq_of row.stamp.incarnation k row_is)

    reached : (m ≡ least) ⊎ (has_incarnation m (take (i + 1) rows) ≡ true)
    reached = elim (max_is n row.stamp.incarnation) [
      | inl stays ↦ kept m some stays
      | inr row_is ↦ inr (made m row_is)
    ]

-- the rows of these tenants
abbrev pub AreBounded : ℕ → Pairs → List (List ℕ) → Type 0
AreBounded n pairs tenants = list_all (λ t. bounds n (rows_of t pairs)) tenants ≡ true

all_up : (n m : ℕ) (pairs : Pairs) (ts : List (List ℕ)) → n ≤ m → AreBounded n pairs ts → AreBounded m pairs ts
all_up n m pairs [] up all = refl
all_up n m pairs (t ∷ ts) up all =
    let parts = and_parts (bounds n (rows_of t pairs)) (list_all (λ u. bounds n (rows_of u pairs)) ts) all in
    both (bounds m (rows_of t pairs)) (list_all (λ u. bounds m (rows_of u pairs)) ts) (bounds_up n m (rows_of t pairs) up parts.0) (all_up n m pairs ts up parts.1)

-- one tenant more
pub one_bounded : (n m : ℕ) (pairs : Pairs) (ts : List (List ℕ)) (i : ℕ) (t : List ℕ) (rows : List Item) → i < length ts → t ≡ get_or ts i t
    → rows ≡ rows_of t pairs → IsGreatestFrom n m rows → AreBounded n pairs (take i ts) → AreBounded m pairs (take (i + 1) ts)
one_bounded n m pairs ts i t rows within is rows_are (low, all, some) done =
    list_all_more (λ u. bounds m (rows_of u pairs)) ts i t within
    ∙ both (list_all (λ u. bounds m (rows_of u pairs)) (take i ts)) (bounds m (rows_of (get_or ts i t) pairs)) (all_up n m pairs (take i ts) low done)
    (ap (λ u. bounds m (rows_of u pairs)) (sym is) ∙ ap (bounds m) (sym rows_are) ∙ all)

pub one_reached : (n m : ℕ) (pairs : Pairs) (t : List ℕ) (rows : List Item) → rows ≡ rows_of t pairs → IsGreatestFrom n m rows → IsReached n pairs → IsReached m pairs
one_reached n m pairs t rows rows_are (low, all, inl stays) old = subst (λ k. IsReached k pairs) (sym stays) old
one_reached n m pairs t rows rows_are (low, all, inr has) old = inr (t, ap (has_incarnation m) (sym rows_are) ∙ has)

-- a tenant that is named
named : (f : List ℕ → Bool) (t : List ℕ) (ts : List (List ℕ)) → list_any (same t) ts ≡ true → list_all f ts ≡ true → f t ≡ true
named f t [] some all = absurd (let clash = some in cc)
named f t (u ∷ us) some all =
    let parts = and_parts (f u) (list_all f us) all in
    elim (cases_Bool (same t u)) [
      | inl it ↦ ap f (eq_from_same t u it) ∙ parts.0
      | inr other ↦ named f t us (sym (ap (λ b. b || list_any (same t) us) other) ∙ some) parts.1
    ]

-- where all tenants are named that have rows
pub bound_of : (n : ℕ) (t : List ℕ) (ts : List (List ℕ)) (before opened now : Pairs) → Keeps before opened → Keeps opened now
    → (list_any (same t) ts ≡ false → rows_of t opened ≡ []) → AreBounded n now ts → bounds n (rows_of t before) ≡ true
bound_of n t ts before opened now kept stayed none all = elim (cases_Bool (list_any (same t) ts)) [
  | inl some ↦ ap (bounds n) (sym (stayed t ∙ kept t)) ∙ named (λ u. bounds n (rows_of u now)) t ts some all
  | inr other ↦ ap (bounds n) (sym (kept t) ∙ none other)
]

pub reached_of : (n : ℕ) (before now : Pairs) → Keeps before now → IsReached n now → IsReached n before
reached_of n before now kept (inl zero_is) = inl zero_is
reached_of n before now kept (inr (t, has)) = inr (t, ap (has_incarnation n) (sym (kept t)) ∙ has)
