-- Operations by their numbers: what the map of a docket has, and what its list has.
use Rattle.std.proofs.Common.{◌≡◌, ◌<◌, ◌≤◌, ℕ, Bool, true, false, ◌==◌, ◌&&◌, cond, List, [], ◌∷◌, ◌++◌, Option, Some, None, Less, Greater, refl, sym, ap, ◌∙◌, subst, arith, find}
use Rattle.std.specs.BTreeMap.{insert_entry, is_at}
use Rattle.std.specs.Cmp.{Equal-is}
use Rattle.std.specs.List.{AllByRecursion}
use Rattle.std.specs.List.Sorted.{IsStrictlySortedBy}
use Rattle.std.specs.Map.{keys_of, lookup, remove_entry, set_value, values_of}
use Rattle.std.specs.Ordering.{is_eq, match_ordering, nat_cmp}
use Rattle.std.proofs.lemmas.Bool.Decides.{nat_tests}
use Rattle.std.proofs.lemmas.Map.Lookups.{exact_unsigned}
use Rattle.am_quorum.specs.declared.operation.Operation.{Operation}
use Rattle.am_quorum.specs.declared.operation.Stage.{Stage}
use Rattle.am_quorum.specs.declared.operation.Stage.TheVariants.{Undecided, Decided}
use Rattle.am_quorum.specs.Dockets.{AreNumbered, AreUsed}
use Rattle.am_quorum.specs.Operations.{acknowledged, first_ack, first_ack_by, operation_at, staged, with_operation, without_operation}

-- what the map finds
abbrev pub operation_in : ℕ → List (ℕ × Operation) → Option Operation
operation_in n es = lookup (is_at (nat_cmp n)) es

-- whether two numbers are the same, in either form
same_number : (m n : ℕ) → (m == n) ≡ is_eq (nat_cmp n m)
same_number m n = grind (arith, nat_tests)

eq_numbers : (n m : ℕ) → is_eq (nat_cmp n m) ≡ true → n ≡ m
eq_numbers n m h = exact_unsigned n m ((Equal-is (nat_cmp n m)).0 h)

-- by the number of an operation, and by its place
test : (n : ℕ) (e : ℕ × Operation) → e.1.number ≡ e.0 → (e.1.number == n) ≡ is_eq (nat_cmp n e.0)
test n e is = ap (λ (m : ℕ). m == n) is ∙ same_number e.0 n

-- the first has this number, so no other has
abbrev AllAbove : ℕ → List (ℕ × Operation) → Type 0
AllAbove n es = AllByRecursion (λ m. nat_cmp n m ≡ Less) (keys_of es)

all_pass : (n : ℕ) (es : List (ℕ × Operation)) → AllAbove n es → AreNumbered es → without_operation n (values_of es) ≡ values_of es
all_pass n [] all numbered = refl
all_pass n (e ∷ es) all numbered =
    rw (test n e numbered.0 ∙ ap is_eq all.0) (ap (λ (xs : List Operation). e.1 ∷ xs) (all_pass n es all.1 numbered.1))

none_changes : (n : ℕ) (now : Operation) (es : List (ℕ × Operation)) → now.number ≡ n → AllAbove n es → AreNumbered es → with_operation now (values_of es) ≡ values_of es
none_changes n now [] is all numbered = refl
none_changes n now (e ∷ es) is all numbered =
    rw (ap (λ (m : ℕ). e.1.number == m) is ∙ test n e numbered.0 ∙ ap is_eq all.0)
    (ap (λ (xs : List Operation). e.1 ∷ xs) (none_changes n now es is all.1 numbered.1))

-- ---- look-ups

pub found : (n : ℕ) (es : List (ℕ × Operation)) → AreNumbered es → operation_at n (values_of es) ≡ operation_in n es
found n [] numbered = refl
found n (e ∷ es) numbered =
    ap (λ b. cond b (Some e.1) (operation_at n (values_of es))) (test n e numbered.0)
    ∙ ap (λ (o : Option Operation). cond (is_eq (nat_cmp n e.0)) (Some e.1) o) (found n es numbered.1)

none_found : (n : ℕ) (p : Operation → Bool) (es : List (ℕ × Operation)) → AllAbove n es → AreNumbered es → find (λ o. o.number == n && p o) (values_of es) ≡ None
none_found n p [] all numbered = refl
none_found n p (e ∷ es) all numbered = rw (test n e numbered.0 ∙ ap is_eq all.0) (none_found n p es all.1 numbered.1)

-- what passes of what is found
abbrev pub passing : (Operation → Bool) → Option Operation → Option Operation
passing p None = None
passing p (Some o) = cond (p o) (Some o) None

pub found_passing : (n : ℕ) (p : Operation → Bool) (es : List (ℕ × Operation)) → IsStrictlySortedBy nat_cmp (keys_of es) → AreNumbered es →
    find (λ o. o.number == n && p o) (values_of es) ≡ passing p (operation_in n es)
unfolding IsStrictlySortedBy
found_passing n p [] up numbered = refl
found_passing n p (e ∷ es) up numbered = by_cases (is_eq (nat_cmp n e.0)) refl (found_passing n p es up.1 numbered.1)
  where
    by_cases : (b : Bool) → is_eq (nat_cmp n e.0) ≡ b → find (λ o. o.number == n && p o) (values_of es) ≡ passing p (operation_in n es)
        → find (λ o. o.number == n && p o) (values_of (e ∷ es)) ≡ passing p (operation_in n (e ∷ es))
    by_cases true h rest =
        let none = none_found n p es (subst (λ m. AllAbove m es) (sym (eq_numbers n e.0 h)) up.0) numbered.1 in
        rw (test n e numbered.0 ∙ h, h) (ap (λ (o : Option Operation). cond (p e.1) (Some e.1) o) none)
    by_cases false h rest = rw (test n e numbered.0 ∙ h, h) rest

-- ---- changes

pub removed : (n : ℕ) (es : List (ℕ × Operation)) → IsStrictlySortedBy nat_cmp (keys_of es) → AreNumbered es →
    values_of (remove_entry (is_at (nat_cmp n)) es) ≡ without_operation n (values_of es)
unfolding IsStrictlySortedBy
removed n [] up numbered = refl
removed n (e ∷ es) up numbered = by_cases (is_eq (nat_cmp n e.0)) refl (removed n es up.1 numbered.1)
  where
    by_cases : (b : Bool) → is_eq (nat_cmp n e.0) ≡ b → values_of (remove_entry (is_at (nat_cmp n)) es) ≡ without_operation n (values_of es)
        → values_of (remove_entry (is_at (nat_cmp n)) (e ∷ es)) ≡ without_operation n (values_of (e ∷ es))
    by_cases true h rest =
        rw (test n e numbered.0 ∙ h, h) (sym (all_pass n es (subst (λ m. AllAbove m es) (sym (eq_numbers n e.0 h)) up.0) numbered.1))
    by_cases false h rest = rw (test n e numbered.0 ∙ h, h) (ap (λ (xs : List Operation). e.1 ∷ xs) rest)

pub written : (n : ℕ) (was now : Operation) (es : List (ℕ × Operation)) → IsStrictlySortedBy nat_cmp (keys_of es) → AreNumbered es → now.number ≡ n →
    operation_in n es ≡ Some was → values_of (set_value (is_at (nat_cmp n)) es now) ≡ with_operation now (values_of es)
unfolding IsStrictlySortedBy
written n was now [] up numbered is at = refl
written n was now (e ∷ es) up numbered is at = by_cases (is_eq (nat_cmp n e.0)) refl (written n was now es up.1 numbered.1 is)
  where
    its : (e.1.number == now.number) ≡ is_eq (nat_cmp n e.0)
    its = ap (λ (m : ℕ). e.1.number == m) is ∙ test n e numbered.0

    by_cases : (b : Bool) → is_eq (nat_cmp n e.0) ≡ b
        → (operation_in n es ≡ Some was → values_of (set_value (is_at (nat_cmp n)) es now) ≡ with_operation now (values_of es))
        → values_of (set_value (is_at (nat_cmp n)) (e ∷ es) now) ≡ with_operation now (values_of (e ∷ es))
    by_cases true h rest =
        rw (its ∙ h, h)
        (ap (λ (xs : List Operation). now ∷ xs)
        (sym (none_changes n now es is (subst (λ m. AllAbove m es) (sym (eq_numbers n e.0 h)) up.0) numbered.1)))
    by_cases false h rest =
        let there : operation_in n es ≡ Some was = rw h at at in
        rw (its ∙ h, h) (ap (λ (xs : List Operation). e.1 ∷ xs) (rest there))

-- the greatest number comes last
pub appended : (used n : ℕ) (o : Operation) (es : List (ℕ × Operation)) → AreUsed used es → used < n → insert_entry nat_cmp es n o ≡ es ++ (n, o) ∷ []
appended used n o [] past lt = refl
appended used n o (e ∷ es) past lt =
    ap (λ c. match_ordering c ((n, o) ∷ e ∷ es) ((e.0, o) ∷ es) (e ∷ insert_entry nat_cmp es n o)) (greater e.0 n past.0)
    ∙ ap (λ (zs : List (ℕ × Operation)). e ∷ zs) (appended used n o es past.1 lt)
  where
    greater : (m k : ℕ) → m ≤ used → nat_cmp n m ≡ Greater
    greater m k le = grind (arith, nat_tests)

pub values-append : (es fs : List (ℕ × Operation)) → values_of (es ++ fs) ≡ values_of es ++ values_of fs
values-append [] fs = refl
values-append (e ∷ es) fs = ap (λ (xs : List Operation). e.1 ∷ xs) (values-append es fs)

-- no operation has a number past those that were used
pub fresh : (used n : ℕ) (es : List (ℕ × Operation)) → AreNumbered es → AreUsed used es → used < n → without_operation n (values_of es) ≡ values_of es
fresh used n [] numbered past lt = refl
fresh used n (e ∷ es) numbered past lt =
    rw (other numbered.0 past.0) (ap (λ (xs : List Operation). e.1 ∷ xs) (fresh used n es numbered.1 past.1 lt))
  where
    other : e.1.number ≡ e.0 → e.0 ≤ used → (e.1.number == n) ≡ false
    other is le = grind (arith, nat_tests)

pub unused_at : (used n : ℕ) (es : List (ℕ × Operation)) → AreNumbered es → AreUsed used es → used < n → operation_at n (values_of es) ≡ None
unused_at used n [] numbered past lt = refl
unused_at used n (e ∷ es) numbered past lt = rw (other numbered.0 past.0) (unused_at used n es numbered.1 past.1 lt)
  where
    other : e.1.number ≡ e.0 → e.0 ≤ used → (e.1.number == n) ≡ false
    other is le = grind (arith, nat_tests)

-- ---- what stays so

pub numbered_without : (n : ℕ) (es : List (ℕ × Operation)) → AreNumbered es → AreNumbered (remove_entry (is_at (nat_cmp n)) es)
numbered_without n [] numbered = tt
numbered_without n (e ∷ es) numbered =
    elim (is_eq (nat_cmp n e.0)) as (λ b. AreNumbered (cond b es (e ∷ remove_entry (is_at (nat_cmp n)) es))) [
      | true ↦ numbered.1
      | false ↦ (numbered.0, numbered_without n es numbered.1)
    ]

pub used_without : (used n : ℕ) (es : List (ℕ × Operation)) → AreUsed used es → AreUsed used (remove_entry (is_at (nat_cmp n)) es)
used_without used n [] past = tt
used_without used n (e ∷ es) past =
    elim (is_eq (nat_cmp n e.0)) as (λ b. AreUsed used (cond b es (e ∷ remove_entry (is_at (nat_cmp n)) es))) [
      | true ↦ past.1
      | false ↦ (past.0, used_without used n es past.1)
    ]

pub numbered_written : (n : ℕ) (now : Operation) (es : List (ℕ × Operation)) → now.number ≡ n → AreNumbered es → AreNumbered (set_value (is_at (nat_cmp n)) es now)
numbered_written n now [] is numbered = tt
numbered_written n now (e ∷ es) is numbered = by_cases (is_eq (nat_cmp n e.0)) refl (numbered_written n now es is numbered.1)
  where
    by_cases : (b : Bool) → is_eq (nat_cmp n e.0) ≡ b → AreNumbered (set_value (is_at (nat_cmp n)) es now) → AreNumbered (set_value (is_at (nat_cmp n)) (e ∷ es) now)
    by_cases true h rest = rw h (is ∙ eq_numbers n e.0 h, numbered.1)
    by_cases false h rest = rw h (numbered.0, rest)

pub used_written : (used n : ℕ) (now : Operation) (es : List (ℕ × Operation)) → AreUsed used es → AreUsed used (set_value (is_at (nat_cmp n)) es now)
used_written used n now [] past = tt
used_written used n now (e ∷ es) past =
    elim (is_eq (nat_cmp n e.0)) as (λ b. AreUsed used (cond b ((e.0, now) ∷ es) (e ∷ set_value (is_at (nat_cmp n)) es now))) [
      | true ↦ (past.0, past.1)
      | false ↦ (past.0, used_written used n now es past.1)
    ]

pub numbered_more : (n : ℕ) (o : Operation) (es : List (ℕ × Operation)) → o.number ≡ n → AreNumbered es → AreNumbered (es ++ (n, o) ∷ [])
numbered_more n o [] is numbered = (is, tt)
numbered_more n o (e ∷ es) is numbered = (numbered.0, numbered_more n o es is numbered.1)

pub used_more : (used n : ℕ) (o : Operation) (es : List (ℕ × Operation)) → used ≤ n → AreUsed used es → AreUsed n (es ++ (n, o) ∷ [])
used_more used n o [] le past = (omega arith, tt)
used_more used n o (e ∷ es) le past = (below past.0, used_more used n o es le past.1)
  where
    below : e.0 ≤ used → e.0 ≤ n
    below h = omega arith

-- ---- what is found

-- it has the number
pub number_found : (n : ℕ) (was : Operation) (es : List (ℕ × Operation)) → AreNumbered es → operation_in n es ≡ Some was → was.number ≡ n
number_found n was [] numbered at = absurd (cc)
number_found n was (e ∷ es) numbered at = by_cases (is_eq (nat_cmp n e.0)) refl (number_found n was es numbered.1)
  where
    by_cases : (b : Bool) → is_eq (nat_cmp n e.0) ≡ b → (operation_in n es ≡ Some was → was.number ≡ n) → was.number ≡ n
    by_cases true h rest =
        let there : Some e.1 ≡ Some was = rw h at at in
        let one : e.1 ≡ was = cc in
        ap (λ (o : Operation). o.number) (sym one) ∙ numbered.0 ∙ sym (eq_numbers n e.0 h)
    by_cases false h rest =
        let there : operation_in n es ≡ Some was = rw h at at in
        rest there

-- what passes was there
pub there_passing : (p : Operation → Bool) (found : Option Operation) (o : Operation) → passing p found ≡ Some o → found ≡ Some o
there_passing p None o h = absurd (cc)
there_passing p (Some was) o h = by_cases (p was) refl
  where
    by_cases : (b : Bool) → p was ≡ b → Some was ≡ Some o
    by_cases true e = rw e at h
    by_cases false e =
        let none : None ≡ Some o = rw e at h in
        absurd (cc)

-- what is written back as it was changes nothing
same_written : (n : ℕ) (was : Operation) (es : List (ℕ × Operation)) → operation_in n es ≡ Some was → set_value (is_at (nat_cmp n)) es was ≡ es
same_written n was [] at = refl
same_written n was (e ∷ es) at = by_cases (is_eq (nat_cmp n e.0)) refl (same_written n was es)
  where
    by_cases : (b : Bool) → is_eq (nat_cmp n e.0) ≡ b → (operation_in n es ≡ Some was → set_value (is_at (nat_cmp n)) es was ≡ es) → set_value (is_at (nat_cmp n)) (e ∷ es) was ≡ e ∷ es
    by_cases true h rest =
        let there : Some e.1 ≡ Some was = rw h at at in
        let one : e.1 ≡ was = cc in
        rw h (ap (λ (o : Operation). (e.0, o) ∷ es) (sym one))
    by_cases false h rest =
        let there : operation_in n es ≡ Some was = rw h at at in
        rw h (ap (λ (zs : List (ℕ × Operation)). e ∷ zs) (rest there))

module _ (n : ℕ) (was : Operation) (es : List (ℕ × Operation)) (up : IsStrictlySortedBy nat_cmp (keys_of es)) (numbered : AreNumbered es) (at : operation_in n es ≡ Some was) where
  -- put at a stage
  pub put_at_stage : (stage : Stage) → values_of (set_value (is_at (nat_cmp n)) es (record was { stage = stage })) ≡ staged stage (operation_at n (values_of es)) (values_of es)
  put_at_stage stage =
      written n was (record was { stage = stage }) es up numbered (number_found n was es numbered at) at
      ∙ sym (ap (λ (o : Option Operation). staged stage o (values_of es)) (found n es numbered ∙ at))

  -- after an Ack that lets no reply out
  pub after_ack : (from : ℕ) → values_of (set_value (is_at (nat_cmp n)) es (record was { stage = acknowledged from was.stage }))
      ≡ first_ack_by from (operation_at n (values_of es)) (values_of es)
  after_ack from = by_stage was.stage refl ∙ sym (ap (λ (o : Option Operation). first_ack_by from o (values_of es)) (found n es numbered ∙ at))
    where
      stays : (s : Stage) → was.stage ≡ s → values_of (set_value (is_at (nat_cmp n)) es (record was { stage = s })) ≡ values_of es
      stays s e =
          ap (λ (s : Stage). values_of (set_value (is_at (nat_cmp n)) es (record was { stage = s }))) (sym e) ∙ ap values_of (same_written n was es at)

      by_stage : (s : Stage) → was.stage ≡ s → values_of (set_value (is_at (nat_cmp n)) es (record was { stage = acknowledged from s })) ≡ first_ack was s from (values_of es)
      by_stage (Undecided first) e = stays (Undecided first) e
      by_stage (Decided reply None) e =
          written n was (record was { stage = Decided reply (Some from) }) es up numbered (number_found n was es numbered at) at
      by_stage (Decided reply (Some first)) e = stays (Decided reply (Some first)) e
