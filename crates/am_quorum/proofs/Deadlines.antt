-- What changes of operations make of their deadlines.
use Rattle.std.proofs.Common.{◌≡◌, ℕ, ◌==◌, Bool, true, false, List, [], ◌∷◌, ◌++◌, Option, Some, None, IfNone, IfSome, is_some, Result, Ok, Err, OnErr, OnOk, if◌then◌else◌, refl, sym, ap, ◌∙◌, arith}
use Rattle.std.specs.Result.{is_err}
use Rattle.std.proofs.lemmas.Bool.Decides.{nat_tests}
use Rattle.am_quorum.specs.declared.operation.Operation.{Operation}
use Rattle.am_quorum.specs.declared.operation.Stage.{Stage}
use Rattle.am_quorum.specs.declared.operation.Stage.TheVariants.{Undecided, Decided}
use Rattle.am_quorum.specs.Deadlines.{EndsDeadline, KeepDeadlines, deadline_at}
use Rattle.am_quorum.specs.Operations.{due_of, first_ack_by, operation_at, staged, with_operation, without_operation}

-- ---- another stage

-- an operation of the same number and deadline in the place of the one that is found
replaced : (o was : Operation) (n : ℕ) (ops : List Operation) → o.number ≡ n → due_of o ≡ due_of was → operation_at n ops ≡ Some was → (m : ℕ) → deadline_at m (with_operation o ops) ≡ deadline_at m ops
replaced o was n ops number due at m = by_number (m == o.number) refl
  where
    same_test : (k : ℕ) → m ≡ n → (k == m) ≡ (k == n)
    same_test k e = ap (λ j. k == j) e

    one_number : (m == o.number) ≡ true → m ≡ n
    one_number e = grind (arith, nat_tests, number)

    -- the operation of that number
    own : (xs : List Operation) → m ≡ n → operation_at n xs ≡ Some was → deadline_at m (with_operation o xs) ≡ deadline_at m xs
    own [] e found = absurd (cc)
    own (x ∷ xs) e found = by_test (x.number == n) refl (own xs e)
      where
        to_own : (x.number == o.number) ≡ (x.number == n)
        to_own = ap (λ j. x.number == j) number

        itself : (o.number == m) ≡ true
        itself = grind (arith, nat_tests, number, e)

        by_test : (b : Bool) → (x.number == n) ≡ b → (operation_at n xs ≡ Some was → deadline_at m (with_operation o xs) ≡ deadline_at m xs)
            → deadline_at m (with_operation o (x ∷ xs)) ≡ deadline_at m (x ∷ xs)
        by_test true h rest =
            let there : Some x ≡ Some was = rw h at found in
            let one : x ≡ was = cc in
            rw (to_own ∙ h, itself, same_test x.number e ∙ h) (ap Some (due ∙ ap due_of (sym one)))
        by_test false h rest =
            let there : operation_at n xs ≡ Some was = rw h at found in
            rw (to_own ∙ h, same_test x.number e ∙ h) (rest there)

    -- those of others
    other : (xs : List Operation) → (m == o.number) ≡ false → deadline_at m (with_operation o xs) ≡ deadline_at m xs
    other [] e = refl
    other (x ∷ xs) e = by_test (x.number == o.number) refl (other xs e)
      where
        not_it : (x.number == o.number) ≡ true → (x.number == m) ≡ false
        not_it h = grind (arith, nat_tests, h, e)

        not_own : (o.number == m) ≡ false
        not_own = grind (arith, nat_tests, e)

        by_test : (b : Bool) → (x.number == o.number) ≡ b → deadline_at m (with_operation o xs) ≡ deadline_at m xs
            → deadline_at m (with_operation o (x ∷ xs)) ≡ deadline_at m (x ∷ xs)
        by_test true h rest = rw (h, not_own, not_it h) rest
        by_test false h rest = rw h (by_found (x.number == m) refl rest)
          where
            by_found : (c : Bool) → (x.number == m) ≡ c → deadline_at m (with_operation o xs) ≡ deadline_at m xs → deadline_at m (x ∷ with_operation o xs) ≡ deadline_at m (x ∷ xs)
            by_found true k rest = rw k refl
            by_found false k rest = rw k rest

    by_number : (b : Bool) → (m == o.number) ≡ b → deadline_at m (with_operation o ops) ≡ deadline_at m ops
    by_number true e = own ops (one_number e) at
    by_number false e = other ops e

-- an operation that is found has the number
pub number_at : (n : ℕ) (o : Operation) (ops : List Operation) → operation_at n ops ≡ Some o → o.number ≡ n
number_at n o [] at = absurd (cc)
number_at n o (x ∷ xs) at = by_cases (x.number == n) refl (number_at n o xs)
  where
    same_numbers : (a b : ℕ) → (a == b) ≡ true → a ≡ b
    same_numbers a b h = grind (arith, nat_tests)

    by_cases : (b : Bool) → (x.number == n) ≡ b → (operation_at n xs ≡ Some o → o.number ≡ n) → o.number ≡ n
    by_cases true h rest =
        let there : Some x ≡ Some o = rw h at at in
        let one : x ≡ o = cc in
        ap (λ (y : Operation). y.number) (sym one) ∙ same_numbers x.number n h
    by_cases false h rest =
        let there : operation_at n xs ≡ Some o = rw h at at in
        rest there

-- the operation of a number is put at a stage
pub staged_keeps : (stage : Stage) (n : ℕ) (ops : List Operation) → KeepDeadlines ops (staged stage (operation_at n ops) ops)
staged_keeps stage n ops m = by_found (operation_at n ops) refl
  where
    by_found : (found : Option Operation) → operation_at n ops ≡ found → deadline_at m (staged stage found ops) ≡ deadline_at m ops
    by_found None at = refl
    by_found (Some o) at = replaced (record o { stage = stage }) o n ops (number_at n o ops at) refl at m

-- .. or keeps its first Ack
pub first_ack_keeps : (from n : ℕ) (ops : List Operation) → KeepDeadlines ops (first_ack_by from (operation_at n ops) ops)
first_ack_keeps from n ops m = by_found (operation_at n ops) refl
  where
    by_stage : (o : Operation) (s : Stage) → o.stage ≡ s → operation_at n ops ≡ Some o → deadline_at m (first_ack_by from (Some o) ops) ≡ deadline_at m ops
    by_stage o (Undecided first) is at = rw is refl
    by_stage o (Decided reply None) is at =
        rw is (replaced (record o { stage = Decided reply (Some from) }) o n ops (number_at n o ops at) refl at m)
    by_stage o (Decided reply (Some first)) is at = rw is refl

    by_found : (found : Option Operation) → operation_at n ops ≡ found → deadline_at m (first_ack_by from found ops) ≡ deadline_at m ops
    by_found None at = refl
    by_found (Some o) at = by_stage o o.stage refl at

-- ---- closed

pub without_ends : (n : ℕ) (ops : List Operation) → EndsDeadline n ops (without_operation n ops)
without_ends n [] m = by_test (m == n)
  where
    nothing : Option ℕ
    nothing = None

    by_test : (b : Bool) → nothing ≡ (if b then None else nothing)
    by_test true = refl
    by_test false = refl
without_ends n (x ∷ xs) m = by_test (x.number == n) refl (without_ends n xs m)
  where
    its_own : (x.number == n) ≡ true → (m == n) ≡ false → (x.number == m) ≡ false
    its_own h e = grind (arith, nat_tests, h, e)

    another : (x.number == n) ≡ false → (x.number == m) ≡ true → (m == n) ≡ false
    another h e = grind (arith, nat_tests, h, e)

    gone : (c : Bool) → (m == n) ≡ c → (x.number == n) ≡ true → deadline_at m (without_operation n xs) ≡ (if c then None else deadline_at m xs)
        → deadline_at m (without_operation n xs) ≡ (if c then None else deadline_at m (x ∷ xs))
    gone true e h rest = rest
    gone false e h rest = rw (its_own h e) rest

    stays : (c : Bool) → (x.number == m) ≡ c → (x.number == n) ≡ false → deadline_at m (without_operation n xs) ≡ (if m == n then None else deadline_at m xs)
        → deadline_at m (x ∷ without_operation n xs) ≡ (if m == n then None else deadline_at m (x ∷ xs))
    stays true e h rest = rw (e, another h e) refl
    stays false e h rest = rw e rest

    by_test : (b : Bool) → (x.number == n) ≡ b → deadline_at m (without_operation n xs) ≡ (if m == n then None else deadline_at m xs)
        → deadline_at m (without_operation n (x ∷ xs)) ≡ (if m == n then None else deadline_at m (x ∷ xs))
    by_test true h rest = rw h (gone (m == n) refl h rest)
    by_test false h rest = rw h (stays (x.number == m) refl h rest)

-- ---- opened

-- one more at the end, where none had its number
pub more_deadlines : (o : Operation) (ops : List Operation) → operation_at o.number ops ≡ None → (m : ℕ) → deadline_at m (ops ++ o ∷ []) ≡ (if m == o.number then Some (due_of o) else deadline_at m ops)
more_deadlines o [] unused m = by_test (m == o.number) refl
  where
    turned : (b : Bool) → (m == o.number) ≡ b → (o.number == m) ≡ b
    turned b e = grind (arith, nat_tests, e)

    by_test : (b : Bool) → (m == o.number) ≡ b → deadline_at m (o ∷ []) ≡ (if b then Some (due_of o) else None)
    by_test true e = rw (turned true e) refl
    by_test false e = rw (turned false e) refl
more_deadlines o (x ∷ xs) unused m = by_test (x.number == o.number) refl (more_deadlines o xs)
  where
    not_it : (x.number == o.number) ≡ false → (x.number == m) ≡ true → (m == o.number) ≡ false
    not_it h e = grind (arith, nat_tests, h, e)

    by_found : (c : Bool) → (x.number == m) ≡ c → (x.number == o.number) ≡ false → deadline_at m (xs ++ o ∷ []) ≡ (if m == o.number then Some (due_of o) else deadline_at m xs)
        → deadline_at m (x ∷ (xs ++ o ∷ [])) ≡ (if m == o.number then Some (due_of o) else deadline_at m (x ∷ xs))
    by_found true e h rest = rw (e, not_it h e) refl
    by_found false e h rest = rw e rest

    by_test : (b : Bool) → (x.number == o.number) ≡ b
        → (operation_at o.number xs ≡ None → (k : ℕ) → deadline_at k (xs ++ o ∷ []) ≡ (if k == o.number then Some (due_of o) else deadline_at k xs))
        → deadline_at m (x ∷ (xs ++ o ∷ [])) ≡ (if m == o.number then Some (due_of o) else deadline_at m (x ∷ xs))
    by_test true h rest =
        let there : Some x ≡ None = rw h at unused in
        absurd (cc)
    by_test false h rest =
        let there : operation_at o.number xs ≡ None = rw h at unused in
        by_found (x.number == m) refl h (rest there m)

-- ---- what is told of a result

pub if_some : {A X : Type 0} (r : Option A) → X → IfSome r (λ x. X)
if_some None x = tt
if_some (Some a) x = x

pub if_none : {A : Type 0} (X : Type 0) (r : Option A) → is_some r ≡ true → IfNone r X
if_none X None some = absurd (cc)
if_none X (Some a) some = tt

pub of_some : {A X : Type 0} (r : Option A) → is_some r ≡ true → IfSome r (λ x. X) → X
of_some None some h = absurd (cc)
of_some (Some a) some h = h

pub of_none : {A X : Type 0} (r : Option A) → is_some r ≡ false → IfNone r X → X
of_none None none h = h
of_none (Some a) none h = absurd (cc)

pub of_ok : {A E X : Type 0} (r : Result A E) → is_err r ≡ false → OnOk r X → X
of_ok (Ok a) ok h = h
of_ok (Err e) ok h = absurd (cc)

pub of_err : {A E X : Type 0} (r : Result A E) → is_err r ≡ true → OnErr r X → X
of_err (Ok a) err h = absurd (cc)
of_err (Err e) err h = h
