-- When the next tries of attempts are due, as one attempt changes.
use Rattle.std.proofs.Common.{◌≡◌, ℕ, Bool, true, false, ◌&&◌, ◌||◌, ◌==◌, not, cond, arith, List, [], ◌∷◌, ◌++◌, Option, Some, None, refl, sym, ap, ◌∙◌}
use Rattle.std.specs.Cmp.{tied_then}
use Rattle.std.specs.Cmp.Lexicographic.{slice_cmp}
use Rattle.std.specs.Option.{option_and_then}
use Rattle.std.specs.Ordering.{is_eq, nat_cmp}
use Rattle.std.proofs.lemmas.Bool.{and_parts, false≢true}
use Rattle.std.proofs.lemmas.Bool.Decides.{nat_tests}
use Rattle.am_tenant.specs.Names.{same}
use Rattle.am_tenant.proofs.Same.{eq_from_same, is_eq-name_cmp, same-refl}
use Rattle.am_members.specs.Grouped.{Grouped}
use Rattle.am_members.specs.Members.{gave}
use Rattle.am_outlet.specs.declared.attempt.Attempt.{Attempt}
use Rattle.am_outlet.specs.Attempts.{Desk, attempt_at, tried, with_tries, without_number}
use Rattle.am_outlet.specs.Desks.{Desks, desk_of}
use Rattle.am_timer.specs.declared.key.TimerKey.TheVariants.{Operation, Group, Retry, Push}
use Rattle.am_timer.specs.Queue.{is_named, with_timer, without}
use Rattle.am_timer.specs.Tied.{has_timer}
use Rattle.am_timer.specs.Timer.{Key, Timer, key_cmp, timer_cmp}
use Rattle.am_timer.proofs.Orders.{name_ties, same_name, same_timer}
use Rattle.am_timer.proofs.TiedLemmas.{has-filter, has-insert}
use Rattle.am_planning.specs.declared.pace.Pace.{Pace}
use Rattle.am_agenda.specs.Plan.{due_of, retry_due}
use Rattle.am_agenda.specs.Planned.{IsKept, is_planned, is_retry, names_retry, plan_of, retry_name}
use Rattle.am_agenda.proofs.Named.{due_then}

-- ---- one attempt of a list

same_number : (n m : ℕ) → is_eq (nat_cmp n m) ≡ (n == m)
same_number n m = grind (arith, nat_tests)

-- the attempt of one number went
pub gone : (n m : ℕ) (es : List (ℕ × Attempt)) → attempt_at m (without_number n es) ≡ cond (n == m) None (attempt_at m es)
gone n m [] = either (n == m)
  where
    either : (b : Bool) → None ≡ cond b None (attempt_at m [])
    either true = refl
    either false = refl
gone n m (e ∷ es) = by_cases (n == e.0) (is_eq (nat_cmp m e.0)) refl refl (gone n m es)
  where
    by_cases : (a b : Bool) → (n == e.0) ≡ a → is_eq (nat_cmp m e.0) ≡ b → attempt_at m (without_number n es) ≡ cond (n == m) None (attempt_at m es) → attempt_at m (without_number n (e ∷ es)) ≡ cond (n == m) None (attempt_at m (e ∷ es))
    by_cases true true x y rest = let h : (n == m) ≡ true = grind (arith, nat_tests, x, y) in rw (x, h) (rw h at rest)
    by_cases true false x y rest = rw (x, y) rest
    by_cases false true x y rest = let h : (n == m) ≡ false = grind (arith, nat_tests, x, y) in rw (x, y, h) refl
    by_cases false false x y rest = rw (x, y) rest

-- the attempt of one number was tried
pub tried_at : (n m tries : ℕ) (again : Option ℕ) (es : List (ℕ × Attempt)) → attempt_at m (with_tries n tries again es) ≡ cond (n == m) (option_and_then (λ a. Some (tried tries again a)) (attempt_at m es)) (attempt_at m es)
tried_at n m tries again [] = either (n == m)
  where
    either : (b : Bool) → None ≡ cond b (option_and_then (λ a. Some (tried tries again a)) (attempt_at m [])) (attempt_at m [])
    either true = refl
    either false = refl
tried_at n m tries again (e ∷ es) = by_cases (n == e.0) (is_eq (nat_cmp m e.0)) refl refl (tried_at n m tries again es)
  where
    by_cases : (a b : Bool) → (n == e.0) ≡ a → is_eq (nat_cmp m e.0) ≡ b
        → attempt_at m (with_tries n tries again es) ≡ cond (n == m) (option_and_then (λ a. Some (tried tries again a)) (attempt_at m es)) (attempt_at m es)
        → attempt_at m (with_tries n tries again (e ∷ es)) ≡ cond (n == m) (option_and_then (λ a. Some (tried tries again a)) (attempt_at m (e ∷ es))) (attempt_at m (e ∷ es))
    by_cases true true x y rest = let h : (n == m) ≡ true = grind (arith, nat_tests, x, y) in rw (x, y, h) refl
    by_cases true false x y rest = rw (x, y) rest
    by_cases false true x y rest = let h : (n == m) ≡ false = grind (arith, nat_tests, x, y) in rw (x, y, h) refl
    by_cases false false x y rest = rw (x, y) rest

-- one that awaits its first outcome came
pub come : (n m : ℕ) (a : Attempt) (es : List (ℕ × Attempt)) → a.again ≡ None → option_and_then (λ b. b.again) (attempt_at m (es ++ (n, a) ∷ [])) ≡ option_and_then (λ b. b.again) (attempt_at m es)
come n m a [] awaits = either (is_eq (nat_cmp m n))
  where
    either : (b : Bool) → option_and_then (λ (c : Attempt). c.again) (cond b (Some a) None) ≡ None
    either true = awaits
    either false = refl
come n m a (e ∷ es) awaits = by_case (is_eq (nat_cmp m e.0)) refl (come n m a es awaits)
  where
    by_case : (b : Bool) → is_eq (nat_cmp m e.0) ≡ b → option_and_then (λ (b : Attempt). b.again) (attempt_at m (es ++ (n, a) ∷ [])) ≡ option_and_then (λ (b : Attempt). b.again) (attempt_at m es)
        → option_and_then (λ (b : Attempt). b.again) (attempt_at m (e ∷ (es ++ (n, a) ∷ []))) ≡ option_and_then (λ (b : Attempt). b.again) (attempt_at m (e ∷ es))
    by_case true x rest = rw x refl
    by_case false x rest = rw x rest

-- ---- the timers

-- the timer that is named as the next try of an attempt is the one that is for it
retry_named : (t : List ℕ) (number : ℕ) (x : Timer) → is_named (retry_name t number) x ≡ is_retry t number x
unfolding key_cmp
retry_named t number x =
    sym (tied_then (slice_cmp nat_cmp t x.name.tenant) (key_cmp (Retry number) x.name.key))
    ∙ ap (λ b. b && is_eq (key_cmp (Retry number) x.name.key)) (is_eq-name_cmp t x.name.tenant)
    ∙ ap (λ b. same t x.name.tenant && b) (by_kind x.name.key)
  where
    by_kind : (key : Key) → is_eq (key_cmp (Retry number) key) ≡ names_retry number key
    by_kind (Operation other) = refl
    by_kind (Group key) = refl
    by_kind (Retry other) = same_number number other
    by_kind (Push instance) = refl

-- it was cancelled
pub retry_cancelled : (t : List ℕ) (number : ℕ) (old new : List Timer) → new ≡ without (retry_name t number) old → (x : Timer) → has_timer new x ≡ cond (is_retry t number x) false (has_timer old x)
retry_cancelled t number old new is x =
    ap (λ ys. has_timer ys x) is ∙ has-filter (λ z. not (is_named (retry_name t number) z)) old x ∙ ap (λ b. not b && has_timer old x) (retry_named t number x) ∙ either (is_retry t number x)
  where
    either : (b : Bool) → (not b && has_timer old x) ≡ cond b false (has_timer old x)
    either true = refl
    either false = refl

-- .. or set
pub retry_set : (t : List ℕ) (number : ℕ) (y : Timer) (old new : List Timer) → y.name ≡ retry_name t number → new ≡ with_timer y old → (x : Timer) → has_timer new x ≡ cond (is_retry t number x) (y.due == x.due) (has_timer old x)
retry_set t number y old new named is x =
    ap (λ ys. has_timer ys x) is ∙ has-insert (without y.name old) y x ∙ ap (λ b. is_eq (timer_cmp x y) || b) (has-filter (λ z. not (is_named y.name z)) old x)
    ∙ by_name (is_retry t number x) (ap (λ n. is_named n x) named ∙ retry_named t number x)
  where
    by_name : (b : Bool) → is_named y.name x ≡ b → (is_eq (timer_cmp x y) || (not (is_named y.name x) && has_timer old x)) ≡ cond b (y.due == x.due) (has_timer old x)
    by_name true h = rw h (nothing_more (is_eq (timer_cmp x y)) ∙ due_then x y (sym (same_name y.name x.name h)))
      where
        nothing_more : (c : Bool) → (c || false) ≡ c
        nothing_more true = refl
        nothing_more false = refl
    by_name false h = rw h (elim (is_eq (timer_cmp x y)) as (λ c. is_eq (timer_cmp x y) ≡ c → (c || has_timer old x) ≡ has_timer old x) [
      | true ↦ λ e. absurd (false≢true (sym h ∙ ap (λ (z : Timer). is_named y.name z) (same_timer x y e) ∙ ap is_eq (name_ties y.name)))
      | false ↦ λ e. refl
    ] refl)

-- the attempts of one tenant changed, and the timer of one of them was set anew
pub kept_trying : (book : List (List ℕ × List Pace)) (groups : List (List ℕ × Grouped)) (desks others : Desks) (t : List ℕ) (number : ℕ) (timers after : List Timer) → IsKept (record { paces = book; groups = groups; desks = desks }) timers
    → ((s : List ℕ) → same s t ≡ false → desk_of s others ≡ desk_of s desks)
    → ((n : ℕ) → (number == n) ≡ false → retry_due (desk_of t others) n ≡ retry_due (desk_of t desks) n)
    → ((x : Timer) → has_timer after x ≡ cond (is_retry t number x) (gave (retry_due (desk_of t others) number) x.due) (has_timer timers x))
    → IsKept (record { paces = book; groups = groups; desks = others }) after
unfolding plan_of
kept_trying book groups desks others t number timers after kept apart elsewhere set = record {
  rising = kept.rising;
  timed = λ x. set x ∙ by_test x (is_retry t number x) refl;
}
  where
    never : {A : Type 0} (b : Bool) → (b && false) ≡ true → A
    never true h = absurd (false≢true h)
    never false h = absurd (false≢true h)

    own_due : (x : Timer) (key : Key) → x.name.key ≡ key → is_retry t number x ≡ true
        → gave (retry_due (desk_of t others) number) x.due ≡ gave (due_of (plan_of x.name.tenant (record { paces = book; groups = groups; desks = others })) key) x.due
    own_due x (Operation other) is one = never (same t x.name.tenant) (ap (λ k. same t x.name.tenant && names_retry number k) (sym is) ∙ one)
    own_due x (Group key) is one = never (same t x.name.tenant) (ap (λ k. same t x.name.tenant && names_retry number k) (sym is) ∙ one)
    own_due x (Retry other) is one =
        let parts = and_parts (same t x.name.tenant) (number == other) (ap (λ k. same t x.name.tenant && names_retry number k) (sym is) ∙ one) in
        let it : number ≡ other = grind (arith, nat_tests, parts.1) in
        ap (λ n. gave (retry_due (desk_of t others) n) x.due) it ∙ ap (λ s. gave (retry_due (desk_of s others) other) x.due) (eq_from_same t x.name.tenant parts.0)
    own_due x (Push instance) is one = never (same t x.name.tenant) (ap (λ k. same t x.name.tenant && names_retry number k) (sym is) ∙ one)

    same_due : (x : Timer) (key : Key) → x.name.key ≡ key → is_retry t number x ≡ false
        → due_of (plan_of x.name.tenant (record { paces = book; groups = groups; desks = desks })) key ≡ due_of (plan_of x.name.tenant (record { paces = book; groups = groups; desks = others })) key
    same_due x (Operation other) is none = refl
    same_due x (Group key) is none = refl
    same_due x (Retry other) is none = by_tenant (same x.name.tenant t) refl
      where
        by_tenant : (b : Bool) → same x.name.tenant t ≡ b → retry_due (desk_of x.name.tenant desks) other ≡ retry_due (desk_of x.name.tenant others) other
        by_tenant true e =
            let own : x.name.tenant ≡ t = eq_from_same x.name.tenant t e in
            let here : same t x.name.tenant ≡ true = ap (same t) own ∙ same-refl t in
            let another : (number == other) ≡ false = ap (λ b. b && (number == other)) (sym here) ∙ ap (λ k. same t x.name.tenant && names_retry number k) (sym is) ∙ none in
            ap (λ s. retry_due (desk_of s desks) other) own ∙ sym (elsewhere other another) ∙ ap (λ s. retry_due (desk_of s others) other) (sym own)
        by_tenant false e = ap (λ (d : Desk). retry_due d other) (sym (apart x.name.tenant e))
    same_due x (Push instance) is none = refl

    by_test : (x : Timer) (b : Bool) → is_retry t number x ≡ b → cond b (gave (retry_due (desk_of t others) number) x.due) (has_timer timers x) ≡ is_planned (plan_of x.name.tenant (record { paces = book; groups = groups; desks = others })) x
    by_test x true e = own_due x x.name.key refl e
    by_test x false e = kept.timed x ∙ ap (λ o. gave o x.due) (same_due x x.name.key refl e)

-- the attempts changed, but not when a next try is due
pub kept_still : (book : List (List ℕ × List Pace)) (groups : List (List ℕ × Grouped)) (desks others : Desks) (timers : List Timer) → IsKept (record { paces = book; groups = groups; desks = desks }) timers
    → ((s : List ℕ) (n : ℕ) → retry_due (desk_of s others) n ≡ retry_due (desk_of s desks) n) → IsKept (record { paces = book; groups = groups; desks = others }) timers
unfolding plan_of
kept_still book groups desks others timers kept stays = record {
  rising = kept.rising;
  timed = λ x. kept.timed x ∙ ap (λ o. gave o x.due) (same_due x x.name.key);
}
  where
    same_due : (x : Timer) (key : Key) → due_of (plan_of x.name.tenant (record { paces = book; groups = groups; desks = desks })) key ≡ due_of (plan_of x.name.tenant (record { paces = book; groups = groups; desks = others })) key
    same_due x (Operation other) = refl
    same_due x (Group key) = refl
    same_due x (Retry other) = sym (stays x.name.tenant other)
    same_due x (Push instance) = refl
