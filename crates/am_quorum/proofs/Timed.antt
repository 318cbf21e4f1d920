-- The timers are the deadlines of open operations, after each change.
use Rattle.std.proofs.Common.{◌≡◌, ℕ, ◌==◌, Bool, true, false, ◌&&◌, ◌||◌, not, List, [], ◌∷◌, Option, Some, None, if◌then◌else◌, refl, sym, ap, ◌∙◌, arith}
use Rattle.std.specs.BTreeMap.{BTreeMap, WritesThrough, get}
use Rattle.std.specs.Cmp.{tied_then}
use Rattle.std.specs.Cmp.Lexicographic.{slice_cmp}
use Rattle.std.specs.List.{list_any}
use Rattle.std.specs.Option.{option_map_or}
use Rattle.std.specs.Ordering.{is_eq, nat_cmp}
use Rattle.std.proofs.lemmas.Bool.{false≢true}
use Rattle.std.proofs.lemmas.Bool.Decides.{nat_tests}
use Rattle.am_tenant.specs.Names.{same}
use Rattle.am_tenant.proofs.Same.{eq_from_same, is_eq-name_cmp, same-sym}
use Rattle.am_timer.specs.declared.key.TimerKey.TheVariants.{Operation as OperationKey, Group, Retry, Push}
use Rattle.am_timer.specs.Queue.{is_named, with_timer, without}
use Rattle.am_timer.specs.Tied.{has_timer}
use Rattle.am_timer.specs.Timer.{Key, Name, Timer, key_cmp, name_cmp, timer_cmp}
use Rattle.am_timer.proofs.Orders.{name_ties, same_name, same_timer}
use Rattle.am_timer.proofs.TiedLemmas.{has-filter, has-insert}
use Rattle.am_quorum.specs.declared.operation.Operation.{Operation}
use Rattle.am_quorum.specs.Deadlines.{AreTimed, EndsDeadline, IsTimed, KeepDeadlines, deadline_at, deadline_for, deadline_name, is_deadline, is_deadline_in, without_deadlines}
use Rattle.am_quorum.specs.Dockets.{Changes, Docket, Ops, docket_of, operations_of}
use Rattle.am_quorum.proofs.Seen.{each_written, ops_in, own_docket, tenants}

-- the key is that of a number's deadline
abbrev pub is_of : (number : ℕ) → Key → Bool
is_of number (OperationKey other) = other == number
is_of number (Group key) = false
is_of number (Retry other) = false
is_of number (Push instance) = false

-- the timer is the one of that name
pub named_is : (tenant : List ℕ) (number : ℕ) (x : Timer) → is_named (deadline_name tenant number) x ≡ (same tenant x.name.tenant && is_of number x.name.key)
unfolding key_cmp
named_is tenant number x =
    sym (tied_then (slice_cmp nat_cmp tenant x.name.tenant) (key_cmp (OperationKey number) x.name.key))
    ∙ ap (λ b. b && is_eq (key_cmp (OperationKey number) x.name.key)) (is_eq-name_cmp tenant x.name.tenant)
    ∙ ap (λ b. same tenant x.name.tenant && b) (by_kind x.name.key)
  where
    same_number : (n m : ℕ) → is_eq (nat_cmp n m) ≡ (m == n)
    same_number n m = grind (arith, nat_tests)

    by_kind : (key : Key) → is_eq (key_cmp (OperationKey number) key) ≡ is_of number key
    by_kind (OperationKey other) = same_number number other
    by_kind (Group key) = refl
    by_kind (Retry other) = refl
    by_kind (Push instance) = refl

-- a timer of a name is the one that is due then
due_then : (x y : Timer) → x.name ≡ y.name → is_eq (timer_cmp x y) ≡ (y.due == x.due)
due_then x y named =
    sym (tied_then (nat_cmp x.due y.due) (name_cmp x.name y.name))
    ∙ ap (λ (n : Name). is_eq (nat_cmp x.due y.due) && is_eq (name_cmp n y.name)) named
    ∙ ap (λ o. is_eq (nat_cmp x.due y.due) && is_eq o) (name_ties y.name)
    ∙ numbers x.due y.due
  where
    numbers : (m n : ℕ) → (is_eq (nat_cmp m n) && true) ≡ (n == m)
    numbers m n = grind (arith, nat_tests)

-- ---- the operations of one tenant

-- what is told of a timer by operations
abbrev told : Timer → Option ℕ → Bool
told x due = option_map_or (λ d. d == x.due) due false

module _ (x : Timer) (old new : List Operation) where
  kept_for : KeepDeadlines old new → (key : Key) → deadline_for key new ≡ deadline_for key old
  kept_for keeps (OperationKey number) = keeps number
  kept_for keeps (Group key) = refl
  kept_for keeps (Retry number) = refl
  kept_for keeps (Push instance) = refl

  changed_for : (number : ℕ) (due : Option ℕ) → ((n : ℕ) → deadline_at n new ≡ (if n == number then due else deadline_at n old)) → (key : Key)
      → deadline_for key new ≡ (if is_of number key then due else deadline_for key old)
  changed_for number due changes (OperationKey other) = changes other
  changed_for number due changes (Group key) = refl
  changed_for number due changes (Retry other) = refl
  changed_for number due changes (Push instance) = refl

  -- without the timer of a deadline that is gone
  told_without : (number : ℕ) → EndsDeadline number old new → (not (is_of number x.name.key) && is_deadline_in old x) ≡ is_deadline_in new x
  told_without number ends = by_test (is_of number x.name.key) refl ∙ sym (ap (told x) (changed_for number None ends x.name.key))
    where
      by_test : (b : Bool) → is_of number x.name.key ≡ b → (not b && is_deadline_in old x) ≡ told x (if b then None else deadline_for x.name.key old)
      by_test true h = refl
      by_test false h = refl

-- ---- of all tenants

-- the docket of a tenant is another one now, and those of all others stay
module _ (tenant : List ℕ) (old new : Ops) (was now : Docket) (each : Changes tenant (λ d. now) old new) (own_is : docket_of tenant old ≡ was)
    (before after : List Timer) (timed : AreTimed old before) where
  abbrev were : List Operation
  were = was.operations

  abbrev are : List Operation
  are = now.operations

  abbrev is_now : (t : List ℕ) → Bool → Docket
  is_now t b = if b then now else docket_of t old

  -- where the timers of the tenant are those of its operations now, and the others' stay
  all_timed : ((x : Timer) → same tenant x.name.tenant ≡ true → is_deadline_in were x ≡ has_timer before x → has_timer after x ≡ is_deadline_in are x)
      → ((x : Timer) → same tenant x.name.tenant ≡ false → has_timer after x ≡ has_timer before x) → AreTimed new after
  all_timed own others x = by_tenant (same tenant x.name.tenant) refl
    where
      by_tenant : (b : Bool) → same tenant x.name.tenant ≡ b → has_timer after x ≡ is_deadline new x
      by_tenant true e =
          let it : tenant ≡ x.name.tenant = sym (eq_from_same x.name.tenant tenant (same-sym x.name.tenant tenant ∙ e)) in
          own x e (sym (timed x ∙ ap (λ t. is_deadline_in (operations_of t old) x) (sym it) ∙ ap (λ (d : Docket). is_deadline_in d.operations x) own_is))
          ∙ ap (λ b. is_deadline_in (is_now x.name.tenant b).operations x) (sym (same-sym x.name.tenant tenant ∙ e))
          ∙ ap (λ (d : Docket). is_deadline_in d.operations x) (sym (each x.name.tenant))
      by_tenant false e =
          others x e ∙ timed x
          ∙ ap (λ b. is_deadline_in (is_now x.name.tenant b).operations x) (sym (same-sym x.name.tenant tenant ∙ e))
          ∙ ap (λ (d : Docket). is_deadline_in d.operations x) (sym (each x.name.tenant))

  -- no deadline changed
  pub timed_kept : after ≡ before → KeepDeadlines were are → AreTimed new after
  timed_kept same keeps = all_timed
      (λ x own was. ap (λ ts. has_timer ts x) same ∙ sym was ∙ sym (ap (told x) (kept_for x were are keeps x.name.key)))
      (λ x other. ap (λ ts. has_timer ts x) same)

  -- one ended
  pub timed_ended : (number : ℕ) → EndsDeadline number were are → ((x : Timer) → has_timer after x ≡ (not (is_named (deadline_name tenant number) x) && has_timer before x)) → AreTimed new after
  timed_ended number ends left = all_timed
      (λ x own was. left x ∙ ap (λ b. not b && has_timer before x) (named_is tenant number x ∙ ap (λ b. b && is_of number x.name.key) own)
      ∙ ap (λ b. not (is_of number x.name.key) && b) (sym was) ∙ told_without x were are number ends)
      (λ x other. left x ∙ ap (λ b. not b && has_timer before x) (named_is tenant number x ∙ ap (λ b. b && is_of number x.name.key) other))

  -- one came
  pub timed_started : (y : Timer) (number : ℕ) → y.name ≡ deadline_name tenant number → ((n : ℕ) → deadline_at n are ≡ (if n == number then Some y.due else deadline_at n were)) → after ≡ with_timer y before → AreTimed new after
  timed_started y number named came is = all_timed (λ x own was. has x ∙ by_own x own was) (λ x other. has x ∙ by_other x other)
    where
      has : (x : Timer) → has_timer after x ≡ (is_eq (timer_cmp x y) || (not (is_named y.name x) && has_timer before x))
      has x = ap (λ ts. has_timer ts x) is ∙ has-insert (without y.name before) y x ∙ ap (λ b. is_eq (timer_cmp x y) || b) (has-filter (λ z. not (is_named y.name z)) before x)

      named_for : (x : Timer) → is_named y.name x ≡ (same tenant x.name.tenant && is_of number x.name.key)
      named_for x = ap (λ (n : Name). is_named n x) named ∙ named_is tenant number x

      -- where it has another name it is another timer
      not_it : (x : Timer) → is_named y.name x ≡ false → is_eq (timer_cmp x y) ≡ false
      not_it x h = by_timer (is_eq (timer_cmp x y)) refl
        where
          by_timer : (c : Bool) → is_eq (timer_cmp x y) ≡ c → c ≡ false
          by_timer true e = absurd (false≢true (sym h ∙ ap (λ (z : Timer). is_named y.name z) (same_timer x y e) ∙ ap is_eq (name_ties y.name)))
          by_timer false e = refl

      nothing_more : (c : Bool) → (c || false) ≡ c
      nothing_more true = refl
      nothing_more false = refl

      by_own : (x : Timer) → same tenant x.name.tenant ≡ true → is_deadline_in were x ≡ has_timer before x → (is_eq (timer_cmp x y) || (not (is_named y.name x) && has_timer before x)) ≡ is_deadline_in are x
      by_own x own was = by_key (is_of number x.name.key) refl ∙ sym (ap (told x) (changed_for x were are number (Some y.due) came x.name.key))
        where
          its_name : is_named y.name x ≡ is_of number x.name.key
          its_name = named_for x ∙ ap (λ b. b && is_of number x.name.key) own

          by_key : (b : Bool) → is_of number x.name.key ≡ b → (is_eq (timer_cmp x y) || (not (is_named y.name x) && has_timer before x)) ≡ told x (if b then Some y.due else deadline_for x.name.key were)
          by_key true h =
              rw (its_name ∙ h) (nothing_more (is_eq (timer_cmp x y)) ∙ due_then x y (sym (same_name y.name x.name (its_name ∙ h))))
          by_key false h = rw (not_it x (its_name ∙ h), its_name ∙ h) (sym was)

      by_other : (x : Timer) → same tenant x.name.tenant ≡ false → (is_eq (timer_cmp x y) || (not (is_named y.name x) && has_timer before x)) ≡ has_timer before x
      by_other x other =
          let another : is_named y.name x ≡ false = named_for x ∙ ap (λ b. b && is_of number x.name.key) other in
          rw (not_it x another, another) refl

  -- all ended
  pub timed_emptied : are ≡ [] → after ≡ without_deadlines tenant were before → AreTimed new after
  timed_emptied none is = all_timed (λ x own was. has x ∙ by_own x own was ∙ sym (ap (λ ops. is_deadline_in ops x) none ∙ nothing x x.name.key))
      (λ x other. has x ∙ ap (λ b. not b && has_timer before x) (no_other x other were))
    where
      names : List Operation → Timer → Bool
      names ops x = list_any (λ (o : Operation). is_named (deadline_name tenant o.number) x) ops

      has : (x : Timer) → has_timer after x ≡ (not (names were x) && has_timer before x)
      has x = ap (λ ts. has_timer ts x) is ∙ has-filter (λ z. not (names were z)) before x

      nothing : (x : Timer) (key : Key) → told x (deadline_for key []) ≡ false
      nothing x (OperationKey number) = refl
      nothing x (Group key) = refl
      nothing x (Retry number) = refl
      nothing x (Push instance) = refl

      no_other : (x : Timer) → same tenant x.name.tenant ≡ false → (ops : List Operation) → names ops x ≡ false
      no_other x other [] = refl
      no_other x other (o ∷ ops) =
          ap (λ b. b || names ops x) (named_is tenant o.number x ∙ ap (λ b. b && is_of o.number x.name.key) other) ∙ no_other x other ops

      no_more : (b : Bool) → (not b && false) ≡ false
      no_more true = refl
      no_more false = refl

      -- a deadline that isn't named isn't told
      not_told : (x : Timer) → same tenant x.name.tenant ≡ true → (key : Key) → x.name.key ≡ key → (ops : List Operation) → (not (names ops x) && told x (deadline_for key ops)) ≡ false
      not_told x own (OperationKey number) is [] = refl
      not_told x own (OperationKey number) is (o ∷ ops) = by_number (o.number == number) refl (not_told x own (OperationKey number) is ops)
        where
          its_name : is_named (deadline_name tenant o.number) x ≡ (number == o.number)
          its_name = named_is tenant o.number x ∙ ap (λ b. b && is_of o.number x.name.key) own ∙ ap (is_of o.number) is

          turned : (b : Bool) → (o.number == number) ≡ b → (number == o.number) ≡ b
          turned b e = grind (arith, nat_tests, e)

          by_number : (b : Bool) → (o.number == number) ≡ b → (not (names ops x) && told x (deadline_at number ops)) ≡ false → (not (names (o ∷ ops) x) && told x (deadline_at number (o ∷ ops))) ≡ false
          by_number true e rest = rw (its_name ∙ turned true e) refl
          by_number false e rest = rw (its_name ∙ turned false e, e) rest
      not_told x own (Group key) is ops = no_more (names ops x)
      not_told x own (Retry number) is ops = no_more (names ops x)
      not_told x own (Push instance) is ops = no_more (names ops x)

      by_own : (x : Timer) → same tenant x.name.tenant ≡ true → is_deadline_in were x ≡ has_timer before x → (not (names were x) && has_timer before x) ≡ false
      by_own x own was = ap (λ b. not (names were x) && b) (sym was) ∙ not_told x own x.name.key refl were

-- ---- setting and cancelling

-- what is left once a timer was cancelled
pub left_without : (name : Name) (before after : List Timer) → after ≡ without name before → (x : Timer) → has_timer after x ≡ (not (is_named name x) && has_timer before x)
left_without name before after is x = ap (λ ts. has_timer ts x) is ∙ has-filter (λ z. not (is_named name z)) before x

-- .. once one was set and cancelled
pub left_again : (y : Timer) (before mid after : List Timer) → mid ≡ with_timer y before → after ≡ without y.name mid → (x : Timer) → has_timer after x ≡ (not (is_named y.name x) && has_timer before x)
left_again y before mid after set is x =
    left_without y.name mid after is x ∙ ap (λ ts. not (is_named y.name x) && has_timer ts x) set
    ∙ ap (λ b. not (is_named y.name x) && b) (has-insert (without y.name before) y x ∙ ap (λ b. is_eq (timer_cmp x y) || b) (has-filter (λ z. not (is_named y.name z)) before x))
    ∙ by_name (is_named y.name x) refl
  where
    by_name : (b : Bool) → is_named y.name x ≡ b → (not b && (is_eq (timer_cmp x y) || (not b && has_timer before x))) ≡ (not b && has_timer before x)
    by_name true h = refl
    by_name false h = by_timer (is_eq (timer_cmp x y)) refl
      where
        by_timer : (c : Bool) → is_eq (timer_cmp x y) ≡ c → (c || has_timer before x) ≡ has_timer before x
        by_timer true e = absurd (false≢true (sym h ∙ ap (λ (z : Timer). is_named y.name z) (same_timer x y e) ∙ ap is_eq (name_ties y.name)))
        by_timer false e = refl

-- a number that no operation has ends with no change
pub unused_ends : (n : ℕ) (ops : List Operation) → deadline_at n ops ≡ None → EndsDeadline n ops ops
unused_ends n ops unused m = by_number (m == n) refl
  where
    by_number : (b : Bool) → (m == n) ≡ b → deadline_at m ops ≡ (if b then None else deadline_at m ops)
    by_number true e =
        let it : m ≡ n = grind (arith, nat_tests, e) in
        ap (λ k. deadline_at k ops) it ∙ unused
    by_number false e = refl

-- ---- a docket that was found

module _ (i : ℕ) (m n : BTreeMap (List ℕ) Docket) (tenant : List ℕ) (was now : Docket) (found : Some was ≡ get tenants m tenant) (wrote : WritesThrough tenants (tenants tenant) m now n)
    (before after : List Timer) (kept : IsTimed (ops_in i m) before) where
  each_now : Changes tenant (λ d. now) (ops_in i m) (ops_in i n)
  each_now = each_written i m n tenant (λ d. now) was now found wrote refl

  own : docket_of tenant (ops_in i m) ≡ was
  own = own_docket i m tenant was found

  -- no deadline changed
  pub is_kept : after ≡ before → KeepDeadlines was.operations now.operations → IsTimed (ops_in i n) after
  is_kept same keeps = record { rising = wrote.4; timed = timed_kept tenant (ops_in i m) (ops_in i n) was now each_now own before after kept.timed same keeps }

  -- one ended
  pub is_ended : (number : ℕ) → EndsDeadline number was.operations now.operations → after ≡ without (deadline_name tenant number) before → IsTimed (ops_in i n) after
  is_ended number ends left = record {
    rising = wrote.4;
    timed = timed_ended tenant (ops_in i m) (ops_in i n) was now each_now own before after kept.timed number ends (left_without (deadline_name tenant number) before after left);
  }

  -- all ended
  pub is_emptied : now.operations ≡ [] → after ≡ without_deadlines tenant was.operations before → IsTimed (ops_in i n) after
  is_emptied none left = record { rising = wrote.4; timed = timed_emptied tenant (ops_in i m) (ops_in i n) was now each_now own before after kept.timed none left }

-- ---- several, one after the other

-- one more is cancelled
pub cancelled_more : (t : List ℕ) (o : Operation) (ops : List Operation) (ts : List Timer) → without_deadlines t ops (without (deadline_name t o.number) ts) ≡ without_deadlines t (o ∷ ops) ts
cancelled_more t o ops [] = refl
cancelled_more t o ops (x ∷ xs) = by_cases (is_named (deadline_name t o.number) x) (list_any (λ (p : Operation). is_named (deadline_name t p.number) x) ops) refl refl (cancelled_more t o ops xs)
  where
    by_cases : (a b : Bool) → is_named (deadline_name t o.number) x ≡ a → list_any (λ (p : Operation). is_named (deadline_name t p.number) x) ops ≡ b
        → without_deadlines t ops (without (deadline_name t o.number) xs) ≡ without_deadlines t (o ∷ ops) xs
        → without_deadlines t ops (without (deadline_name t o.number) (x ∷ xs)) ≡ without_deadlines t (o ∷ ops) (x ∷ xs)
    by_cases true b e f rest = rw e rest
    by_cases false true e f rest = rw e (rw f rest)
    by_cases false false e f rest = rw e (rw f (ap (λ (ys : List Timer). x ∷ ys) rest))

-- none is
pub none_cancelled : (t : List ℕ) (ts : List Timer) → without_deadlines t [] ts ≡ ts
none_cancelled t [] = refl
none_cancelled t (x ∷ xs) = ap (λ (ys : List Timer). x ∷ ys) (none_cancelled t xs)
