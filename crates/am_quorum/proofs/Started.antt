-- An operation is opened, or isn't: the timers are the deadlines afterwards.
use Rattle.std.proofs.Common.{◌≡◌, ◌⊎◌, inl, inr, ◌≤◌, ◌<◌, ◌+◌, ℕ, Bool, true, false, nat_lt, ◌==◌, ◌&&◌, not, cond, List, Some, None, option_map, refl, sym, ap, ◌∙◌, subst, arith, if◌then◌else◌}
use Rattle.std.specs.BTreeMap.{BTreeMap, get, is_at}
use Rattle.std.specs.List.Sorted.{IsStrictlySortedBy}
use Rattle.std.specs.Map.{keys_of}
use Rattle.std.proofs.lemmas.Bool.Decides.{nat_tests}
use Rattle.am_timer.specs.Queue.{is_named, with_timer, without}
use Rattle.am_timer.specs.Tied.{has_timer}
use Rattle.am_timer.specs.Timer.{Name, Timer}
use Rattle.am_quorum.specs.declared.operation.Operation.{Operation}
use Rattle.am_quorum.specs.Deadlines.{EndsDeadline, IsTimed, KeepDeadlines, deadline_at, deadline_name}
use Rattle.am_quorum.specs.Dockets.{Changes, Docket, Ops, added, docket_of, found_docket, next_number}
use Rattle.am_quorum.specs.Operations.{due_of, operation_at}
use Rattle.am_quorum.proofs.Deadlines.{more_deadlines}
use Rattle.am_quorum.proofs.Seen.{docket_seen, each_changed, ops_in, tenants}
use Rattle.am_quorum.proofs.Timed.{left_again, left_without, timed_ended, timed_kept, timed_started, unused_ends}

-- ---- numbers

-- there is a next one
pub has_next : (d : Docket) (n : ℕ) → Some n ≡ next_number d → (d.used < 4611686018427387904) × (n ≡ d.used + 1)
has_next d n is = by_test (nat_lt d.used 4611686018427387904) refl
  where
    low : nat_lt d.used 4611686018427387904 ≡ true → d.used < 4611686018427387904
    low e = grind (arith, nat_tests, e)

    by_test : (b : Bool) → nat_lt d.used 4611686018427387904 ≡ b → (d.used < 4611686018427387904) × (n ≡ d.used + 1)
    by_test true e =
        let one : Some n ≡ Some (d.used + 1) = rw e at is in
        (low e, cc)
    by_test false e =
        let none : Some n ≡ None = rw e at is in
        absurd (cc)

-- there is none
pub given_up : (own d : Docket) → own ≡ d → None ≡ next_number d → 4611686018427387904 ≤ own.used
given_up own d same is = by_test (nat_lt d.used 4611686018427387904) refl
  where
    high : nat_lt d.used 4611686018427387904 ≡ false → 4611686018427387904 ≤ own.used
    high e = grind (arith, nat_tests, e, ap (λ (x : Docket). x.used) same)

    by_test : (b : Bool) → nat_lt d.used 4611686018427387904 ≡ b → 4611686018427387904 ≤ own.used
    by_test true e =
        let some : None ≡ Some (d.used + 1) = rw e at is in
        absurd (cc)
    by_test false e = high e

-- maps of equal entries
pub same_entries : (i : ℕ) (es fs : List (List ℕ × Docket)) (timers : List Timer) → IsTimed (record { incarnation = i; dockets = fs }) timers → es ≡ fs → IsTimed (record { incarnation = i; dockets = es }) timers
same_entries i es fs timers kept same = subst (λ (xs : List (List ℕ × Docket)). let o : Ops = record { incarnation = i; dockets = xs } in IsTimed o timers) (sym same) kept

-- ---- a docket that was found, or is new

module _ (i : ℕ) (m n : BTreeMap (List ℕ) Docket) (tenant : List ℕ) (was now : Docket) (gets : (q : List ℕ) → get tenants n q ≡ cond (is_at (tenants tenant) q) (Some now) (get tenants m q))
    (rising : IsStrictlySortedBy tenants (keys_of n.entries)) (found : found_docket (get tenants m tenant) ≡ was) where
  each_now : Changes tenant (λ d. now) (ops_in i m) (ops_in i n)
  each_now = each_changed i m n tenant (λ d. now) was now gets found refl

  own : docket_of tenant (ops_in i m) ≡ was
  own = docket_seen i tenant m ∙ found

  keeps : now ≡ was → KeepDeadlines was.operations now.operations
  keeps same k = ap (λ (d : Docket). deadline_at k d.operations) same

  -- nothing changed
  pub is_unchanged : now ≡ was → (before after : List Timer) → IsTimed (ops_in i m) before → after ≡ before → IsTimed (ops_in i n) after
  is_unchanged same before after kept left = record {
    rising = rising;
    timed = timed_kept tenant (ops_in i m) (ops_in i n) was now each_now own before after kept.timed left (keeps same);
  }

  -- a number that no operation has
  ends_none : now ≡ was → (number : ℕ) → operation_at number was.operations ≡ None → EndsDeadline number was.operations now.operations
  ends_none same number unused k = keeps same k ∙ unused_ends number was.operations (ap (option_map due_of) unused) k

  -- its timer was set, and cancelled again
  pub set_again : now ≡ was → (before set after : List Timer) → IsTimed (ops_in i m) before → (number : ℕ) (timer : Timer) → timer.name ≡ deadline_name tenant number
      → operation_at number was.operations ≡ None → set ≡ with_timer timer before → after ≡ without (deadline_name tenant number) set → IsTimed (ops_in i n) after
  set_again same before set after kept number timer named unused is left = record {
    rising = rising;
    timed = timed_ended tenant (ops_in i m) (ops_in i n) was now each_now own before after kept.timed number (ends_none same number unused)
        (λ x. left_again timer before set after is (left ∙ ap (λ k. without k set) (sym named)) x ∙ ap (λ (k : Name). not (is_named k x) && has_timer before x) named);
  }

  -- an operation more, and its timer
  pub is_opened : (before after : List Timer) → IsTimed (ops_in i m) before → (operation : Operation) (timer : Timer) → now ≡ added operation was → timer.name ≡ deadline_name tenant operation.number
      → timer.due ≡ due_of operation → operation_at operation.number was.operations ≡ None → after ≡ with_timer timer before → IsTimed (ops_in i n) after
  is_opened before after kept operation timer more named due unused is = record {
    rising = rising;
    timed = timed_started tenant (ops_in i m) (ops_in i n) was now each_now own before after kept.timed timer operation.number named
        (λ k.
        ap (λ (d : Docket). deadline_at k d.operations) more ∙ more_deadlines operation was.operations unused k
        ∙ ap (λ d. if k == operation.number then Some d else deadline_at k was.operations) (sym due))
        is;
  }

-- its timer wasn't set
pub none_set : (i : ℕ) (m n : BTreeMap (List ℕ) Docket) (tenant : List ℕ) (was : Docket) → ((q : List ℕ) → get tenants n q ≡ cond (is_at (tenants tenant) q) (Some was) (get tenants m q))
    → IsStrictlySortedBy tenants (keys_of n.entries) → found_docket (get tenants m tenant) ≡ was → (before after : List Timer) → IsTimed (ops_in i m) before → (number : ℕ) (name : Name) → name ≡ deadline_name tenant number
    → operation_at number was.operations ≡ None → (after ≡ before) ⊎ (after ≡ without name before) → IsTimed (ops_in i n) after
none_set i m n tenant was gets rising found before after kept number name named unused (inl same) = is_unchanged i m n tenant was was gets rising found refl before after kept same
none_set i m n tenant was gets rising found before after kept number name named unused (inr left) = record {
  rising = rising;
  timed = timed_ended tenant (ops_in i m) (ops_in i n) was was (each_now i m n tenant was was gets rising found) (own i m n tenant was was gets rising found) before after kept.timed number
      (unused_ends number was.operations (ap (option_map due_of) unused))
      (left_without (deadline_name tenant number) before after (left ∙ ap (λ k. without k before) named));
}
