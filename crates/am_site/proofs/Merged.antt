-- The timers that a node, the operations and settling give have none in common, and only a node gives flushes.
use Rattle.std.proofs.Common.{◌≡◌, ℕ, ◌+◌, ◌==◌, ◌≤◌, Bool, true, false, ◌&&◌, ◌||◌, List, ◌++◌, ap, refl, sym, ◌∙◌, arith}
use Rattle.std.specs.List.{list_any}
use Rattle.std.specs.List.Sorted.{IsPermutation, IsSorted, IsStrictlySortedBy}
use Rattle.std.specs.Option.{option_map_or}
use Rattle.std.proofs.lemmas.Bool.{false≢true}
use Rattle.std.proofs.lemmas.List.Folds.{list_any-append}
use Rattle.std.proofs.lemmas.List.Sorted.{list_any-IsPermutation}
use Rattle.am_agenda.specs.Plan.{Plan, due_of, timers_in}
use Rattle.am_members.specs.Members.{gave}
use Rattle.am_node.specs.Held.{local_of as local_in_node}
use Rattle.am_node.specs.Ticks.{is_flush, is_flush_of, some_flush}
use Rattle.am_quorum.specs.Deadlines.{deadline_for, is_deadline}
use Rattle.am_quorum.specs.Dockets.{operations_of}
use Rattle.am_tenant.specs.Names.{same}
use Rattle.am_timer.specs.Queue.{due_at, is_due, timers_of}
use Rattle.am_timer.specs.Tied.{has_timer}
use Rattle.am_timer.specs.Timer.{Key, Timer, timer_cmp}
use Rattle.am_timer.specs.declared.key.TimerKey.TheVariants.{Operation as OperationKey, Group as GroupKey, Retry as RetryKey, Push as PushKey}
use Rattle.am_transfer.specs.Tenants.{progress_of}
use Rattle.am_transfer.specs.Timers.{due_for, is_at, is_told}
use Rattle.am_site.specs.declared.site.Site.{Site}
use Rattle.am_site.proofs.DueTimers.{planned_has}
use Rattle.am_site.proofs.Listed.{none_passes}
use Rattle.am_site.proofs.Reacting.{and_false}
use Rattle.am_site.proofs.Strict.{no_time, once_at_most, strict, times, times-append}

module _ (moment : ℕ) (site : Site) (plans ends again : List Timer)
    (planned : (t : List ℕ) → timers_of t plans ≡ due_at moment (timers_in t (local_in_node t site.node).plan))
    (ended : (x : Timer) → has_timer ends x ≡ (is_due moment x && is_deadline site.operations x))
    (told : (x : Timer) → has_timer again x ≡ (is_due moment x && is_told x site.settling.progress)) where
  abbrev all : List Timer
  all = (plans ++ ends) ++ again

  -- a key of another kind is for none of a list
  module _ (x : Timer) where
    abbrev plan : Plan
    plan = (local_in_node x.name.tenant site.node).plan

    abbrev planned_at : Key → Bool
    planned_at key = gave (due_of plan key) x.due

    abbrev ends_at : Key → Bool
    ends_at key = option_map_or (λ due. due == x.due) (deadline_for key (operations_of x.name.tenant site.operations)) false

    abbrev again_at : Key → Bool
    again_at key = is_at (due_for key (progress_of x.name.tenant site.settling.progress)) x.due

    no_plan : (key : Key) → x.name.key ≡ key → planned_at key ≡ false → has_timer plans x ≡ false
    no_plan key is none = planned_has moment site plans ends again planned ended told x ∙ ap (λ k. is_due moment x && planned_at k) is ∙ ap (λ b. is_due moment x && b) none ∙ and_false (is_due moment x)

    no_end : (key : Key) → x.name.key ≡ key → ends_at key ≡ false → has_timer ends x ≡ false
    no_end key is none = ended x ∙ ap (λ k. is_due moment x && ends_at k) is ∙ ap (λ b. is_due moment x && b) none ∙ and_false (is_due moment x)

    no_more : (key : Key) → x.name.key ≡ key → again_at key ≡ false → has_timer again x ≡ false
    no_more key is none = told x ∙ ap (λ k. is_due moment x && again_at k) is ∙ ap (λ b. is_due moment x && b) none ∙ and_false (is_due moment x)

  -- ---- each is there once

  module _ (rising_plans : IsStrictlySortedBy timer_cmp plans) (rising_ends : IsStrictlySortedBy timer_cmp ends) (rising_again : IsStrictlySortedBy timer_cmp again) where
    once : (q : Timer) → times q all ≤ 1
    once q = by q.name.key refl
      where
        whole : times q all ≡ (times q plans + times q ends) + times q again
        whole = times-append q (plans ++ ends) again ∙ ap (λ n. n + times q again) (times-append q plans ends)

        at_node : has_timer ends q ≡ false → has_timer again q ≡ false → times q all ≤ 1
        at_node b c =
            let some : times q plans ≤ 1 = once_at_most q plans rising_plans in
            let none : times q ends ≡ 0 = no_time q ends b in
            let nor : times q again ≡ 0 = no_time q again c in
            omega (arith, whole, some, none, nor)

        by : (key : Key) → q.name.key ≡ key → times q all ≤ 1
        by (OperationKey n) is =
            let none : times q plans ≡ 0 = no_time q plans (no_plan q (OperationKey n) is refl) in
            let some : times q ends ≤ 1 = once_at_most q ends rising_ends in
            let nor : times q again ≡ 0 = no_time q again (no_more q (OperationKey n) is refl) in
            omega (arith, whole, none, some, nor)
        by (GroupKey key) is = at_node (no_end q (GroupKey key) is refl) (no_more q (GroupKey key) is refl)
        by (RetryKey n) is = at_node (no_end q (RetryKey n) is refl) (no_more q (RetryKey n) is refl)
        by (PushKey i) is =
            let none : times q plans ≡ 0 = no_time q plans (no_plan q (PushKey i) is refl) in
            let nor : times q ends ≡ 0 = no_time q ends (no_end q (PushKey i) is refl) in
            let some : times q again ≤ 1 = once_at_most q again rising_again in
            omega (arith, whole, none, nor, some)

    -- so they are in strict order once they are sorted
    pub merged_order : (due : List Timer) → IsPermutation all due → IsSorted timer_cmp due → IsStrictlySortedBy timer_cmp due
    merged_order due moved sorted = strict all due once moved sorted

  -- ---- flushes

  module _ (t : List ℕ) where
    not_flush : (xs : List Timer) → ((x : Timer) (key : Key) → x.name.key ≡ key → is_flush key ≡ true → has_timer xs x ≡ false) → list_any (is_flush_of t) xs ≡ false
    not_flush xs none = none_passes (is_flush_of t) xs (λ x there. by x there (is_flush x.name.key) refl)
      where
        by : (x : Timer) → has_timer xs x ≡ true → (b : Bool) → is_flush x.name.key ≡ b → (same t x.name.tenant && b) ≡ false
        by x there true flush = absurd (false≢true (sym (none x x.name.key refl flush) ∙ there))
        by x there false flush = and_false (same t x.name.tenant)

    no_flush_ends : (x : Timer) (key : Key) → x.name.key ≡ key → is_flush key ≡ true → has_timer ends x ≡ false
    no_flush_ends x (OperationKey n) is flush = absurd (false≢true flush)
    no_flush_ends x (GroupKey key) is flush = no_end x (GroupKey key) is refl
    no_flush_ends x (RetryKey n) is flush = absurd (false≢true flush)
    no_flush_ends x (PushKey i) is flush = absurd (false≢true flush)

    no_flush_again : (x : Timer) (key : Key) → x.name.key ≡ key → is_flush key ≡ true → has_timer again x ≡ false
    no_flush_again x (OperationKey n) is flush = absurd (false≢true flush)
    no_flush_again x (GroupKey key) is flush = no_more x (GroupKey key) is refl
    no_flush_again x (RetryKey n) is flush = absurd (false≢true flush)
    no_flush_again x (PushKey i) is flush = absurd (false≢true flush)

    -- a flush among all is one of the node's
    pub merged_flush : (due : List Timer) → IsPermutation all due → some_flush t due ≡ true → some_flush t plans ≡ true
    unfolding some_flush
    merged_flush due moved some =
        let test = is_flush_of t in
        sym (list_any-append test (plans ++ ends) again
        ∙ ap (λ b. b || list_any test again) (list_any-append test plans ends)
        ∙ ap (λ b. (list_any test plans || b) || list_any test again) (not_flush ends no_flush_ends)
        ∙ ap (λ b. (list_any test plans || false) || b) (not_flush again no_flush_again)
        ∙ alone (list_any test plans))
        ∙ list_any-IsPermutation test all due moved ∙ some
      where
        alone : (b : Bool) → ((b || false) || false) ≡ b
        alone true = refl
        alone false = refl
