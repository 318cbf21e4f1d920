-- What is due of each tenant is what is due of its timers.
use Rattle.std.proofs.Common.{◌≡◌, ℕ, ◌==◌, Bool, true, false, ◌&&◌, ◌||◌, not, List, [], ◌∷◌, ◌++◌, map, Option, Some, None, is_some, unwrap_or, option_map, ap, refl, sym, ◌∙◌, arith, if◌then◌else◌}
use Rattle.std.specs.List.Sorted.{IsPermutation, IsStrictlySortedBy}
use Rattle.std.specs.Option.{option_map_or}
use Rattle.std.proofs.lemmas.Bool.Decides.{nat_tests}
use Rattle.std.proofs.lemmas.List.Sorted.{list_any-IsPermutation}
use Rattle.am_agenda.specs.Plan.{Plan, timers_in}
use Rattle.am_agenda.specs.Planned.{is_planned}
use Rattle.am_agenda.proofs.Due.{planned_is}
use Rattle.am_cluster.specs.Here.{Here, others}
use Rattle.am_cluster.specs.Local.{Local}
use Rattle.am_cluster.specs.Plans.{plan_of}
use Rattle.am_cluster.specs.Ticking.{again_after, ask_timers, deadlines, push_timers, timer_at, timers_of as all_timers}
use Rattle.am_cluster.specs.Transfers.{asked}
use Rattle.am_item.specs.Counts.{count_of}
use Rattle.am_item.specs.Retirement.{moment_after}
use Rattle.am_node.specs.Held.{local_of as local_in_node}
use Rattle.am_quorum.specs.Deadlines.{deadline_for, is_deadline, is_deadline_in}
use Rattle.am_quorum.specs.Dockets.{docket_of}
use Rattle.am_quorum.specs.Operations.{due_of, operation_at}
use Rattle.am_quorum.specs.declared.operation.Operation.{Operation}
use Rattle.am_ring.specs.Instances.{is_among}
use Rattle.am_ring.proofs.Lists.{among-filter}
use Rattle.am_tenant.specs.Names.{same}
use Rattle.am_tenant.proofs.Same.{eq_from_same, same-refl}
use Rattle.am_timer.specs.Queue.{due_at, is_due, timers_of}
use Rattle.am_timer.specs.Tied.{has_timer}
use Rattle.am_timer.specs.Timer.{Key, Timer, timer_cmp}
use Rattle.am_timer.specs.declared.key.TimerKey.TheVariants.{Operation as OperationKey, Group as GroupKey, Retry as RetryKey, Push as PushKey}
use Rattle.am_timer.proofs.TiedLemmas.{has-filter, rising-filter, same_timers}
use Rattle.am_transfer.specs.Peers.{at_number}
use Rattle.am_transfer.specs.Progress.{Progress, ask_due, due_of as again_due, push_due}
use Rattle.am_transfer.specs.Settling.{Push, Settling, is_merged, lacking}
use Rattle.am_transfer.specs.Tenants.{progress_of, settling_of}
use Rattle.am_transfer.specs.Timers.{due_for, is_at, is_told}
use Rattle.am_site.specs.Due.{IsTimely}
use Rattle.am_site.specs.Locals.{local_of}
use Rattle.am_site.specs.declared.site.Site.{Site}
use Rattle.am_site.proofs.Listed.{due_among, has-both, has-ordered, never, numbered, other_kind, rising-ordered, together, together_other}
use Rattle.am_site.proofs.Planned.{planned_as}
use Rattle.am_site.proofs.SoundSettling.{asks_apart}

-- a key of one kind names one number
operation_exact : (a b : ℕ) → OperationKey a ≡ OperationKey b → a ≡ b
operation_exact a b h = cc

push_exact : (a b : ℕ) → PushKey a ≡ PushKey b → a ≡ b
push_exact a b h = cc

-- when the operation of a number is due
found_deadline : (m n : ℕ) (ops : List Operation) → is_at (due_among (λ (o : Operation). o.number) due_of n ops) m ≡ option_map_or (λ due. due == m) (option_map due_of (operation_at n ops)) false
found_deadline m n [] = refl
found_deadline m n (o ∷ ops) = by (o.number == n) refl (found_deadline m n ops)
  where
    by : (b : Bool) → (o.number == n) ≡ b → is_at (due_among (λ (o : Operation). o.number) due_of n ops) m ≡ option_map_or (λ due. due == m) (option_map due_of (operation_at n ops)) false
        → is_at (due_among (λ (o : Operation). o.number) due_of n (o ∷ ops)) m ≡ option_map_or (λ due. due == m) (option_map due_of (operation_at n (o ∷ ops))) false
    by true h rest = rw h refl
    by false h rest = rw h rest

-- when a State that is pushed to an instance is sent again
abbrev pushed_again : ℕ × Push → ℕ
pushed_again e = moment_after (e.1).last again_after

found_push : (n : ℕ) (pushes : List (ℕ × Push)) → due_among (λ (e : ℕ × Push). e.0) pushed_again n pushes ≡ push_due (at_number n pushes) None
found_push n [] = refl
found_push n (e ∷ es) = by (e.0 == n) refl (found_push n es)
  where
    turned : (a b : ℕ) (c : Bool) → (a == b) ≡ c → (b == a) ≡ c
    turned a b true h = grind (arith, nat_tests, h)
    turned a b false h = grind (arith, nat_tests, h)

    by : (b : Bool) → (e.0 == n) ≡ b → due_among (λ (e : ℕ × Push). e.0) pushed_again n es ≡ push_due (at_number n es) None
        → due_among (λ (e : ℕ × Push). e.0) pushed_again n (e ∷ es) ≡ push_due (at_number n (e ∷ es)) None
    by true h rest = rw (h, turned e.0 n true h) refl
    by false h rest = rw (h, turned e.0 n false h) rest

module _ (here : Here) (site : Site) (timely : IsTimely here site) (x : Timer) where
  abbrev t : List ℕ
  t = here.tenant

  abbrev l : Local
  l = local_of t site

  abbrev p : Progress
  p = progress_of t site.settling.progress

  abbrev own : Bool
  own = same t x.name.tenant

  -- ---- deadlines

  deadlines_are : has_timer (deadlines t l) x ≡ (own && is_deadline_in l.operations x)
  deadlines_are = by x.name.key refl
    where
      by : (key : Key) → x.name.key ≡ key → has_timer (deadlines t l) x ≡ (own && option_map_or (λ due. due == x.due) (deadline_for key l.operations) false)
      by (OperationKey n) is =
          numbered t x (λ (o : Operation). o.number) due_of OperationKey operation_exact n is l.operations timely.order.sound.numbered
          ∙ ap (λ b. own && b) (found_deadline x.due n l.operations)
      by (GroupKey key) is = other_kind t x (λ (o : Operation). o.number) due_of OperationKey l.operations (λ n h. let apart : GroupKey key ≡ OperationKey n = sym is ∙ h in cc) ∙ never own
      by (RetryKey n) is = other_kind t x (λ (o : Operation). o.number) due_of OperationKey l.operations (λ m h. let apart : RetryKey n ≡ OperationKey m = sym is ∙ h in cc) ∙ never own
      by (PushKey i) is = other_kind t x (λ (o : Operation). o.number) due_of OperationKey l.operations (λ m h. let apart : PushKey i ≡ OperationKey m = sym is ∙ h in cc) ∙ never own

  -- ---- what is sent again

  abbrev pushes : List Timer
  pushes = push_timers t l

  abbrev again_timer : ℕ × Push → Timer
  again_timer e = timer_at t (PushKey e.0) (pushed_again e)

  abbrev asks : List Timer
  asks = ask_timers here l

  same_settling : l.settling ≡ p.settling
  unfolding local_of
  same_settling = refl

  -- what is neither pushed nor asked for isn't among them
  neither : ((n : ℕ) → x.name.key ≡ PushKey n → ⊥) → (has_timer pushes x || has_timer asks x) ≡ (own && false)
  neither apart =
      rw (
        other_kind t x (λ (e : ℕ × Push). e.0) pushed_again PushKey l.settling.pushes apart,
        together_other t x PushKey push_exact (moment_after (unwrap_or l.settling.asked_at 0) again_after) (asked here l) apart,
      ) (never own)

  module _ (i : ℕ) (is : x.name.key ≡ PushKey i) where
    pushes_are : has_timer pushes x ≡ (own && is_at (push_due (at_number i l.settling.pushes) None) x.due)
    pushes_are =
        numbered t x (λ (e : ℕ × Push). e.0) pushed_again PushKey push_exact i is l.settling.pushes timely.order.sound.pushes
        ∙ ap (λ due. own && is_at due x.due) (found_push i l.settling.pushes)

    asks_are : has_timer asks x ≡ (own && (is_among i (asked here l) && (moment_after (unwrap_or l.settling.asked_at 0) again_after == x.due)))
    asks_are = together t x PushKey push_exact (moment_after (unwrap_or l.settling.asked_at 0) again_after) i is (asked here l)

    -- .. where it asks
    asks_there : (last : ℕ) → l.settling.asked_at ≡ Some last → is_among i (asked here l) ≡ (is_among i p.asked && not (is_merged l.settling i))
    asks_there last at =
        ap (λ o. is_among i (if is_some o then lacking (others here) l.settling else [])) at
        ∙ among-filter (λ j. not (is_merged l.settling j)) i (others here)
        ∙ swapped (not (is_merged l.settling i)) (is_among i (others here))
        ∙ ap (λ xs. is_among i xs && not (is_merged l.settling i)) (sym (timely.order.asked (ap is_some at)))
      where
        swapped : (a b : Bool) → (a && b) ≡ (b && a)
        swapped true true = refl
        swapped true false = refl
        swapped false true = refl
        swapped false false = refl

    abbrev again_at_all : Option ℕ → Option ℕ
    again_at_all asked_at = push_due (at_number i l.settling.pushes) (ask_due asked_at (is_among i p.asked) (is_merged l.settling i))

    sent_again : (has_timer pushes x || has_timer asks x) ≡ (own && is_at (again_at_all l.settling.asked_at) x.due)
    sent_again = by l.settling.asked_at refl
      where
        alone : (a : Bool) → (a || (own && (false && (moment_after (unwrap_or l.settling.asked_at 0) again_after == x.due)))) ≡ a
        alone true = refl
        alone false = sym (never own)

        told : (b : Bool) (due : ℕ) → (own && (b && (due == x.due))) ≡ (own && is_at (if b then Some due else None) x.due)
        told true due = refl
        told false due = refl

        by : (asked_at : Option ℕ) → l.settling.asked_at ≡ asked_at → (has_timer pushes x || has_timer asks x) ≡ (own && is_at (again_at_all asked_at) x.due)
        by None at =
            ap (λ b. has_timer pushes x || b) (asks_are ∙ ap (λ o. own && (is_among i (if is_some o then lacking (others here) l.settling else []) && (moment_after (unwrap_or l.settling.asked_at 0) again_after == x.due))) at)
            ∙ alone (has_timer pushes x) ∙ pushes_are
        by (Some last) at =
            let none : l.settling.pushes ≡ [] = asks_apart here l timely.order.sound (ap is_some at) in
            let no_pushes : has_timer pushes x ≡ false = ap (λ es. has_timer (map again_timer es) x) none in
            ap (λ b. b || has_timer asks x) no_pushes
            ∙ asks_are
            ∙ ap (λ o. own && (is_among i (asked here l) && (moment_after (unwrap_or o 0) again_after == x.due))) at
            ∙ ap (λ b. own && (b && (moment_after last again_after == x.due))) (asks_there last at)
            ∙ told (is_among i p.asked && not (is_merged l.settling i)) (moment_after last again_after)
            ∙ ap (λ es. own && is_at (push_due (at_number i es) (ask_due (Some last) (is_among i p.asked) (is_merged l.settling i))) x.due) (sym none)

  again_are : (has_timer pushes x || has_timer asks x) ≡ (own && is_at (due_for x.name.key p) x.due)
  unfolding again_due
  again_are = by x.name.key refl
    where
      by : (key : Key) → x.name.key ≡ key → (has_timer pushes x || has_timer asks x) ≡ (own && is_at (due_for key p) x.due)
      by (OperationKey n) is = neither (λ m h. let apart : OperationKey n ≡ PushKey m = sym is ∙ h in cc)
      by (GroupKey key) is = neither (λ m h. let apart : GroupKey key ≡ PushKey m = sym is ∙ h in cc)
      by (RetryKey n) is = neither (λ m h. let apart : RetryKey n ≡ PushKey m = sym is ∙ h in cc)
      by (PushKey i) is = sent_again i is ∙ ap (λ (s : Settling). own && is_at (push_due (at_number i s.pushes) (ask_due s.asked_at (is_among i p.asked) (is_merged s i))) x.due) same_settling

  -- ---- what is planned

  plans_are : has_timer (timers_in t (plan_of here l)) x ≡ (own && is_planned (local_in_node t site.node).plan x)
  unfolding local_of
  plans_are =
      planned_is t (plan_of here l) x
      ∙ ap (λ b. own && b)
      (planned_as here (local_in_node t site.node) (docket_of t site.operations) (count_of t site.sent) (settling_of t site.settling.progress) timely.planned timely.order.position x)

  -- ---- all of them

  abbrev is_any : Bool
  is_any = is_deadline_in l.operations x || (is_planned (local_in_node t site.node).plan x || is_at (due_for x.name.key p) x.due)

  all_are : has_timer (all_timers here l) x ≡ (own && is_any)
  unfolding all_timers
  all_are =
      has-ordered (deadlines t l ++ (timers_in t (plan_of here l) ++ (pushes ++ asks))) x
      ∙ has-both (deadlines t l) (timers_in t (plan_of here l) ++ (pushes ++ asks)) x
      ∙ ap (λ b. has_timer (deadlines t l) x || b)
      (has-both (timers_in t (plan_of here l)) (pushes ++ asks) x
      ∙ ap (λ b. has_timer (timers_in t (plan_of here l)) x || b) (has-both pushes asks x ∙ again_are)
      ∙ ap (λ b. b || (own && is_at (due_for x.name.key p) x.due)) plans_are)
      ∙ ap (λ b. b || ((own && is_planned (local_in_node t site.node).plan x) || (own && is_at (due_for x.name.key p) x.due))) deadlines_are
      ∙ together_own own (is_deadline_in l.operations x) (is_planned (local_in_node t site.node).plan x) (is_at (due_for x.name.key p) x.due)
    where
      together_own : (a b c d : Bool) → ((a && b) || ((a && c) || (a && d))) ≡ (a && (b || (c || d)))
      together_own true b c d = refl
      together_own false b c d = refl

all_rising : (here : Here) (l : Local) → IsStrictlySortedBy timer_cmp (all_timers here l)
unfolding all_timers
all_rising here l = rising-ordered (deadlines here.tenant l ++ (timers_in here.tenant (plan_of here l) ++ (push_timers here.tenant l ++ ask_timers here l)))

-- ---- what the three give

module _ (moment : ℕ) (site : Site) (plans ends again : List Timer)
    (planned : (t : List ℕ) → timers_of t plans ≡ due_at moment (timers_in t (local_in_node t site.node).plan))
    (ended : (x : Timer) → has_timer ends x ≡ (is_due moment x && is_deadline site.operations x))
    (told : (x : Timer) → has_timer again x ≡ (is_due moment x && is_told x site.settling.progress)) where
  -- each of the plans' timers is one of its tenant's plan
  pub planned_has : (x : Timer) → has_timer plans x ≡ (is_due moment x && is_planned (local_in_node x.name.tenant site.node).plan x)
  unfolding timers_of
  planned_has x =
      let t : List ℕ = x.name.tenant in
      let plan : Plan = (local_in_node t site.node).plan in
      ap (λ b. b && has_timer plans x) (sym (same-refl t))
      ∙ sym (has-filter (λ (y : Timer). same t y.name.tenant) plans x)
      ∙ ap (λ ys. has_timer ys x) (planned t)
      ∙ has-filter (is_due moment) (timers_in t plan) x
      ∙ ap (λ b. is_due moment x && b) (planned_is t plan x ∙ ap (λ b. b && is_planned plan x) (same-refl t))

  abbrev pub all : List Timer
  all = (plans ++ ends) ++ again

  all_has : (x : Timer) → has_timer all x ≡ (is_due moment x && (is_deadline site.operations x || (is_planned (local_in_node x.name.tenant site.node).plan x || is_told x site.settling.progress)))
  all_has x =
      has-both (plans ++ ends) again x ∙ ap (λ b. b || has_timer again x) (has-both plans ends x)
      ∙ ap (λ b. (b || has_timer ends x) || has_timer again x) (planned_has x)
      ∙ ap (λ b. ((is_due moment x && is_planned (local_in_node x.name.tenant site.node).plan x) || b) || has_timer again x) (ended x)
      ∙ ap (λ b. ((is_due moment x && is_planned (local_in_node x.name.tenant site.node).plan x) || (is_due moment x && is_deadline site.operations x)) || b) (told x)
      ∙ joined (is_due moment x) (is_planned (local_in_node x.name.tenant site.node).plan x) (is_deadline site.operations x) (is_told x site.settling.progress)
    where
      joined : (a b c d : Bool) → (((a && b) || (a && c)) || (a && d)) ≡ (a && (c || (b || d)))
      joined true true true d = refl
      joined true true false d = refl
      joined true false true d = refl
      joined true false false d = refl
      joined false b c d = refl

  module _ (due : List Timer) (rising : IsStrictlySortedBy timer_cmp due) (moved : IsPermutation all due) where
    -- of each tenant they are those of its timers that are due
    pub are_due : (here : Here) → here.moment ≡ moment → IsTimely here site → timers_of here.tenant due ≡ due_at moment (all_timers here (local_of here.tenant site))
    unfolding timers_of all_timers local_of
    are_due here at timely =
        let t : List ℕ = here.tenant in
        same_timers (timers_of t due) (due_at moment (all_timers here (local_of t site)))
        (rising-filter (λ (y : Timer). same t y.name.tenant) due rising) (rising-filter (is_due moment) (all_timers here (local_of t site)) (all_rising here (local_of t site)))
        (λ x.
        has-filter (λ (y : Timer). same t y.name.tenant) due x
        ∙ ap (λ b. same t x.name.tenant && b) (sym (list_any-IsPermutation _ all due moved) ∙ all_has x)
        ∙ by x (same t x.name.tenant) refl
        ∙ ap (λ b. is_due moment x && b) (sym (all_are here site timely x))
        ∙ sym (has-filter (is_due moment) (all_timers here (local_of t site)) x))
      where
        swapped : (b : Bool) → false ≡ (b && false)
        swapped true = refl
        swapped false = refl

        by : (x : Timer) (b : Bool) → same here.tenant x.name.tenant ≡ b
            → (b && (is_due moment x && (is_deadline site.operations x || (is_planned (local_in_node x.name.tenant site.node).plan x || is_told x site.settling.progress))))
            ≡ (is_due moment x && (same here.tenant x.name.tenant && is_any here site timely x))
        by x true e =
            rw e (ap (λ s. is_due moment x && (is_deadline_in (docket_of s site.operations).operations x || (is_planned (local_in_node s site.node).plan x || is_at (due_for x.name.key (progress_of s site.settling.progress)) x.due)))
            (sym (eq_from_same here.tenant x.name.tenant e)))
        by x false e = rw e (swapped (is_due moment x))
