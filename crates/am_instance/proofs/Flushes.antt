-- Where the flush of a group is due by what a node has planned of a tenant, one is due among all timers of the tenant.
use Rattle.std.proofs.Common.{◌≡◌, ◌∙◌, ℕ, Bool, true, false, ◌&&◌, ◌||◌, List, [], ◌∷◌, ◌++◌, map, sym, ap, refl}
use Rattle.std.specs.List.{list_any}
use Rattle.std.specs.Ordering.{is_eq}
use Rattle.std.proofs.lemmas.Bool.{and_parts}
use Rattle.am_agenda.specs.Plan.{Plan, timers_in}
use Rattle.am_agenda.proofs.Due.{planned_is}
use Rattle.am_cluster.specs.Here.{Here}
use Rattle.am_cluster.specs.Local.{Local}
use Rattle.am_cluster.specs.Plans.{plan_of}
use Rattle.am_cluster.specs.Ticking.{ask_timers, deadlines, due_keys, push_timers, timers_of as all_timers}
use Rattle.am_item.specs.Counts.{count_of}
use Rattle.am_node.specs.Held.{local_of as local_in_node}
use Rattle.am_node.specs.Ticks.{has_flush, is_flush}
use Rattle.am_quorum.specs.Dockets.{docket_of}
use Rattle.am_site.specs.Due.{IsTimely}
use Rattle.am_site.specs.Locals.{local_of}
use Rattle.am_site.specs.declared.site.Site.{Site}
use Rattle.am_site.proofs.Listed.{has-both, has-ordered}
use Rattle.am_site.proofs.Planned.{planned_as}
use Rattle.am_tenant.specs.Names.{same}
use Rattle.am_timer.specs.Queue.{due_at, is_due}
use Rattle.am_timer.specs.Tied.{has_timer}
use Rattle.am_timer.specs.Timer.{Timer, timer_cmp}
use Rattle.am_timer.proofs.Orders.{same_timer, timer_itself}
use Rattle.am_timer.proofs.TiedLemmas.{has-filter}
use Rattle.am_transfer.specs.Tenants.{settling_of}

or_later : (a b : Bool) → b ≡ true → (a || b) ≡ true
or_later true b later = refl
or_later false b later = later

-- ---- lists of timers

-- one of a list that passes a test
passes : (p : Timer → Bool) (xs : List Timer) (q : Timer) → p q ≡ true → has_timer xs q ≡ true → list_any p xs ≡ true
passes p [] q is there = there
passes p (x ∷ xs) q is there = by (is_eq (timer_cmp q x)) refl (passes p xs q is) there
  where
    by : (b : Bool) → is_eq (timer_cmp q x) ≡ b → (has_timer xs q ≡ true → list_any p xs ≡ true)
        → (b || has_timer xs q) ≡ true → (p x || list_any p xs) ≡ true
    by true e rest some = ap (λ y. p y || list_any p xs) (sym (same_timer q x e)) ∙ ap (λ b. b || list_any p xs) is
    by false e rest some = or_later (p x) (list_any p xs) (rest some)

-- where all of a list stand in another, one of these passes what one of those does
moved : (p : Timer → Bool) (xs ys : List Timer) → ((q : Timer) → has_timer xs q ≡ true → has_timer ys q ≡ true)
    → list_any p xs ≡ true → list_any p ys ≡ true
moved p [] ys within some = absurd (let clash = some in cc)
moved p (x ∷ xs) ys within some =
    by (p x) refl (moved p xs ys (λ q there. within q (or_later (is_eq (timer_cmp q x)) (has_timer xs q) there))) some
  where
    by : (b : Bool) → p x ≡ b → (list_any p xs ≡ true → list_any p ys ≡ true) → (b || list_any p xs) ≡ true
        → list_any p ys ≡ true
    by true is rest some = passes p ys x is (within x (ap (λ b. b || has_timer xs x) (timer_itself x)))
    by false is rest some = rest some

-- a flush among timers is one among their keys
any_key : (xs : List Timer)
    → list_any is_flush (map (λ (x : Timer). x.name.key) xs) ≡ list_any (λ (x : Timer). is_flush x.name.key) xs
any_key [] = refl
any_key (x ∷ xs) = ap (λ b. is_flush x.name.key || b) (any_key xs)

-- what is due of more timers
due_more : (moment : ℕ) (xs ys : List Timer) (q : Timer) → (has_timer xs q ≡ true → has_timer ys q ≡ true)
    → has_timer (due_at moment xs) q ≡ true → has_timer (due_at moment ys) q ≡ true
due_more moment xs ys q within there =
    let parts = and_parts (is_due moment q) (has_timer xs q) (sym (has-filter (is_due moment) xs q) ∙ there) in
    has-filter (is_due moment) ys q ∙ ap (λ b. b && has_timer ys q) parts.0 ∙ within parts.1

-- ---- the timers of a tenant

module _ (here : Here) (site : Site) (timely : IsTimely here site) where
  abbrev t : List ℕ
  t = here.tenant

  abbrev l : Local
  l = local_of t site

  abbrev plan : Plan
  plan = (local_in_node t site.node).plan

  abbrev again : List Timer
  again = push_timers t l ++ ask_timers here l

  -- what is planned is so of the tenant by itself
  planned : (q : Timer) → has_timer (timers_in t plan) q ≡ has_timer (timers_in t (plan_of here l)) q
  unfolding local_of
  planned q =
      planned_is t plan q
      ∙ ap (λ b. same t q.name.tenant && b)
      (sym (planned_as here (local_in_node t site.node) (docket_of t site.operations) (count_of t site.sent)
      (settling_of t site.settling.progress) timely.planned timely.order.position q))
      ∙ sym (planned_is t (plan_of here l) q)

  within_all : (q : Timer) → has_timer (timers_in t plan) q ≡ true → has_timer (all_timers here l) q ≡ true
  unfolding all_timers
  within_all q there =
      has-ordered (deadlines t l ++ (timers_in t (plan_of here l) ++ again)) q
      ∙ has-both (deadlines t l) (timers_in t (plan_of here l) ++ again) q
      ∙ or_later (has_timer (deadlines t l) q) (has_timer (timers_in t (plan_of here l) ++ again) q)
      (has-both (timers_in t (plan_of here l)) again q ∙ ap (λ b. b || has_timer again q) (sym (planned q) ∙ there))

  pub flush_due : has_flush t here.moment plan ≡ true → list_any is_flush (due_keys here l) ≡ true
  flush_due some =
      any_key (due_at here.moment (all_timers here l))
      ∙ moved (λ (x : Timer). is_flush x.name.key) (due_at here.moment (timers_in t plan))
      (due_at here.moment (all_timers here l))
      (λ q there. due_more here.moment (timers_in t plan) (all_timers here l) q (within_all q) there)
      (sym (any_key (due_at here.moment (timers_in t plan))) ∙ some)
