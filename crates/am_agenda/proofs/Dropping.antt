-- Once a tenant was dropped, what is planned goes with the timers that are left.
use Rattle.std.proofs.Common.{◌≡◌, ℕ, Bool, true, false, ◌&&◌, cond, List, [], Result, Ok, Err, refl, sym, ap, ◌∙◌, subst}
use Rattle.std.specs.List.Sorted.{IsStrictlySortedBy}
use Rattle.std.specs.Map.{keys_of}
use Rattle.std.specs.Result.{IfErr, OnOk}
use Rattle.am_labels.specs.Labels.{labels_cmp}
use Rattle.am_share.specs.Pairs.{Drops, things_of}
use Rattle.am_tenant.specs.Names.{same}
use Rattle.am_tenant.proofs.Same.{same-refl}
use Rattle.am_members.specs.Grouped.{Grouped, grouped_of, nothing}
use Rattle.am_members.specs.Members.{gave}
use Rattle.am_outlet.specs.Attempts.{Desk, cleared}
use Rattle.am_outlet.specs.Desks.{Desks, desk_of}
use Rattle.am_timer.specs.Queue.{pairs_of, timers_of}
use Rattle.am_timer.specs.Tied.{has_timer}
use Rattle.am_timer.specs.Timer.{Timer}
use Rattle.am_timer.proofs.Tenants.{things_are}
use Rattle.am_timer.proofs.TiedLemmas.{has-filter}
use Rattle.am_planning.specs.declared.pace.Pace.{Pace}
use Rattle.am_planning.specs.Planning.{default_paces}
use Rattle.am_agenda.specs.Paces.{paces_of}
use Rattle.am_agenda.specs.Plan.{Plan, dropped}
use Rattle.am_agenda.specs.Planned.{IsKept, Plans, is_planned, plan_of}
use Rattle.am_agenda.proofs.Keeping.{none_due}

-- what can't fail has gone well
pub never_fails : {A E X : Type 0} (result : Result A E) → IfErr result (λ _. ⊥) → OnOk result X → X
never_fails (Ok a) h x = x
never_fails (Err e) h x = absurd h

-- a timer is one of its tenant's
own_timer : (xs : List Timer) (x : Timer) → has_timer (timers_of x.name.tenant xs) x ≡ has_timer xs x
unfolding timers_of
own_timer xs x =
    has-filter (λ y. same x.name.tenant y.name.tenant) xs x
    ∙ ap (λ b. b && has_timer xs x) (same-refl x.name.tenant)

-- the timers that are left of those that there were are the other tenants'
timers_left : (t : List ℕ) (timers after : List Timer) → Drops t (pairs_of timers) (pairs_of after)
    → (x : Timer) → has_timer after x ≡ cond (same x.name.tenant t) false (has_timer timers x)
timers_left t timers after drops x =
    let s = x.name.tenant in
    sym (own_timer after x) ∙ ap (λ xs. has_timer xs x) (sym (things_are s after) ∙ drops s) ∙ by_case (same s t)
  where
    by_case : (b : Bool) → has_timer (cond b [] (things_of x.name.tenant (pairs_of timers))) x
        ≡ cond b false (has_timer timers x)
    by_case true = refl
    by_case false = ap (λ xs. has_timer xs x) (things_are x.name.tenant timers) ∙ own_timer timers x

abbrev Rises : Plan → Type 0
Rises plan = IsStrictlySortedBy labels_cmp (keys_of plan.grouped.alerts)

-- of the tenant nothing is due, and of the others what was
pub kept_dropping : (t : List ℕ) (old new : Plans) (timers after : List Timer)
    → ((s : List ℕ) → plan_of s new ≡ cond (same s t) (dropped (plan_of s old)) (plan_of s old))
    → Drops t (pairs_of timers) (pairs_of after) → IsKept old timers → IsKept new after
unfolding IsStrictlySortedBy
kept_dropping t old new timers after made drops kept = record {
  rising = λ s. subst Rises (sym (made s)) (rise (plan_of s old) (same s t) (kept.rising s));
  timed = λ x.
      let s = x.name.tenant in
      timers_left t timers after drops x ∙ told x (plan_of s old) (same s t) (kept.timed x)
      ∙ ap (λ p. is_planned p x) (sym (made s));
}
  where
    rise : (plan : Plan) (b : Bool) → Rises plan → Rises (cond b (dropped plan) plan)
    rise plan true up = tt
    rise plan false up = up

    told : (x : Timer) (plan : Plan) (b : Bool) → has_timer timers x ≡ is_planned plan x
        → cond b false (has_timer timers x) ≡ is_planned (cond b (dropped plan) plan) x
    told x plan true is = sym (ap (λ o. gave o x.due) (none_due (dropped plan) refl refl x.name.key))
    told x plan false is = is

abbrev with_parts : List Pace → Grouped → Desk → Plan
with_parts paces grouped desk = record { paces = paces; grouped = grouped; desk = desk }

-- equal parts make it equal
parts_make : (p q : List Pace) (g h : Grouped) (d e : Desk) → p ≡ q → g ≡ h → d ≡ e
    → with_parts p g d ≡ with_parts q h e
parts_make p q g h d e paces grouped desk = rw (paces, grouped, desk) refl

-- a tenant's part of all three was dropped
module _ (t : List ℕ) (book books : List (List ℕ × List Pace)) (groups others : List (List ℕ × Grouped)) (desks left : Desks) where
  abbrev old : Plans
  old = record { paces = book; groups = groups; desks = desks }

  abbrev new : Plans
  new = record { paces = books; groups = others; desks = left }

  pub plan_dropped : ((s : List ℕ) → paces_of s books ≡ cond (same s t) default_paces (paces_of s book))
      → ((s : List ℕ) → grouped_of s others ≡ cond (same s t) nothing (grouped_of s groups))
      → ((s : List ℕ) → desk_of s left ≡ cond (same s t) (cleared (desk_of s desks)) (desk_of s desks))
      → (s : List ℕ) → plan_of s new ≡ cond (same s t) (dropped (plan_of s old)) (plan_of s old)
  unfolding plan_of
  plan_dropped paces grouped desk s = by_case (same s t) (paces s) (grouped s) (desk s)
    where
      by_case : (b : Bool) → paces_of s books ≡ cond b default_paces (paces_of s book)
          → grouped_of s others ≡ cond b nothing (grouped_of s groups)
          → desk_of s left ≡ cond b (cleared (desk_of s desks)) (desk_of s desks)
          → plan_of s new ≡ cond b (dropped (plan_of s old)) (plan_of s old)
      by_case true p g d = parts_make _ _ _ _ _ _ p g d
      by_case false p g d = parts_make _ _ _ _ _ _ p g d
