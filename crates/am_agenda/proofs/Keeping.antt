-- What is planned goes with its timers, as one tenant's part changes.
use Rattle.std.proofs.Common.{◌≡◌, ℕ, Bool, true, false, cond, List, [], Option, Some, None, Result, Ok, Err, OnErr, refl, sym, ap, ◌∙◌, subst}
use Rattle.std.specs.List.Sorted.{IsStrictlySortedBy}
use Rattle.std.specs.Map.{keys_of}
use Rattle.std.specs.Prelude.{slice_get}
use Rattle.std.specs.Result.{is_err}
use Rattle.std.specs.Str.{bytes_eq}
use Rattle.std.proofs.lemmas.Bool.{true≢false}
use Rattle.am_labels.specs.declared.Label.{Label}
use Rattle.am_labels.specs.Labels.{labels_cmp}
use Rattle.am_members.specs.declared.known.Known.{Known}
use Rattle.am_tenant.specs.Names.{same}
use Rattle.am_tenant.proofs.Same.{eq_from_same}
use Rattle.am_members.specs.declared.group.Group.{Group as Name}
use Rattle.am_members.specs.Grouped.{Grouped, grouped_of, nothing, put_in}
use Rattle.am_members.specs.Members.{gave}
use Rattle.am_outlet.specs.Attempts.{Desk, no_attempts}
use Rattle.am_outlet.specs.Desks.{Desks, desk_of}
use Rattle.am_timer.specs.declared.key.TimerKey.TheVariants.{Operation, Group, Retry, Push}
use Rattle.am_timer.specs.Tied.{has_timer}
use Rattle.am_timer.specs.Timer.{Key, Timer}
use Rattle.am_planning.specs.declared.pace.Pace.{Pace}
use Rattle.am_agenda.specs.Paces.{paces_of}
use Rattle.am_agenda.specs.Plan.{Plan, due_for, due_of, flush_due, no_plan, with_grouped}
use Rattle.am_agenda.specs.Planned.{IsKept, Plans, flush_due_of, is_for_one, plan_of}
use Rattle.am_agenda.proofs.Timing.{IsDueElsewhere, timed_after}

-- where nothing is grouped and no attempt is open, nothing is due
pub none_due : (plan : Plan) → plan.grouped ≡ nothing → plan.desk.open_ones ≡ [] → (key : Key) → due_of plan key ≡ None
unfolding flush_due
none_due plan bare idle (Operation number) = refl
none_due plan bare idle (Group key) =
    ap (λ g. due_for key g (slice_get plan.paces key.route)) bare ∙ none_for (slice_get plan.paces key.route)
  where
    either : (b : Bool) (o r : Option ℕ) → o ≡ None → r ≡ None → cond b o r ≡ None
    either true o r h k = h
    either false o r h k = k

    none_for : (pace : Option Pace) → due_for key nothing pace ≡ None
    none_for None = refl
    none_for (Some pace) = either (bytes_eq pace.receiver key.receiver) _ _ refl refl
none_due plan bare idle (Retry number) = rw idle refl
none_due plan bare idle (Push instance) = refl

-- where nothing is planned there are no timers
pub none_kept : (plans : Plans) → ((t : List ℕ) → grouped_of t plans.groups ≡ nothing) → ((t : List ℕ) → desk_of t plans.desks ≡ no_attempts) → IsKept plans []
unfolding plan_of IsStrictlySortedBy
none_kept plans bare idle = record {
  rising = λ t. subst (λ (g : Grouped). IsStrictlySortedBy labels_cmp (keys_of g.alerts)) (sym (bare t)) tt;
  timed = λ x.
      let t = x.name.tenant in
      let closed = ap (λ (d : Desk). d.open_ones) (idle t) in
      sym (ap (λ o. gave o x.due) (none_due (plan_of t plans) (bare t) closed x.name.key));
}

-- what is grouped is told by its two parts
pub parts : {g h : Grouped} → g.alerts ≡ h.alerts → g.flushes ≡ h.flushes → g ≡ h
parts {g} {h} a f = ap (λ x. let r : Grouped = record { alerts = x; flushes = g.flushes } in r) a ∙ ap (λ x. let r : Grouped = record { alerts = h.alerts; flushes = x } in r) f

module _ (book : List (List ℕ × List Pace)) (desks : Desks) (groups others : List (List ℕ × Grouped)) (t : List ℕ) where
  abbrev old : Plans
  old = record { paces = book; groups = groups; desks = desks }

  abbrev new : Plans
  new = record { paces = book; groups = others; desks = desks }

  -- what is grouped of one tenant became f of what was
  pub plan_changed : (f : Grouped → Grouped) → ((s : List ℕ) → grouped_of s others ≡ cond (same s t) (f (grouped_of s groups)) (grouped_of s groups))
      → (s : List ℕ) → plan_of s new ≡ cond (same s t) (with_grouped (f (plan_of s old).grouped) (plan_of s old)) (plan_of s old)
  unfolding plan_of
  plan_changed f changed s = ap (λ g. let p : Plan = record { paces = paces_of s book; grouped = g; desk = desk_of s desks } in p) (changed s) ∙ by_case (same s t)
    where
      with_it : Grouped → Plan
      with_it g = record { paces = paces_of s book; grouped = g; desk = desk_of s desks }

      by_case : (b : Bool) → with_it (cond b (f (grouped_of s groups)) (grouped_of s groups)) ≡ cond b (with_it (f (grouped_of s groups))) (with_it (grouped_of s groups))
      by_case true = refl
      by_case false = refl

  -- and the timers of the groups that changed were set anew
  pub kept_after : (f : Grouped → Grouped) (changed : List Name) (timers after : List Timer) → ((s : List ℕ) → grouped_of s others ≡ cond (same s t) (f (grouped_of s groups)) (grouped_of s groups)) → IsKept old timers
      → (IsStrictlySortedBy labels_cmp (keys_of (grouped_of t groups).alerts) → IsStrictlySortedBy labels_cmp (keys_of (f (grouped_of t groups)).alerts))
      → IsDueElsewhere changed (plan_of t old) (plan_of t new)
      → ((x : Timer) → has_timer after x ≡ cond (is_for_one t (paces_of t book) changed x) (gave (flush_due_of (paces_of t book) (grouped_of t others) x.name.key) x.due) (has_timer timers x))
      → IsKept new after
  unfolding plan_of
  kept_after f changed timers after made kept up elsewhere set = record {
    rising = λ s. by_tenant s (same s t) refl;
    timed = timed_after t old new changed timers after kept.timed (λ s other. plan_changed f made s ∙ rw other refl) refl elsewhere set;
  }
    where
      by_tenant : (s : List ℕ) (b : Bool) → same s t ≡ b → IsStrictlySortedBy labels_cmp (keys_of (grouped_of s others).alerts)
      by_tenant s true own =
          let it : s ≡ t = eq_from_same s t own in
          let now : f (grouped_of t groups) ≡ grouped_of s others = sym (made s ∙ ap (λ b. cond b (f (grouped_of s groups)) (grouped_of s groups)) own ∙ ap (λ r. f (grouped_of r groups)) it) in
          subst (λ (g : Grouped). IsStrictlySortedBy labels_cmp (keys_of g.alerts)) now (up (kept.rising t))
      by_tenant s false other =
          subst (λ (g : Grouped). IsStrictlySortedBy labels_cmp (keys_of g.alerts)) (sym (made s ∙ ap (λ b. cond b (f (grouped_of s groups)) (grouped_of s groups)) other)) (kept.rising s)

-- an alert was put
pub grouped_put : (groups others : List (List ℕ × Grouped)) (t : List ℕ) (l : List Label) (v : Known)
    → ((s : List ℕ) → (grouped_of s others).alerts ≡ cond (same s t) (put_in l v (grouped_of s groups).alerts) (grouped_of s groups).alerts)
    → ((s : List ℕ) → (grouped_of s others).flushes ≡ (grouped_of s groups).flushes)
    → (s : List ℕ) → grouped_of s others ≡ cond (same s t) (record (grouped_of s groups) { alerts = put_in l v (grouped_of s groups).alerts }) (grouped_of s groups)
grouped_put groups others t l v alerts flushes s = both (same s t) (alerts s) (flushes s)
  where
    both : (b : Bool) → (grouped_of s others).alerts ≡ cond b (put_in l v (grouped_of s groups).alerts) (grouped_of s groups).alerts → (grouped_of s others).flushes ≡ (grouped_of s groups).flushes
        → grouped_of s others ≡ cond b (record (grouped_of s groups) { alerts = put_in l v (grouped_of s groups).alerts }) (grouped_of s groups)
    both true a f = parts a f
    both false a f = parts a f

-- where nothing is left of a tenant, nothing is planned of it
pub planned_none : (t : List ℕ) (plans : Plans) (paces : List Pace) → paces_of t plans.paces ≡ paces → grouped_of t plans.groups ≡ nothing → desk_of t plans.desks ≡ no_attempts → plan_of t plans ≡ no_plan paces
unfolding plan_of
planned_none t plans paces own bare idle =
    ap (λ ps. let p : Plan = record { paces = ps; grouped = grouped_of t plans.groups; desk = desk_of t plans.desks } in p) own
    ∙ ap (λ g. let p : Plan = record { paces = paces; grouped = g; desk = desk_of t plans.desks } in p) bare
    ∙ ap (λ d. let p : Plan = record { paces = paces; grouped = nothing; desk = d } in p) idle

-- what is grouped of one tenant became f of what was, part by part
pub grouped_parts : (groups others : List (List ℕ × Grouped)) (t : List ℕ) (f : Grouped → Grouped)
    → ((s : List ℕ) → (grouped_of s others).alerts ≡ cond (same s t) (f (grouped_of s groups)).alerts (grouped_of s groups).alerts)
    → ((s : List ℕ) → (grouped_of s others).flushes ≡ cond (same s t) (f (grouped_of s groups)).flushes (grouped_of s groups).flushes)
    → (s : List ℕ) → grouped_of s others ≡ cond (same s t) (f (grouped_of s groups)) (grouped_of s groups)
grouped_parts groups others t f alerts flushes s = both (same s t) (alerts s) (flushes s)
  where
    both : (b : Bool) → (grouped_of s others).alerts ≡ cond b (f (grouped_of s groups)).alerts (grouped_of s groups).alerts → (grouped_of s others).flushes ≡ cond b (f (grouped_of s groups)).flushes (grouped_of s groups).flushes
        → grouped_of s others ≡ cond b (f (grouped_of s groups)) (grouped_of s groups)
    both true a h = parts a h
    both false a h = parts a h

-- a part that stays is the same at every tenant
pub same_at : {A : Type 0} (b : Bool) (x y : A) → x ≡ y → x ≡ cond b y y
same_at true x y h = h
same_at false x y h = h

-- where nothing is left of a tenant but its paces
pub all_lost : (t : List ℕ) (plans : Plans) → grouped_of t plans.groups ≡ nothing → desk_of t plans.desks ≡ no_attempts → plan_of t plans ≡ no_plan (plan_of t plans).paces
unfolding plan_of
all_lost t plans bare idle = planned_none t plans (paces_of t plans.paces) refl bare idle

-- what is so whatever came is so at an error
pub at_error : {A E X : Type 0} (result : Result A E) → X → OnErr result X
at_error (Ok a) x = tt
at_error (Err e) x = x

-- nothing is owed of an error where there was none
pub no_error : {A E : Type 0} (X : Type 0) (result : Result A E) → is_err result ≡ false → OnErr result X
no_error X (Ok a) h = tt
no_error X (Err e) h = absurd (true≢false h)

-- the plans of the same attempts are the same
pub same_plan : (book : List (List ℕ × List Pace)) (groups : List (List ℕ × Grouped)) (desks others : Desks) (t : List ℕ) → desk_of t others ≡ desk_of t desks
    → plan_of t (record { paces = book; groups = groups; desks = others }) ≡ plan_of t (record { paces = book; groups = groups; desks = desks })
unfolding plan_of
same_plan book groups desks others t same = ap (λ d. let p : Plan = record { paces = paces_of t book; grouped = grouped_of t groups; desk = d } in p) same
