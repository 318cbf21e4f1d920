-- What is left of a plan stays the same while what went is taken out, key by key.
use Rattle.std.proofs.Common.{◌≡◌, ℕ, Bool, true, false, not, ◌&&◌, ◌||◌, List, [], ◌∷◌, filter, refl, sym, ap, ◌∙◌}
use Rattle.std.proofs.Common.{if◌then◌else◌}
use Rattle.std.specs.Ordering.{is_eq}
use Rattle.std.proofs.lemmas.Bool.{and_parts, false≢true, not-false, not-true, not_from_true}
use Rattle.std.proofs.lemmas.List.Elements.{filter_agree}
use Rattle.am_agenda.specs.Plan.{Plan, with_alerts, with_living, without_alert}
use Rattle.am_context.proofs.Filters.{apart_turned, filter_all, filter_both}
use Rattle.am_context.specs.Gone.{is_gone}
use Rattle.am_item.proofs.Greatest.{by_cases}
use Rattle.am_item.proofs.Keys.{key_itself, key_same}
use Rattle.am_item.specs.Key.{AlertKey, Key, key_cmp}
use Rattle.am_item.specs.declared.key.ThingKey.TheVariants.{Configuration, Silence, Alert, SentEntry}
use Rattle.am_labels.specs.declared.Label.{Label}
use Rattle.am_members.proofs.Grouping.{Alerts}
use Rattle.am_members.specs.Grouped.{Grouped, in_group, kept_after, living, lost, members}
use Rattle.am_members.specs.Members.{is_bare}
use Rattle.am_members.specs.Names.{is_set, without as absent}
use Rattle.am_members.specs.declared.group.Group.{Group}
use Rattle.am_members.specs.declared.known.Known.{Known}
use Rattle.am_notifier.specs.Forgetting.{alerts_without, plan_left, plan_without}
use Rattle.am_tenant.specs.Names.{same}

-- a group that has no members has none where alerts go
bare_left : (g : Group) (p : List Label × Known → Bool) (ys : Alerts) → is_bare (members g ys) ≡ true → is_bare (members g (filter p ys)) ≡ true
bare_left g p [] bare = refl
bare_left g p (y ∷ ys) bare =
    by_cases (in_group g y.1)
    (λ e. absurd (false≢true (rw e at bare)))
    (λ e.
    let left : is_bare (members g (filter p ys)) ≡ true = bare_left g p ys (rw e at bare) in
    by_cases (p y) (λ h. rw (h, e) left) (λ h. rw h left))

-- .. nor has one that lost its last member before
living_left : (l : List Label) (x : Grouped) (p : List Label × Known → Bool)
    → living (record { alerts = filter p (absent l x.alerts); flushes = kept_after l x }) ≡ living (record { alerts = filter p (absent l x.alerts); flushes = x.flushes })
living_left l x p =
    let left = filter p (absent l x.alerts) in
    filter_both (λ (e : Group × ℕ). not (is_bare (members e.0 left))) (λ (e : Group × ℕ). not (is_bare (members e.0 left))) (λ (e : Group × ℕ). not (lost e.0 x.alerts (absent l x.alerts)))
    (λ e h.
    let both = and_parts (not (is_bare (members e.0 x.alerts))) (is_bare (members e.0 (absent l x.alerts))) (not-false (lost e.0 x.alerts (absent l x.alerts)) h) in
    not_from_true (is_bare (members e.0 left)) (bare_left e.0 p (absent l x.alerts) both.1))
    (λ e h. refl)
    x.flushes

-- what is planned, with these alerts and the flushes of groups that have members by them
abbrev planned_with : Plan → Alerts → Plan
planned_with plan alerts = with_living (with_alerts alerts plan)

-- ---- one key goes

module _ (t s : List ℕ) (rest : List (List ℕ × Key)) (plan : Plan) where
  -- it is another tenant's
  of_another : (k : Key) → same t s ≡ false → plan_left t rest plan ≡ plan_left t ((s, k) ∷ rest) plan
  of_another k apart =
      ap (planned_with plan)
      (filter_agree (λ (a : List Label × Known). not (is_gone t (AlertKey a.0) rest)) (λ (a : List Label × Known). not (is_gone t (AlertKey a.0) ((s, k) ∷ rest)))
      (λ a. sym (ap (λ b. not ((b && is_eq (key_cmp (AlertKey a.0) k)) || is_gone t (AlertKey a.0) rest)) apart)) plan.grouped.alerts)

  -- it is no alert's
  of_no_alert : (k : Key) → same t s ≡ true → ((l : List Label) → is_eq (key_cmp (AlertKey l) k) ≡ false) → plan_left t rest plan ≡ plan_left t ((s, k) ∷ rest) plan
  of_no_alert k own other =
      ap (planned_with plan)
      (filter_agree (λ (a : List Label × Known). not (is_gone t (AlertKey a.0) rest)) (λ (a : List Label × Known). not (is_gone t (AlertKey a.0) ((s, k) ∷ rest)))
      (λ a. sym (ap (λ b. not ((b && is_eq (key_cmp (AlertKey a.0) k)) || is_gone t (AlertKey a.0) rest)) own ∙ ap (λ b. not (b || is_gone t (AlertKey a.0) rest)) (other a.0))) plan.grouped.alerts)

  alert_goes : (l : List Label) → same t s ≡ true → (alerts : Alerts) → alerts_without t rest (absent l alerts) ≡ alerts_without t ((s, AlertKey l) ∷ rest) alerts
  unfolding key_cmp
  alert_goes l own alerts =
      filter_both (λ (a : List Label × Known). not (is_gone t (AlertKey a.0) ((s, AlertKey l) ∷ rest))) (λ (a : List Label × Known). not (is_gone t (AlertKey a.0) rest))
      (λ (a : List Label × Known). not (is_set l a.0))
      (λ a e.
      let one : is_eq (key_cmp (AlertKey a.0) (AlertKey l)) ≡ true =
      ap (λ q. is_eq (key_cmp q (AlertKey l))) (sym (key_same (AlertKey l) (AlertKey a.0) (not-false (is_set l a.0) e))) ∙ key_itself (AlertKey l) in
      ap (λ b. not ((b && is_eq (key_cmp (AlertKey a.0) (AlertKey l))) || is_gone t (AlertKey a.0) rest)) own
      ∙ ap (λ b. not (b || is_gone t (AlertKey a.0) rest)) one)
      (λ a e. sym (
      ap (λ b. not ((b && is_eq (key_cmp (AlertKey a.0) (AlertKey l))) || is_gone t (AlertKey a.0) rest)) own
      ∙ ap (λ b. not (b || is_gone t (AlertKey a.0) rest)) (apart_turned (AlertKey l) (AlertKey a.0) (not-true (is_set l a.0) e))))
      alerts

  -- its place in the plan goes with it
  of_alert : (l : List Label) → same t s ≡ true → plan_left t rest (without_alert l plan) ≡ plan_left t ((s, AlertKey l) ∷ rest) plan
  of_alert l own =
      ap (λ (flushes : List (Group × ℕ)). let made : Plan = record plan { grouped = record { alerts = alerts_without t rest (absent l plan.grouped.alerts); flushes = flushes } } in made)
      (living_left l plan.grouped (λ a. not (is_gone t (AlertKey a.0) rest)))
      ∙ ap (planned_with plan) (alert_goes l own plan.grouped.alerts)

  of_own : (k : Key) → same t s ≡ true → plan_left t rest (plan_without k plan) ≡ plan_left t ((s, k) ∷ rest) plan
  unfolding key_cmp
  of_own Configuration own = of_no_alert Configuration own (λ l. refl)
  of_own (Silence id) own = of_no_alert (Silence id) own (λ l. refl)
  of_own (Alert l) own = of_alert l own
  of_own (SentEntry entry) own = of_no_alert (SentEntry entry) own (λ l. refl)

  pub next_left : (k : Key) → plan_left t rest (if same t s then plan_without k plan else plan) ≡ plan_left t ((s, k) ∷ rest) plan
  next_left k =
      by_cases (same t s) (λ own. ap (plan_left t rest) (rw own refl) ∙ of_own k own) (λ apart. ap (plan_left t rest) (rw apart refl) ∙ of_another k apart)

-- where nothing is left to take out, only the flushes of groups that have no members go
pub last_left : (t : List ℕ) (plan : Plan) → with_living plan ≡ plan_left t [] plan
last_left t plan = ap (planned_with plan) (sym (filter_all (λ (a : List Label × Known). not (is_gone t (AlertKey a.0) [])) (λ a. refl) plan.grouped.alerts))
