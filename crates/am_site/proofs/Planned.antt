-- What an instance has planned is what its node has: where an alert is held its groups wait by the position of the
-- instance, and otherwise it has no groups.
use Rattle.std.proofs.Common.{◌≡◌, ℕ, ◌<◌, Bool, true, false, List, [], ◌∷◌, length, map, Option, Some, None, slice_get, suc, arith, ap, refl, sym, subst, ◌∙◌, if◌then◌else◌}
use Rattle.std.specs.Str.{bytes_eq}
use Rattle.am_agenda.specs.Plan.{Plan, due_for, due_of, flush_due}
use Rattle.am_agenda.specs.Planned.{is_planned}
use Rattle.am_cluster.specs.Here.{Here}
use Rattle.am_cluster.specs.Local.{Local}
use Rattle.am_cluster.specs.Plans.{grouped_of, plan_of, position_of}
use Rattle.am_current.specs.Current.{configuration_in}
use Rattle.am_labels.specs.declared.Label.{Label}
use Rattle.am_members.specs.declared.known.Known.{Known}
use Rattle.am_members.specs.Members.{gave}
use Rattle.am_node.specs.Local.{Local as NodeLocal}
use Rattle.am_node.specs.Plans.{IsPlanned}
use Rattle.am_notifier.specs.Following.{paces_at}
use Rattle.am_planning.specs.declared.pace.Pace.{Pace}
use Rattle.am_quorum.specs.Dockets.{Docket}
use Rattle.am_timer.specs.Timer.{Key, Timer}
use Rattle.am_timer.specs.declared.key.FlushKey.{FlushKey}
use Rattle.am_timer.specs.declared.key.TimerKey.TheVariants.{Operation as OperationKey, Group as GroupKey, Retry as RetryKey, Push as PushKey}
use Rattle.am_transfer.specs.Settling.{Settling}
use Rattle.am_site.specs.Locals.{from_rooms}

abbrev since_of : List Label × Known → List Label × ℕ
since_of a = (a.0, a.1.since)

-- without alerts no flush is due
pub not_due : (plan : Plan) (key : FlushKey) → plan.grouped.alerts ≡ [] → flush_due plan.paces plan.grouped key ≡ None
unfolding flush_due
not_due plan key none =
    ap (λ alerts. due_for key (record { alerts = alerts; flushes = plan.grouped.flushes }) (slice_get plan.paces key.route)) none
    ∙ by_pace (slice_get plan.paces key.route)
  where
    by_receiver : (b : Bool) (due : Option ℕ) → due ≡ None → (if b then due else None) ≡ None
    by_receiver true due is = is
    by_receiver false due is = refl

    by_pace : (pace : Option Pace) → due_for key (record { alerts = []; flushes = plan.grouped.flushes }) pace ≡ None
    by_pace None = refl
    by_pace (Some pace) = by_receiver (bytes_eq pace.receiver key.receiver) None refl

module _ (here : Here) (node : NodeLocal) (d : Docket) (n : ℕ) (g : Settling) (planned : IsPlanned node) where
  abbrev l : Local
  l = from_rooms node d n g

  pub same_plan : node.position ≡ position_of here l → plan_of here l ≡ node.plan
  unfolding plan_of grouped_of
  same_plan positioned =
      ap (λ alerts. let plan : Plan = record {
        paces = paces_at (configuration_in node.held) (position_of here l);
        grouped = record { alerts = alerts; flushes = node.plan.grouped.flushes };
        desk = node.plan.desk;
      } in plan) (sym planned.groups)
      ∙ ap (λ paces. let plan : Plan = record { paces = paces; grouped = node.plan.grouped; desk = node.plan.desk } in plan)
      (ap (paces_at (configuration_in node.held)) (sym positioned) ∙ sym planned.paces)

  pub none_planned : node.plan.grouped.alerts ≡ [] → (plan_of here l).grouped.alerts ≡ []
  unfolding plan_of grouped_of
  none_planned none = sym planned.groups ∙ none

  -- the attempts are the same anyhow
  same_desk : (plan_of here l).desk ≡ node.plan.desk
  unfolding plan_of
  same_desk = refl

  module _ (waits : 0 < length l.sinces → node.position ≡ position_of here l) where
    -- so one of both holds
    pub by_alerts : (P : Type 0) → (node.plan.grouped.alerts ≡ [] → P) → (node.position ≡ position_of here l → P) → P
    by_alerts P none at = by node.plan.grouped.alerts refl
      where
        by : (alerts : List (List Label × Known)) → node.plan.grouped.alerts ≡ alerts → P
        by [] is = none is
        by (a ∷ alerts) is =
            let some : 0 < suc (length (map since_of alerts)) = omega arith in
            at (waits (subst (λ (those : List (List Label × Known)). 0 < length (map since_of those)) (sym is) some))

    due_as : (key : Key) → due_of (plan_of here l) key ≡ due_of node.plan key
    due_as key =
        by_alerts (due_of (plan_of here l) key ≡ due_of node.plan key) (by_key key)
        (λ positioned. ap (λ (plan : Plan). due_of plan key) (same_plan positioned))
      where
        by_key : (key : Key) → node.plan.grouped.alerts ≡ [] → due_of (plan_of here l) key ≡ due_of node.plan key
        by_key (OperationKey number) none = refl
        by_key (GroupKey group) none = not_due (plan_of here l) group (none_planned none) ∙ sym (not_due node.plan group none)
        by_key (RetryKey number) none = ap (λ desk. due_of (record (node.plan) { desk = desk }) (RetryKey number)) same_desk
        by_key (PushKey to) none = refl

    -- the same is planned
    pub planned_as : (x : Timer) → is_planned (plan_of here l) x ≡ is_planned node.plan x
    planned_as x = ap (λ due. gave due x.due) (due_as x.name.key)
