use Rattle.std.proofs.Common.{◌≡◌, ℕ, List, if◌then◌else◌}
use Rattle.std.specs.Map.{keys_of}
use Rattle.am_tenant.specs.Names.{same}
use Rattle.am_agenda.specs.Plan.{with_alerts}
use Rattle.am_agenda.specs.Planned.{plan_of}
use Rattle.am_notifier.specs.Following.{all_sooner, unknown_of}
use Rattle.am_notifier.proofs.following.meet_known.Given as goal

abbrev pub invariant-loop-labels : goal.invariant-loop-labels
invariant-loop-labels l = record {
  plans : (t : List ℕ) → plan_of t l.agenda ≡ (if same t l.tenant
      then with_alerts (all_sooner l.moment (keys_of l.yielded) (plan_of t l.fn.agenda).grouped.alerts) (plan_of t l.fn.agenda)
      else plan_of t l.fn.agenda);
  unknown : l.unknown.items ≡ unknown_of l.moment (keys_of l.yielded) (plan_of l.tenant l.fn.agenda).grouped.alerts;
}
