use Rattle.std.proofs.Common.{◌≡◌, ℕ, List, if◌then◌else◌}
use Rattle.am_tenant.specs.Names.{same}
use Rattle.am_members.specs.Grouped.{put_all}
use Rattle.am_agenda.specs.Plan.{with_alerts}
use Rattle.am_agenda.specs.Planned.{plan_of}
use Rattle.am_notifier.proofs.ByRoutes.{AreBy}
use Rattle.am_notifier.proofs.following.plan_new.Given as goal

abbrev pub invariant-loop-labels : goal.invariant-loop-labels
invariant-loop-labels l = record {
  plans : (t : List ℕ) → plan_of t l.agenda ≡ (if same t l.tenant
      then with_alerts (put_all l.yielded (plan_of t l.fn.agenda).grouped.alerts) (plan_of t l.fn.agenda)
      else plan_of t l.fn.agenda);
  by : AreBy l.config l.yielded;
}
