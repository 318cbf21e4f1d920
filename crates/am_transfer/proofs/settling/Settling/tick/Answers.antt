use Rattle.std.proofs.Common.{◌∷◌, [], ◌++◌, List, ℕ, ap, ◌∙◌}
use Rattle.am_transfer.specs.Tenants.{progress_of}
use Rattle.am_transfer.specs.Progress.{sent_again}
use Rattle.am_transfer.proofs.Stays.{for_same, tick_stays}
use Rattle.am_transfer.proofs.Timed.{timed_after}
use Rattle.am_transfer.proofs.settling.Settling.tick.Goals as goal

pub returns-clause-timed : goal.returns-clause-timed
returns-clause-timed c =
    rw (← c.self.view_is)
    (timed_after c.args.tenant.now ((progress_of c.args.tenant.now c.self.inside.tenants).asked ++ c.args.to ∷ []) c.self.inside.tenants c.tick.new.self c.self.inside.timers.timers c.refresh_all.new.timers.timers (sent_again c.args.to c.args.moment c.args.held.now)
    c.in_ok-again.ensures.each (tick_stays c.args.to c.args.moment c.args.held.now (progress_of c.args.tenant.now c.self.inside.tenants)) (for_same c.args.tenant.now _ _ (c.deref.ensures.value ∙ c.in_ok-push.ensures.items ∙ ap (λ (xs : List ℕ). xs ++ c.args.to ∷ []) c.in_ok-instances.ensures) _ _ _ c.in_ok-refresh_all.ensures))
