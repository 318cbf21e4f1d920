use Rattle.std.proofs.Common.{false, if◌then◌else◌, ap, sym, ◌∙◌}
use Rattle.am_timer.specs.Tied.{has_timer}
use Rattle.am_transfer.specs.Progress.{Progress}
use Rattle.am_transfer.specs.Timers.{is_for, told_to}
use Rattle.am_transfer.proofs.Table.{no_entry, own_entry}
use Rattle.am_transfer.proofs.Timed.{for_none}
use Rattle.am_transfer.proofs.tenants.Tenants.cancel.Goals as goal

pub returns-in_default : goal.returns-in_default
returns-in_default c x =
    rw (← c.self.view_is)
    (sym (ap (λ (p : Progress). if is_for c.args.tenant.now (told_to p) x then false else has_timer c.args.timers.now.timers x)
    (no_entry c.self.inside.by_name c.args.tenant.now c.in_default.ensures.value)
    ∙ ap (λ b. if b then false else has_timer c.args.timers.now.timers x) (for_none c.args.tenant.now x)))

pub returns : goal.returns
returns c x =
    rw (← c.self.view_is)
    (c.cancel.ensures x
    ∙ sym (ap (λ (p : Progress). if is_for c.args.tenant.now (told_to p) x then false else has_timer c.args.timers.now.timers x)
    (own_entry c.self.inside.by_name c.args.tenant.now c.in-Some.progress.now c.in-Some.ensures.value)))
