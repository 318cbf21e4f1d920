use Rattle.std.proofs.Common.{ap, sym, ◌∙◌}
use Rattle.am_transfer.specs.Progress.{Progress}
use Rattle.am_transfer.specs.Settling.{goes_to}
use Rattle.am_transfer.proofs.Table.{no_entry, own_entry}
use Rattle.am_transfer.proofs.tenants.Tenants.goes_to.Goals as goal

pub returns-in-Some : goal.returns-in-Some
returns-in-Some c =
    rw (← c.self.view_is)
    (c.goes_to.ensures
    ∙ sym (ap (λ (p : Progress). goes_to c.args.to c.args.present p.settling) (own_entry c.self.inside.by_name c.args.tenant.now c.in-Some.progress.now c.in-Some.ensures.value)))

pub returns-in-None : goal.returns-in-None
returns-in-None c =
    rw (← c.self.view_is)
    (sym (ap (λ (p : Progress). goes_to c.args.to c.args.present p.settling) (no_entry c.self.inside.by_name c.args.tenant.now c.in-None.ensures.value)))
