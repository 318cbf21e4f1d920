use Rattle.std.proofs.Common.{ap, sym, ◌∙◌}
use Rattle.am_transfer.specs.Progress.{Progress}
use Rattle.am_transfer.proofs.Table.{no_entry, own_entry}
use Rattle.am_transfer.proofs.tenants.Tenants.is_settled.Goals as goal

pub returns-in-Some : goal.returns-in-Some
returns-in-Some c =
    rw (c.if-has_stayed.false, ← c.self.view_is)
    (c.has_settled.ensures
    ∙ sym (ap (λ (p : Progress). p.settling.has_settled) (own_entry c.self.inside.by_name c.args.tenant.now c.in-Some.progress.now c.in-Some.ensures.value)))

pub returns-in-None : goal.returns-in-None
returns-in-None c =
    rw (c.if-has_stayed.false, ← c.self.view_is)
    (sym (ap (λ (p : Progress). p.settling.has_settled) (no_entry c.self.inside.by_name c.args.tenant.now c.in-None.ensures.value)))
