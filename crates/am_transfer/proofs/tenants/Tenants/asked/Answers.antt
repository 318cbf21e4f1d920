use Rattle.std.proofs.Common.{ap, sym, ◌∙◌}
use Rattle.std.proofs.lemmas.Result.{IfOk-weaker}
use Rattle.am_transfer.specs.Progress.{Progress}
use Rattle.am_transfer.proofs.Table.{no_entry, own_entry}
use Rattle.am_transfer.proofs.tenants.Tenants.asked.Goals as goal

pub returns-in-Some : goal.returns-in-Some
returns-in-Some c =
    rw (← c.self.view_is)
    (IfOk-weaker c.asked.result _ _
    (λ asked is. is ∙ sym (ap (λ (p : Progress). p.asked) (own_entry c.self.inside.by_name c.args.tenant.now c.in-Some.progress.now c.in-Some.ensures.value)))
    c.asked.ensures)

pub returns-in-None : goal.returns-in-None
returns-in-None c =
    rw (← c.self.view_is) (c.new.ensures.items ∙ sym (ap (λ (p : Progress). p.asked) (no_entry c.self.inside.by_name c.args.tenant.now c.in-None.ensures.value)))
