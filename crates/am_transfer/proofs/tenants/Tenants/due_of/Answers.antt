use Rattle.std.proofs.Common.{◌≡◌, None, ap, sym, ◌∙◌, refl}
use Rattle.am_transfer.specs.Progress.{due_of, nothing_yet}
use Rattle.am_transfer.proofs.Table.{no_entry, own_entry}
use Rattle.am_transfer.proofs.tenants.Tenants.due_of.Goals as goal

pub returns-in_err-get : goal.returns-in_err-get
unfolding due_of
returns-in_err-get c =
    let none : due_of c.args.instance nothing_yet ≡ None = refl in
    rw (← c.self.view_is)
    (c.from_residual.ensures ∙ sym none ∙ sym (ap (due_of c.args.instance) (no_entry c.self.inside.by_name c.args.tenant.now c.in_err-get.ensures.value)))

pub returns : goal.returns
returns c =
    rw (← c.self.view_is)
    (c.due_of.ensures ∙ sym (ap (due_of c.args.instance) (own_entry c.self.inside.by_name c.args.tenant.now c.in_ok-get.field-0.now c.in_ok-get.ensures.value)))
