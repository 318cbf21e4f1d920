use Rattle.std.proofs.Common.{◌∙◌, ap, sym, Some, None}
use Rattle.am_tenant.proofs.Tables.{lookup-by_name}
use Rattle.am_node.specs.Ticks.{muted_for}
use Rattle.am_node.proofs.Muteds.{found_as}
use Rattle.am_node.proofs.muted.Muted.find.Goals as goal

pub returns-in-Some : goal.returns-in-Some
returns-in-Some c =
    sym (found_as c.self.inside.sets.entries c.args.tenant.now (Some c.in-Some.sets.now)
    (sym (lookup-by_name c.args.tenant.now c.self.inside.sets.entries) ∙ sym c.in-Some.ensures.value))
    ∙ ap (muted_for c.args.tenant.now) c.self.view_is

pub returns-in-None : goal.returns-in-None
returns-in-None c =
    c.self.invariant
    ∙ sym (found_as c.self.inside.sets.entries c.args.tenant.now None
    (sym (lookup-by_name c.args.tenant.now c.self.inside.sets.entries) ∙ sym c.in-None.ensures.value))
    ∙ ap (muted_for c.args.tenant.now) c.self.view_is
