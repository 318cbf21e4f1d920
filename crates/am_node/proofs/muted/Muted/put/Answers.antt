use Rattle.std.proofs.Common.{◌∙◌, ap, Some, if◌then◌else◌}
use Rattle.std.specs.Map.{lookup}
use Rattle.am_tenant.specs.Names.{same}
use Rattle.am_tenant.proofs.Tables.{lookup-updates}
use Rattle.am_node.proofs.Muteds.{Muteds}
use Rattle.am_node.proofs.muted.Muted.put.Goals as goal

pub returns : goal.returns
returns c = λ t.
    lookup-updates c.self.inside.sets c.insert.new.self c.args.tenant.now (Some c.args.sets) c.in_ok-insert.ensures.updates t
    ∙ ap (λ (muted : Muteds). if same t c.args.tenant.now then Some c.args.sets else lookup (λ s. same t s) muted) c.self.view_is
