use Rattle.std.proofs.Common.{ap, ◌∙◌}
use Rattle.am_members.specs.Grouped.{grouped_of, members}
use Rattle.am_members.specs.Members.{is_bare}
use Rattle.am_members.proofs.Sweeping.{flushed_swept}
use Rattle.am_members.proofs.groups.Groups.flush_at.Goals as goal

pub invariant_of-self : goal.invariant_of-self
invariant_of-self c =
    let flushed = c.flush_of_tenant.ensures in
    flushed_swept c.self.inside.unswept c.self.inside.tenants.entries c.flush_of_tenant.new.tenants.entries c.args.tenant.now c.self.invariant
    c.flush_of_tenant.result c.args.group.now c.args.moment
    (ap (λ es. is_bare (members c.args.group.now (grouped_of c.args.tenant.now es).alerts)) c.self.view_is ∙ c.requires)
    flushed.alerts flushed.flushes flushed.err
