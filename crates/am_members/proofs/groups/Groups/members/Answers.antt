use Rattle.std.proofs.Common.{ap, sym, ◌∙◌}
use Rattle.std.specs.Option.{option_copied}
use Rattle.am_members.specs.Grouped.{Grouped, grouped_of, listed, members}
use Rattle.am_members.proofs.Tenants.{Tenants, grouped_none, grouped_there}
use Rattle.am_members.proofs.groups.Groups.members.Goals as goal

pub returns : goal.returns
returns c =
    let part = λ (x : Grouped). members c.args.group.now x.alerts in
    c.members.ensures
    ∙ ap part (sym (grouped_there c.args.tenant.now c.self.inside.tenants.entries c.in_ok-get.field-0.now c.in_ok-get.ensures.value))
    ∙ ap (λ (es : Tenants). part (grouped_of c.args.tenant.now es)) c.self.view_is

pub returns-in_err-get : goal.returns-in_err-get
returns-in_err-get c =
    let part = λ (x : Grouped). members c.args.group.now x.alerts in
    ap (λ o. listed (option_copied o)) c.from_residual.ensures
    ∙ ap part (sym (grouped_none c.args.tenant.now c.self.inside.tenants.entries c.in_err-get.ensures.value))
    ∙ ap (λ (es : Tenants). part (grouped_of c.args.tenant.now es)) c.self.view_is
