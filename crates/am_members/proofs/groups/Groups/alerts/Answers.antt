use Rattle.std.proofs.Common.{ap, sym, ◌∙◌}
use Rattle.std.specs.Option.{option_copied}
use Rattle.am_members.specs.Grouped.{Grouped, grouped_of, in_map}
use Rattle.am_members.proofs.Tenants.{Tenants, grouped_none, grouped_there}
use Rattle.am_members.proofs.groups.Groups.alerts.Goals as goal

pub returns : goal.returns
returns c =
    let part = λ (x : Grouped). x.alerts in
    c.alerts.ensures
    ∙ ap part (sym (grouped_there c.args.tenant.now c.self.inside.tenants.entries c.in_ok-index.index.now c.in_ok-index.ensures.value))
    ∙ ap (λ (es : Tenants). part (grouped_of c.args.tenant.now es)) c.self.view_is

pub returns-in_err-index : goal.returns-in_err-index
returns-in_err-index c =
    let part = λ (x : Grouped). x.alerts in
    ap (λ o. in_map (option_copied o)) c.from_residual.ensures
    ∙ ap part (sym (grouped_none c.args.tenant.now c.self.inside.tenants.entries c.in_err-index.ensures.value))
    ∙ ap (λ (es : Tenants). part (grouped_of c.args.tenant.now es)) c.self.view_is
