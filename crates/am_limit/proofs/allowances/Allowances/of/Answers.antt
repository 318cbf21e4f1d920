use Rattle.std.proofs.Common.{ap, ◌∙◌}
use Rattle.am_limit.specs.Allowances.{allowance_of}
use Rattle.am_limit.proofs.AllowanceLemmas.{allowance_none, allowance_there}
use Rattle.am_limit.proofs.allowances.Allowances.of.Goals as goal

pub returns-in-Some : goal.returns-in-Some
returns-in-Some c =
    allowance_there c.args.tenant.now c.self.inside.own.entries c.in-Some.allowance.now c.in-Some.ensures.value
    ∙ ap (allowance_of c.args.tenant.now) c.self.view_is

pub returns-in-None : goal.returns-in-None
returns-in-None c =
    c.new.ensures ∙ allowance_none c.args.tenant.now c.self.inside.own.entries c.in-None.ensures.value
    ∙ ap (allowance_of c.args.tenant.now) c.self.view_is
