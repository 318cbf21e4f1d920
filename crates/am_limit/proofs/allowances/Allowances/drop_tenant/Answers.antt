use Rattle.std.proofs.Common.{ap, cond, ◌∙◌}
use Rattle.am_tenant.specs.Names.{same}
use Rattle.am_limit.specs.Allowances.{allowance_of}
use Rattle.am_limit.specs.Limits.{fresh}
use Rattle.am_limit.proofs.AllowanceLemmas.{allowance_gone}
use Rattle.am_limit.proofs.allowances.Allowances.drop_tenant.Goals as goal

pub returns : goal.returns
returns c = λ t.
    allowance_gone c.self.inside.own c.remove.new.self c.args.tenant.now c.remove.ensures.updates t
    ∙ ap (λ es. cond (same t c.args.tenant.now) (fresh 0) (allowance_of t es)) c.self.view_is
