use Rattle.std.proofs.Common.{ap, cond, sym, ◌∙◌}
use Rattle.am_tenant.specs.Names.{same}
use Rattle.am_limit.specs.Allowances.{allowance_of, asked}
use Rattle.am_limit.specs.Limits.{Count, after_asking, with_limit}
use Rattle.am_limit.proofs.AllowanceLemmas.{allowance_asked}
use Rattle.am_limit.proofs.allowances.Allowances.take.Goals as goal

pub returns-clause-each : goal.returns-clause-each
returns-clause-each c = λ t.
    let f = asked c.args.limit c.args.moment in
    let made = c.take-is_given.ensures.held
    ∙ ap (λ (count : Count). after_asking count c.args.moment) (c.set_limit.ensures ∙ ap (λ (count : Count). with_limit count c.args.limit) c.of-allowance.ensures) in
    allowance_asked c.self.inside.own c.insert.new.self c.args.tenant.now c.take-is_given.new.self f c.in_ok-insert.ensures.updates
    (made ∙ ap (λ es. f (allowance_of c.args.tenant.now es)) (sym c.self.view_is)) t
    ∙ ap (λ es. cond (same t c.args.tenant.now) (f (allowance_of t es)) (allowance_of t es)) c.self.view_is
