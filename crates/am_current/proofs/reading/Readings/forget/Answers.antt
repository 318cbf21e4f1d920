use Rattle.std.proofs.Common.{ap, cond, None, ◌∙◌}
use Rattle.am_tenant.proofs.Same.{is_eq-name_cmp, same-sym}
use Rattle.am_current.specs.Current.{read_for}
use Rattle.am_current.proofs.reading.Readings.forget.Goals as goal

pub returns-clause-read : goal.returns-clause-read
returns-clause-read c = λ t.
    c.remove.ensures.updates.0 t
    ∙ ap (λ b. cond b None (read_for t c.args.self.now.read)) (is_eq-name_cmp c.args.tenant.now t ∙ same-sym c.args.tenant.now t)
