use Rattle.std.proofs.Common.{Some, ◌∙◌}
use Rattle.std.proofs.lemmas.Bool.{cond-false}
use Rattle.am_tenant.proofs.Same.{is_eq-name_cmp, same-sym}
use Rattle.am_current.specs.Current.{read_for}
use Rattle.am_current.proofs.reading.Readings.keep.Goals as goal

pub returns-clause-others : goal.returns-clause-others
returns-clause-others c = λ t e.
    c.in_ok-insert.ensures.updates.0 t
    ∙ cond-false _ (Some c.in_ok-config.config) (read_for t c.args.self.now.read) (is_eq-name_cmp c.args.tenant.now t ∙ same-sym c.args.tenant.now t ∙ e)
