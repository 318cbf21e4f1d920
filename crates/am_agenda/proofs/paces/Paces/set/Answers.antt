use Rattle.std.proofs.Common.{ap, cond, ◌∙◌}
use Rattle.am_tenant.specs.Names.{same}
use Rattle.am_agenda.specs.Paces.{paces_of}
use Rattle.am_agenda.proofs.PaceLemmas.{paces_set}
use Rattle.am_agenda.proofs.paces.Paces.set.Goals as goal

pub returns-clause-set : goal.returns-clause-set
returns-clause-set c = λ t.
    paces_set c.self.inside.own c.insert.new.self c.args.tenant.now c.args.paces c.in_ok-insert.ensures.updates t
    ∙ ap (λ old. cond (same t c.args.tenant.now) c.args.paces (paces_of t old)) c.self.view_is
