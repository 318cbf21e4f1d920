use Rattle.std.proofs.Common.{ap, cond, ◌∙◌}
use Rattle.am_tenant.specs.Names.{same}
use Rattle.am_planning.specs.Planning.{default_paces}
use Rattle.am_agenda.specs.Paces.{paces_of}
use Rattle.am_agenda.proofs.PaceLemmas.{paces_gone}
use Rattle.am_agenda.proofs.paces.Paces.drop_tenant.Goals as goal

pub returns : goal.returns
returns c = λ t.
    paces_gone c.self.inside.own c.remove.new.self c.args.tenant.now c.remove.ensures.updates t
    ∙ ap (λ old. cond (same t c.args.tenant.now) default_paces (paces_of t old)) c.self.view_is
