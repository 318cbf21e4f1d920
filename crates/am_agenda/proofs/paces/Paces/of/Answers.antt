use Rattle.std.proofs.Common.{ap, ◌∙◌}
use Rattle.am_agenda.specs.Paces.{paces_of}
use Rattle.am_agenda.proofs.PaceLemmas.{paces_none, paces_there}
use Rattle.am_agenda.proofs.paces.Paces.of.Goals as goal

pub returns-in-Some : goal.returns-in-Some
returns-in-Some c =
    c.as_slice.ensures ∙ paces_there c.args.tenant.now c.self.inside.own.entries c.in-Some.paces.now c.in-Some.ensures.value
    ∙ ap (paces_of c.args.tenant.now) c.self.view_is

pub returns-in-None : goal.returns-in-None
returns-in-None c =
    c.as_slice-in-None.ensures ∙ c.self.invariant ∙ paces_none c.args.tenant.now c.self.inside.own.entries c.in-None.ensures.value
    ∙ ap (paces_of c.args.tenant.now) c.self.view_is
