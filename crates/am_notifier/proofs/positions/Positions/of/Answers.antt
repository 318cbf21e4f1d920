use Rattle.std.proofs.Common.{ap, ◌∙◌}
use Rattle.am_notifier.specs.Positions.{position_of}
use Rattle.am_notifier.proofs.PositionLemmas.{position_none, position_there}
use Rattle.am_notifier.proofs.positions.Positions.of.Goals as goal

pub returns-in-Some : goal.returns-in-Some
returns-in-Some c =
    position_there c.args.tenant.now c.self.inside.own.entries c.in-Some.position.now c.in-Some.ensures.value
    ∙ ap (position_of c.args.tenant.now) c.self.view_is

pub returns-in-None : goal.returns-in-None
returns-in-None c =
    position_none c.args.tenant.now c.self.inside.own.entries c.in-None.ensures.value ∙ ap (position_of c.args.tenant.now) c.self.view_is
