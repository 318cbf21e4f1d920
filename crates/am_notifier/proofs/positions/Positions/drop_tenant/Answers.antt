use Rattle.std.proofs.Common.{Some, ap, cond, ◌∙◌}
use Rattle.am_tenant.specs.Names.{same}
use Rattle.am_notifier.specs.Positions.{position_of}
use Rattle.am_notifier.specs.declared.position.Position.TheVariants.{First}
use Rattle.am_notifier.proofs.PositionLemmas.{position_gone}
use Rattle.am_notifier.proofs.positions.Positions.drop_tenant.Goals as goal

pub returns : goal.returns
returns c = λ t.
    position_gone c.self.inside.own c.remove.new.self c.args.tenant.now c.remove.ensures.updates t
    ∙ ap (λ old. cond (same t c.args.tenant.now) (Some First) (position_of t old)) c.self.view_is
