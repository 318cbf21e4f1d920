use Rattle.std.proofs.Common.{ap, cond, ◌∙◌}
use Rattle.am_tenant.specs.Names.{same}
use Rattle.am_notifier.specs.Positions.{position_of}
use Rattle.am_notifier.proofs.PositionLemmas.{position_set}
use Rattle.am_notifier.proofs.positions.Positions.set.Goals as goal

pub returns : goal.returns
returns c = λ t.
    position_set c.self.inside.own c.insert.new.self c.args.tenant.now c.args.position c.in_ok-insert.ensures.updates t
    ∙ ap (λ old. cond (same t c.args.tenant.now) c.args.position (position_of t old)) c.self.view_is
