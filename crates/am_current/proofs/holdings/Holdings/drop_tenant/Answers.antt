use Rattle.std.proofs.Common.{◌∙◌}
use Rattle.am_current.proofs.InUse.{in_use_left}
use Rattle.am_current.proofs.holdings.Holdings.drop_tenant.Goals as goal

pub invariant_of-self : goal.invariant_of-self
invariant_of-self c =
    let parts = c.self.inside.parts in (
      in_use_left parts.readings.read c.forget.new.self.read parts.book c.drop_tenant.new.self c.args.tenant.now
          c.self.invariant.0 c.forget.ensures.read c.drop_tenant.ensures,
      c.forget.ensures.otherwise ∙ c.self.invariant.1,
    )
