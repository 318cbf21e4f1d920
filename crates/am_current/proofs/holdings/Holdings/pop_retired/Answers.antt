use Rattle.am_current.proofs.Retiring.{in_use_after}
use Rattle.am_current.proofs.holdings.Holdings.pop_retired.Goals as goal

pub invariant_of-self : goal.invariant_of-self
invariant_of-self c =
    let parts = c.self.inside.parts in
    let popped = c.pop_retired.ensures in (
      in_use_after parts.readings.read parts.book c.pop_retired.new.self c.args.moment c.self.invariant.0
          c.pop_retired.result popped.stays popped.retired popped.others popped.err,
      c.self.invariant.1,
    )
