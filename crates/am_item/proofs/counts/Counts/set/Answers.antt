use Rattle.std.proofs.Common.{ap, cond, ◌∙◌}
use Rattle.am_tenant.specs.Names.{same}
use Rattle.am_item.specs.Counts.{count_of}
use Rattle.am_item.proofs.Tallies.{count_of-set}
use Rattle.am_item.proofs.counts.Counts.set.Goals as goal

pub returns-clause-counted : goal.returns-clause-counted
returns-clause-counted c = λ t.
    count_of-set c.self.inside.used c.insert.new.self c.args.tenant.now c.args.count c.in_ok-insert.ensures.updates.0 t
    ∙ ap (λ old. cond (same t c.args.tenant.now) c.args.count (count_of t old)) c.self.view_is
