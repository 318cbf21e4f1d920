use Rattle.am_members.proofs.Flushes.{swept_new}
use Rattle.am_members.proofs.index.Index.put.Goals as goal

pub invariant_of-self : goal.invariant_of-self
invariant_of-self c = record {
  grouped = c.in-Ok.ensures.grouped;
  full = c.in-Ok.ensures.full c.self.invariant.full;
  swept = swept_new c.self.inside.alerts.entries c.replace.new.alerts.entries c.args.labels.now c.args.known c.self.inside.flushes.entries c.self.inside.unswept c.in-Ok.replaced
      c.self.invariant.grouped.rising c.in-Ok.ensures.replaced c.in-Ok.ensures.put c.self.invariant.swept;
}
