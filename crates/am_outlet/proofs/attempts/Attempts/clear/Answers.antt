use Rattle.am_outlet.proofs.Seen.{dropped}
use Rattle.am_outlet.proofs.attempts.Attempts.clear.Goals as goal

pub returns-clause-dropped : goal.returns-clause-dropped
returns-clause-dropped c = rw (← c.self.view_is) (dropped c.args.tenant.now _ _ c.clear_desk.ensures.each)
