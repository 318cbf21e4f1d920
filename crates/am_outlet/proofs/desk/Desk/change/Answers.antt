use Rattle.am_outlet.proofs.Kept.{kept_changed}
use Rattle.am_outlet.proofs.desk.Desk.change.Goals as goal

pub invariant_of-self : goal.invariant_of-self
invariant_of-self c =
    kept_changed c.self.inside.used c.self.inside.attempts.entries c.set_tries.new.attempts.entries c.self.inside.numbers.entries c.self.invariant c.set_tries.ensures.rising
    c.args.number c.args.tries c.args.again c.requires c.set_tries.ensures.each
