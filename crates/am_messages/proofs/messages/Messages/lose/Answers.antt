use Rattle.am_messages.specs.declared.messages.Lapse.{Lapse}
use Rattle.am_messages.proofs.Timed.{timed_fewer, timed_without}
use Rattle.am_messages.proofs.messages.Messages.lose.Goals as goal

pub invariant_of-self : goal.invariant_of-self
invariant_of-self c =
    let x : Lapse = record { at = c.in-Some.at; name = c.args.name.now } in
    timed_without c.self.inside.sent.entries c.take.new.sent.entries c.self.inside.lapses c.remove.new.self c.self.invariant x c.remove.ensures.updates.0 c.take.ensures.taken

pub invariant_of-self-in_default : goal.invariant_of-self-in_default
invariant_of-self-in_default c =
    timed_fewer c.self.inside.sent.entries c.take.new.sent.entries c.self.inside.lapses c.args.name.now c.self.invariant c.take.ensures.taken
