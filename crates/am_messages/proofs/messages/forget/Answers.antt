use Rattle.std.proofs.Common.{sym, ◌∙◌}
use Rattle.am_messages.proofs.Timed.{forgotten, remembered}
use Rattle.am_messages.proofs.messages.forget.Goals as goal

pub returns-then-is_over : goal.returns-then-is_over
returns-then-is_over c =
    forgotten c.args.lapse.now c.args.sent.now.entries c.remove.new.self.entries (sym c.is_over.ensures ∙ c.if-is_over.true) c.remove.ensures.updates.0

pub returns-else-is_over : goal.returns-else-is_over
returns-else-is_over c = remembered c.args.lapse.now c.args.sent.now.entries (sym c.is_over.ensures ∙ c.if-is_over.false)
