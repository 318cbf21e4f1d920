use Rattle.std.proofs.Common.{sym}
use Rattle.am_transfer.proofs.Behind.{last_is, no_length, none_is}
use Rattle.am_transfer.proofs.spans.begins_behind.Goals as goal

pub returns-in-Some : goal.returns-in-Some
returns-in-Some c =
    sym (last_is c.args.place c.args.spans.now.entries c.in-Some.last.now c.in-Some.field-0-1.now c.in-Some.ensures.last)

pub returns-in-None : goal.returns-in-None
returns-in-None c = sym (none_is c.args.place c.args.spans.now.entries (no_length _ c.in-None.ensures.variant.1))
