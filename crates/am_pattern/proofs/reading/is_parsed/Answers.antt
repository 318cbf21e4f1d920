use Rattle.std.proofs.Common.{sym}
use Rattle.am_pattern.proofs.ReadLemmas.{unparsed-cause}
use Rattle.am_pattern.proofs.reading.is_parsed.Goals as goal

pub returns-in-Err-Refused : goal.returns-in-Err-Refused
returns-in-Err-Refused c =
    let refused = c.in-Err-Refused in
    sym (unparsed-cause c.args.text.now refused.field-0-0 (rw refused.field-0-is at refused.ensures.cause))
