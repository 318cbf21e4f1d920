use Rattle.std.proofs.Common.{sym}
use Rattle.am_draft.proofs.Held.{has_members_held}
use Rattle.am_judge.proofs.faults.has_members.Goals as goal

pub returns : goal.returns
returns c = sym (has_members_held c.args.members.now.entries c.is_empty.result c.is_empty.ensures)
