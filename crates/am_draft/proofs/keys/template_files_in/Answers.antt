use Rattle.std.proofs.Common.{Ok, ap}
use Rattle.am_draft.proofs.Held.{has_members_held}
use Rattle.am_draft.proofs.keys.template_files_in.Goals as goal

pub returns : goal.returns
returns c =
    rw c.in_ok-members.ensures (ap Ok (has_members_held c.in_ok-members.members.now.entries c.is_empty.result c.is_empty.ensures))
