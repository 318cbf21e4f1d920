use Rattle.am_group.proofs.LabelSets.{made, refused}
use Rattle.am_group.proofs.grouping.set_of.Goals as goal

pub unreachable-requires : goal.unreachable-requires
unreachable-requires c = refused c.args.labels.items c.in-Err-Refused.field-0 c.in-Err-Refused.field-0-0 c.requires c.in-Err-Refused.ensures.set c.in-Err-Refused.field-0-is

pub returns-in-Ok : goal.returns-in-Ok
returns-in-Ok c = made c.args.labels.items c.in-Ok.set c.requires c.in-Ok.ensures.set
