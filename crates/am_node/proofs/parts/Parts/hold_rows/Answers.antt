use Rattle.std.proofs.Common.{sym, subst}
use Rattle.am_node.specs.Held.{local_of}
use Rattle.am_node.specs.Plans.{IsPlanned}
use Rattle.am_node.proofs.Begun.{only_memory}
use Rattle.am_node.proofs.Kept.{blank_planned}
use Rattle.am_node.proofs.parts.Parts.hold_rows.Goals as goal

pub accept-requires : goal.accept-requires
accept-requires c = record { planned = subst IsPlanned (sym c.requires.blank) blank_planned }

pub of_memory-requires : goal.of_memory-requires
of_memory-requires c =
    only_memory c.accept.new.cache.refused c.args.rows.items (local_of c.args.tenant.now c.args.self.now) c.in-Err.fault c.requires.blank c.requires.stored c.in-Err.ensures.fault
