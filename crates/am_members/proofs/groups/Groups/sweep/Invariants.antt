use Rattle.std.specs.BTreeSet.{btree_set_len}
use Rattle.am_members.proofs.Sweeping.{IsSweeping}
use Rattle.am_members.proofs.groups.Groups.sweep.Given as goal

abbrev pub invariant-loop-tenant : goal.invariant-loop-tenant
invariant-loop-tenant l = IsSweeping l.fn.self l.self-inside.tenants.entries l.self-inside.unswept

abbrev pub decreases-loop-tenant : goal.decreases-loop-tenant
decreases-loop-tenant l = btree_set_len l.self-inside.unswept
