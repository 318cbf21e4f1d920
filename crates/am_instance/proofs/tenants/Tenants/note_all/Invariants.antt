use Rattle.std.proofs.Common.{take}
use Rattle.am_instance.specs.Tenants.{NotesAll}
use Rattle.am_instance.proofs.tenants.Tenants.note_all.Given as goal

abbrev pub invariant-loop-tenant : goal.invariant-loop-tenant
invariant-loop-tenant l = NotesAll (take l.tenant-index l.tenants) l.fn.self l.self
