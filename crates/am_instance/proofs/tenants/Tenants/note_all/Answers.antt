use Rattle.std.proofs.Common.{◌≡◌, refl, take}
use Rattle.std.proofs.lemmas.List.{take_all, take_more}
use Rattle.am_instance.proofs.Noting.{notes_more}
use Rattle.am_instance.proofs.tenants.Tenants.note_all.Goals as goal

pub loop-tenant-init : goal.loop-tenant-init
loop-tenant-init c t = refl

pub loop-tenant-preserved : goal.loop-tenant-preserved
loop-tenant-preserved c =
    let i = c.loop-tenant.tenant-index in
    let names = c.args.tenants.now in
    let x = c.tenant-item.result in
    rw (take_more names i x c.loop-tenant-test.true, ← c.tenant-item.is)
    (notes_more x (take i names) c.args.self.now c.loop-tenant.self c.note.new.self c.loop-tenant.invariant c.in_ok-note.ensures)

pub returns : goal.returns
returns c = rw (take_all c.loop-tenant.tenant-index c.args.tenants.now c.loop-tenant-test.false) at c.loop-tenant.invariant
