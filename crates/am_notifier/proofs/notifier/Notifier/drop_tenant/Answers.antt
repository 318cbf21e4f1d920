use Rattle.std.proofs.Common.{ap}
use Rattle.std.specs.Option.{option_map}
use Rattle.am_context.proofs.Changes.{one_changes, other, own}
use Rattle.am_notifier.specs.Notifies.{dropped, notifies_of}
use Rattle.am_notifier.specs.Positions.{number_of}
use Rattle.am_notifier.proofs.Parts.{parts_make}
use Rattle.am_notifier.proofs.notifier.Notifier.drop_tenant.Goals as goal

pub returns : goal.returns
unfolding notifies_of
returns c =
    let s = c.args.tenant.now in
    let r = c.args.self.now in
    one_changes s dropped (λ t. notifies_of t r) _
    (parts_make _ _ _ _ _ _ (own s _ _ _ (c.drop_tenant.ensures s)) (own s _ _ _ (c.drop_tenant-2.ensures s))
    (ap (option_map number_of) (own s _ _ _ (c.drop_tenant-3.ensures s))))
    (λ t apart. parts_make _ _ _ _ _ _ (other t s _ _ _ apart (c.drop_tenant.ensures t))
    (other t s _ _ _ apart (c.drop_tenant-2.ensures t))
    (ap (option_map number_of) (other t s _ _ _ apart (c.drop_tenant-3.ensures t))))
