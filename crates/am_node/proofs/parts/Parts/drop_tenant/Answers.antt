use Rattle.am_context.proofs.Changes.{one_changes, other, own}
use Rattle.am_notifier.specs.Notifies.{dropped as forgotten, notifies_of}
use Rattle.am_replica.specs.Holds.{dropped as let_go, holds_of}
use Rattle.am_words.specs.Places.{place_of}
use Rattle.am_node.specs.Held.{local_of}
use Rattle.am_node.specs.Local.{dropped}
use Rattle.am_node.proofs.Locals.{rooms}
use Rattle.am_node.proofs.parts.Parts.drop_tenant.Goals as goal

pub returns : goal.returns
unfolding local_of
returns c =
    let s = c.args.tenant.now in
    let r = c.args.self.now in
    one_changes s dropped (λ t. local_of t r) _
    (rooms _ (let_go (holds_of s r.replica)) _ (forgotten (notifies_of s r.notifier)) (place_of s r.places)
    (own s _ _ _ (c.drop_tenant.ensures s)) (own s _ _ _ (c.drop_tenant-2.ensures s)))
    (λ t apart. rooms _ (holds_of t r.replica) _ (notifies_of t r.notifier) (place_of t r.places)
    (other t s _ _ _ apart (c.drop_tenant.ensures t)) (other t s _ _ _ apart (c.drop_tenant-2.ensures t)))
