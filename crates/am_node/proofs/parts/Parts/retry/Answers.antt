use Rattle.std.proofs.Common.{refl, ap}
use Rattle.std.proofs.lemmas.Result.{IfOk-weaker, on_ok_weaker}
use Rattle.am_context.proofs.Changes.{other, own}
use Rattle.am_notifier.specs.Delivery.{with_retry}
use Rattle.am_notifier.specs.Notifies.{notifies_of}
use Rattle.am_replica.specs.Holds.{holds_of}
use Rattle.am_words.specs.Places.{place_of}
use Rattle.am_node.specs.Delivery.{retried, tells}
use Rattle.am_node.specs.Held.{local_of}
use Rattle.am_node.proofs.Locals.{done, rooms}
use Rattle.am_node.proofs.parts.Parts.retry.Goals as goal

pub returns-clause-does : goal.returns-clause-does
unfolding local_of retried
returns-clause-does c =
    let s = c.args.tenant.now in
    let r = c.args.self.now in
    on_ok_weaker c.retry.result
    (λ does. done s (retried c.args.context.now c.args.number) r _
    (rooms (holds_of s r.replica) _ _ (with_retry c.args.number c.args.context.now.moment (notifies_of s r.notifier)) (place_of s r.places) refl (own s _ _ _ (does s)))
    (λ t apart. rooms (holds_of t r.replica) _ _ (notifies_of t r.notifier) (place_of t r.places) refl (other t s _ _ _ apart (does t))))
    c.retry.ensures.does

pub returns-clause-said : goal.returns-clause-said
unfolding local_of retried
returns-clause-said c = IfOk-weaker c.retry.result _ _ (λ sending is. ap tells is) c.retry.ensures.sending
