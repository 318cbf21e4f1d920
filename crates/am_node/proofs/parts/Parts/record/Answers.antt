use Rattle.std.proofs.Common.{◌∷◌, [], ap, refl}
use Rattle.std.proofs.lemmas.Result.{IfErr-weaker, IfOk-weaker, on_ok_weaker}
use Rattle.am_context.proofs.Changes.{other, own}
use Rattle.am_item.specs.declared.item.Item.{Item}
use Rattle.am_notifier.specs.Notifies.{notifies_of}
use Rattle.am_replica.specs.Holds.{holds_of}
use Rattle.am_replica.specs.Recording.{recorded as recorded_there}
use Rattle.am_words.specs.Places.{place_of}
use Rattle.am_node.specs.Delivery.{received, recorded}
use Rattle.am_node.specs.Held.{local_of}
use Rattle.am_node.specs.Local.{Records}
use Rattle.am_node.proofs.Locals.{done, rooms, stops_for}
use Rattle.am_node.proofs.parts.Parts.record.Goals as goal

pub returns-clause-does : goal.returns-clause-does
unfolding local_of recorded
returns-clause-does c =
    let s = c.args.tenant.now in
    let r = c.args.self.now in
    on_ok_weaker c.record.result
    (λ holds. done s (received c.args.context.now c.args.receipt) r _
    (rooms _ (recorded_there c.args.context.now c.args.receipt (holds_of s r.replica)) (notifies_of s r.notifier) _ (place_of s r.places) (own s _ _ _ (holds s)) refl)
    (λ t apart. rooms _ (holds_of t r.replica) (notifies_of t r.notifier) _ (place_of t r.places) (other t s _ _ _ apart (holds t)) refl))
    c.record.ensures.holds

pub returns-clause-fits : goal.returns-clause-fits
unfolding local_of recorded
returns-clause-fits c = c.record.ensures.fits

pub returns-clause-fault : goal.returns-clause-fault
unfolding local_of recorded
returns-clause-fault c =
    IfErr-weaker c.record.result _ _ (λ fault stops. stops_for (received c.args.context.now c.args.receipt (local_of c.args.tenant.now c.args.self.now)) fault stops) c.record.ensures.fault

pub returns-clause-said : goal.returns-clause-said
unfolding local_of recorded
returns-clause-said c = IfOk-weaker c.record.result _ _ (λ entry is. ap (λ (i : Item). Records i ∷ []) is) c.record.ensures.entry
