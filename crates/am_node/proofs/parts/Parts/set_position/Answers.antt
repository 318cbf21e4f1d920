use Rattle.std.proofs.Common.{ap}
use Rattle.std.specs.Option.{option_map}
use Rattle.am_context.proofs.Changes.{one_changes, other, own}
use Rattle.am_notifier.specs.Notifies.{notifies_of}
use Rattle.am_notifier.specs.Positions.{number_of}
use Rattle.am_replica.specs.Holds.{holds_of}
use Rattle.am_words.specs.Places.{place_of}
use Rattle.am_node.specs.Accepting.{positioned}
use Rattle.am_node.specs.Held.{local_of}
use Rattle.am_node.proofs.Accepted.{parts_positioned}
use Rattle.am_node.proofs.Locals.{rooms}
use Rattle.am_node.proofs.parts.Parts.set_position.Goals as goal

pub returns-in-Ok-clause-does : goal.returns-in-Ok-clause-does
unfolding local_of
returns-in-Ok-clause-does c =
    let s = c.args.tenant.now in
    let r = c.args.self.now in
    let stays = c.in_use.follows.holds-at-none in
    let position = option_map number_of c.args.position in
    one_changes s (positioned position) (λ t. local_of t r) _
    (parts_positioned position c.in_ok-config.config.now _ (notifies_of s c.set_position.new.self) (local_of s r) (ap (holds_of s) stays) c.in_ok-config.ensures.configuration
    (own s _ _ _ (c.in-Ok.ensures.plans s)))
    (λ t apart. rooms _ (holds_of t r.replica) (notifies_of t c.set_position.new.self) (notifies_of t r.notifier) (place_of t r.places)
    (ap (holds_of t) stays) (other t s _ _ _ apart (c.in-Ok.ensures.plans t)))

pub returns-in-Err-Refused-clause-fault : goal.returns-in-Err-Refused-clause-fault
unfolding local_of
returns-in-Err-Refused-clause-fault c =
    rw c.in_ok-config.ensures.configuration at (rw c.in-Err-Refused.field-0-is at c.in-Err-Refused.ensures.failure)
