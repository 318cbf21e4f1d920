use Rattle.std.proofs.Common.{◌≡◌, sym, ap, ◌∙◌, subst}
use Rattle.std.specs.Map.{keys_of}
use Rattle.am_config.specs.Configuration.{Configuration}
use Rattle.am_context.proofs.Changes.{one_changes, other, own}
use Rattle.am_current.specs.Current.{configuration_in}
use Rattle.am_item.specs.Best.{all_joined}
use Rattle.am_notifier.specs.Following.{IsPlannedBy, is_new_known}
use Rattle.am_notifier.specs.Notifies.{notifies_of}
use Rattle.am_replica.specs.Holds.{accepted as held_then, holds_of}
use Rattle.am_words.specs.Places.{place_of}
use Rattle.am_node.specs.Accepting.{accepted}
use Rattle.am_node.specs.Held.{local_of}
use Rattle.am_node.proofs.Accepted.{parts_accepted, plan_rises, still_by, stops}
use Rattle.am_node.proofs.Flagged.{keys_flagged, new_unknown}
use Rattle.am_node.proofs.Locals.{rooms}
use Rattle.am_node.proofs.parts.Parts.accept.Goals as goal

pub follow-requires-clause-rising : goal.follow-requires-clause-rising
unfolding local_of
follow-requires-clause-rising c = plan_rises (local_of c.args.tenant.now c.args.self.now) c.requires.planned

pub follow-requires-clause-planned : goal.follow-requires-clause-planned
unfolding local_of
follow-requires-clause-planned c = λ old.
    let s = c.args.tenant.now in
    let r = c.args.self.now in
    let items = c.args.items.items in
    let held = (holds_of s r.replica).held in
    let joined : (holds_of s c.accept.new.self).held ≡ all_joined held items = ap (λ h. h.held) (own s (held_then items (holds_of s r.replica)) _ _ (c.in_ok-came.ensures.holds s)) in
    let used : c.in_ok-config.config.now ≡ configuration_in (all_joined held items) = c.in_ok-config.ensures.configuration ∙ ap configuration_in joined in
    subst (λ (k : Configuration). IsPlannedBy k (notifies_of s r.notifier).position (notifies_of s r.notifier).plan) (sym used)
    (still_by items (local_of s r) c.requires.planned (sym c.in_ok-came.ensures.configured ∙ old))

pub follow-requires-clause-new : goal.follow-requires-clause-new
unfolding local_of
follow-requires-clause-new c =
    let s = c.args.tenant.now in
    let r = c.args.self.now in
    ap (λ xs. is_new_known xs (notifies_of s r.notifier).plan.grouped.alerts) c.in_ok-came.ensures.sets ∙ new_unknown (local_of s r) c.args.items.items c.requires.planned

pub returns-in-Ok-clause-does : goal.returns-in-Ok-clause-does
unfolding local_of
returns-in-Ok-clause-does c =
    let s = c.args.tenant.now in
    let r = c.args.self.now in
    let items = c.args.items.items in
    let stays = c.in_use.follows.holds-at-none in
    one_changes s (accepted c.args.moment items) (λ t. local_of t r) _
    (parts_accepted c.args.moment items _ (keys_of c.in_ok-came.came.sets.items) c.in_ok-config.config.now (notifies_of s c.follow.new.self) (local_of s r)
    (ap (holds_of s) stays ∙ own s (held_then items (holds_of s r.replica)) _ _ (c.in_ok-came.ensures.holds s))
    (c.in_ok-config.ensures.configuration ∙ ap (λ replica. configuration_in (holds_of s replica).held) (sym stays))
    (ap keys_of c.in_ok-came.ensures.sets ∙ keys_flagged (holds_of s r.replica).held items)
    (own s _ _ _ (c.in-Ok.ensures.plans s)))
    (λ t apart. rooms _ (holds_of t r.replica) (notifies_of t c.follow.new.self) (notifies_of t r.notifier) (place_of t r.places)
    (ap (holds_of t) stays ∙ other t s _ _ _ apart (c.in_ok-came.ensures.holds t)) (other t s _ _ _ apart (c.in-Ok.ensures.plans t)))

pub returns-in-Err-Refused-clause-fault : goal.returns-in-Err-Refused-clause-fault
unfolding local_of
returns-in-Err-Refused-clause-fault c =
    let s = c.args.tenant.now in
    let r = c.args.self.now in
    let items = c.args.items.items in
    stops c.follow.new.cache.refused c.args.moment items (holds_of s c.accept.new.self).held c.in_ok-config.config.now (local_of s r)
    (keys_of c.in_ok-came.came.sets.items) c.in_ok-came.came.is_configured
    (ap (λ h. h.held) (own s (held_then items (holds_of s r.replica)) _ _ (c.in_ok-came.ensures.holds s))) c.in_ok-config.ensures.configuration
    (ap keys_of c.in_ok-came.ensures.sets ∙ keys_flagged (holds_of s r.replica).held items) c.in_ok-came.ensures.configured
    (rw c.in-Err-Refused.field-0-is at c.in-Err-Refused.ensures.failure)
