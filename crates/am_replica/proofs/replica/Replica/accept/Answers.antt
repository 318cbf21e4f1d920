use Rattle.std.proofs.Common.{map, refl, ap, ◌∙◌}
use Rattle.std.specs.List.{list_any}
use Rattle.am_book.specs.Book.{items_of}
use Rattle.am_context.proofs.Changes.{one_changes, other, own}
use Rattle.am_current.specs.Replacing.{replaces}
use Rattle.am_item.specs.Best.{item_at}
use Rattle.am_item.specs.Counts.{count_of}
use Rattle.am_item.specs.declared.key.ThingKey.TheVariants.{Configuration as ConfigurationKey}
use Rattle.am_replica.specs.Coming.{flagged, set_of}
use Rattle.am_replica.specs.Holds.{accepted, holds_of}
use Rattle.am_replica.proofs.Parts.{both}
use Rattle.am_replica.proofs.replica.Replica.accept.Goals as goal

pub returns-clause-holds : goal.returns-clause-holds
unfolding holds_of
returns-clause-holds c =
    let s = c.args.tenant.now in
    let r = c.args.self.now in
    one_changes s (accepted c.args.items.items) (λ t. holds_of t r) _
    (both _ _ (count_of s r.counts) _ (own s _ _ _ (c.in_ok-are_new.ensures.joined s)) refl)
    (λ t apart. both _ (items_of t r.holdings) (count_of t r.counts) _ (other t s _ _ _ apart (c.in_ok-are_new.ensures.joined t)) refl)

pub returns-clause-sets : goal.returns-clause-sets
unfolding holds_of
returns-clause-sets c =
    c.in_ok-sets.ensures ∙ ap (λ labels. flagged labels c.in_ok-are_new.are_new.items) (c.in_ok-labels.ensures ∙ ap (map set_of) c.deref.ensures.value)
    ∙ ap (flagged (map set_of c.args.items.items)) c.in_ok-are_new.ensures.new

pub returns-clause-configured : goal.returns-clause-configured
unfolding holds_of
returns-clause-configured c =
    c.is_replaced-is_configured.ensures ∙ ap (λ xs. list_any (replaces (item_at ConfigurationKey xs)) c.deref-2.result.now) c.held.ensures.items
    ∙ ap (λ xs. list_any (replaces (item_at ConfigurationKey (items_of c.args.tenant.now c.args.self.now.holdings))) xs) c.deref-2.ensures.value
