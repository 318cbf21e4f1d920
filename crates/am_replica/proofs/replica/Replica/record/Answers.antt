use Rattle.std.proofs.Common.{◌≡◌, ◌+◌, ◌∷◌, [], ap, ◌∙◌, arith}
use Rattle.am_alert.specs.Made.{stamp_moment}
use Rattle.am_book.specs.Book.{items_of}
use Rattle.am_context.proofs.Changes.{one_changes, other, own}
use Rattle.am_context.proofs.Counting.{fits, passes}
use Rattle.am_item.specs.Best.{all_joined}
use Rattle.am_item.specs.Counts.{count_of}
use Rattle.am_replica.specs.Holds.{holds_of}
use Rattle.am_replica.specs.Recording.{entry_of, entry_stamped, recorded, seen}
use Rattle.am_replica.proofs.Parts.{both}
use Rattle.am_replica.proofs.replica.Replica.record.Goals as goal

pub returns-then-used-ge-GREATEST_COUNT-clause-fault : goal.returns-then-used-ge-GREATEST_COUNT-clause-fault
unfolding holds_of
returns-then-used-ge-GREATEST_COUNT-clause-fault c =
    passes (count_of c.args.tenant.now c.args.self.now.counts) (omega (arith, c.if-used-ge-GREATEST_COUNT.true, c.used-used.ensures))

pub returns-clause-fits : goal.returns-clause-fits
unfolding holds_of
returns-clause-fits c =
    fits (count_of c.args.tenant.now c.args.self.now.counts) (λ le. omega (arith, c.if-used-ge-GREATEST_COUNT.false, c.used-used.ensures, le))

pub returns-clause-holds : goal.returns-clause-holds
unfolding holds_of
returns-clause-holds c =
    let s = c.args.tenant.now in
    let r = c.args.self.now in
    let receipt = c.args.receipt in
    let held = items_of s r.holdings in
    let stamp = entry_stamped c.args.context.now receipt.key receipt.firing receipt.resolved receipt.span in
    let item = entry_of c.args.context.now receipt (holds_of s r) in
    let moment = c.stamp_moment-moment.ensures ∙ ap (stamp_moment c.args.context.now.moment) c.seen.ensures in
    let made : c.entry-entry.result ≡ item =
    c.entry-entry.ensures ∙ ap (λ m. stamp m (c.used-used.result + 1)) moment ∙ ap (λ n. stamp (stamp_moment c.args.context.now.moment (seen receipt.key held)) (n + 1)) c.used-used.ensures in
    let items : c.in_ok-items.items.items ≡ item ∷ [] = c.in_ok-items.ensures.items ∙ ap (λ i. i ∷ []) (c.in_ok-shared.ensures ∙ c.in_ok-entry.ensures ∙ made) in
    one_changes s (recorded c.args.context.now receipt) (λ t. holds_of t r) _
    (both (items_of s c.put_all.new.self) (all_joined held (item ∷ [])) (count_of s c.set.new.self) (count_of s r.counts + 1)
    (own s (all_joined held c.in_ok-items.items.items) held _ (c.in_ok-put_all.ensures.joined s) ∙ ap (all_joined held) items)
    (own s (c.used-used.result + 1) (count_of s r.counts) _ (c.in_ok-set.ensures.counted s) ∙ ap (λ n. n + 1) c.used-used.ensures))
    (λ t apart.
    both (items_of t c.put_all.new.self) (items_of t r.holdings) (count_of t c.set.new.self) (count_of t r.counts)
    (other t s _ _ _ apart (c.in_ok-put_all.ensures.joined t)) (other t s _ _ _ apart (c.in_ok-set.ensures.counted t)))

pub returns-clause-entry : goal.returns-clause-entry
unfolding holds_of
returns-clause-entry c =
    let s = c.args.tenant.now in
    let r = c.args.self.now in
    let receipt = c.args.receipt in
    let held = items_of s r.holdings in
    let stamp = entry_stamped c.args.context.now receipt.key receipt.firing receipt.resolved receipt.span in
    let item = entry_of c.args.context.now receipt (holds_of s r) in
    let moment = c.stamp_moment-moment.ensures ∙ ap (stamp_moment c.args.context.now.moment) c.seen.ensures in
    let made : c.entry-entry.result ≡ item =
    c.entry-entry.ensures ∙ ap (λ m. stamp m (c.used-used.result + 1)) moment ∙ ap (λ n. stamp (stamp_moment c.args.context.now.moment (seen receipt.key held)) (n + 1)) c.used-used.ensures in
    c.in_ok-entry.ensures ∙ made
