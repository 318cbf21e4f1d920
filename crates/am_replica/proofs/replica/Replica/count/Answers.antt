use Rattle.std.proofs.Common.{◌+◌, refl, ap, ◌∙◌}
use Rattle.am_book.specs.Book.{items_of}
use Rattle.am_context.proofs.Changes.{one_changes, other, own}
use Rattle.am_item.specs.Counts.{count_of}
use Rattle.am_replica.specs.Holds.{counted, holds_of}
use Rattle.am_replica.proofs.Parts.{both}
use Rattle.am_replica.proofs.replica.Replica.count.Goals as goal

pub returns : goal.returns
unfolding holds_of
returns c =
    let s = c.args.tenant.now in
    let r = c.args.self.now in
    one_changes s (counted c.args.more) (λ t. holds_of t r) _
    (both (items_of s r.holdings) _ _ (count_of s r.counts + c.args.more) refl
    (own s (c.used-used.result + c.args.more) (count_of s r.counts) _ (c.in_ok-set.ensures.counted s) ∙ ap (λ n. n + c.args.more) c.used-used.ensures))
    (λ t apart. both (items_of t r.holdings) _ _ (count_of t r.counts) refl (other t s _ _ _ apart (c.in_ok-set.ensures.counted t)))
