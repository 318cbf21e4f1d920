use Rattle.std.proofs.Common.{[], refl}
use Rattle.am_book.specs.Book.{items_of}
use Rattle.am_context.proofs.Changes.{one_changes, other, own}
use Rattle.am_item.specs.Counts.{count_of}
use Rattle.am_replica.specs.Holds.{dropped, holds_of}
use Rattle.am_replica.proofs.Parts.{both}
use Rattle.am_replica.proofs.replica.Replica.drop_tenant.Goals as goal

pub returns : goal.returns
unfolding holds_of
returns c =
    let s = c.args.tenant.now in
    let r = c.args.self.now in
    one_changes s dropped (λ t. holds_of t r) _
    (both _ [] (count_of s r.counts) _ (own s [] _ _ (c.drop_tenant.ensures s)) refl)
    (λ t apart. both _ (items_of t r.holdings) (count_of t r.counts) _ (other t s _ _ _ apart (c.drop_tenant.ensures t)) refl)
