use Rattle.std.proofs.Common.{ap, sym, ◌∙◌}
use Rattle.std.specs.List.Sorted.{IsStrictlySortedBy}
use Rattle.am_book.specs.Book.{found_items, items_of}
use Rattle.am_book.proofs.Lists.{items_of-pairs_of}
use Rattle.am_book.proofs.book.Book.held.Goals as goal

pub returns-in-Some-clause-items : goal.returns-in-Some-clause-items
returns-in-Some-clause-items c =
    ap found_items c.in-Some.ensures.value
    ∙ sym (items_of-pairs_of c.args.tenant.now c.self.inside.tenants c.self.invariant.0.ordered)
    ∙ ap (items_of c.args.tenant.now) c.self.view_is

pub returns-in-None-clause-items : goal.returns-in-None-clause-items
returns-in-None-clause-items c =
    c.self.invariant.1 ∙ ap found_items c.in-None.ensures.value
    ∙ sym (items_of-pairs_of c.args.tenant.now c.self.inside.tenants c.self.invariant.0.ordered)
    ∙ ap (items_of c.args.tenant.now) c.self.view_is

pub returns-in-None-clause-rising : goal.returns-in-None-clause-rising
unfolding IsStrictlySortedBy
returns-in-None-clause-rising c = rw c.self.invariant.1 tt
