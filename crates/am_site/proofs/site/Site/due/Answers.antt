use Rattle.std.proofs.Common.{◌++◌}
use Rattle.std.proofs.lemmas.Result.{err_from_is_err_and}
use Rattle.std.specs.List.Sorted.{IsPermutation}
use Rattle.am_site.specs.Locals.{local_of}
use Rattle.am_site.proofs.DueTimers.{are_due}
use Rattle.am_site.proofs.Merged.{merged_flush, merged_order}
use Rattle.am_site.proofs.site.Site.due.Goals as goal

pub returns-in_err-due-clause-fault : goal.returns-in_err-due-clause-fault
unfolding local_of
returns-in_err-due-clause-fault c =
    let p = err_from_is_err_and c.from_residual.result c.from_residual.ensures.1 in
    rw (p.1, p.2) c.in_err-due.ensures.fault

pub returns-clause-due : goal.returns-clause-due
returns-clause-due c =
    let plans = c.in_ok-due.due.items in
    let ends = c.in_ok-deadlines.deadlines.items in
    let again = c.in_ok-again.again.items in
    let moved : IsPermutation ((plans ++ ends) ++ again) c.sort.new.self.items = rw (c.in_ok-append-2.ensures.items, c.in_ok-append.ensures.items) at c.sort.ensures.permutation in
    are_due c.args.moment c.args.self.now plans ends again c.in_ok-due.ensures.due c.in_ok-deadlines.ensures.due (c.in_ok-again.ensures.told c.requires) c.sort.new.self.items
    (merged_order c.args.moment c.args.self.now plans ends again c.in_ok-due.ensures.due c.in_ok-deadlines.ensures.due (c.in_ok-again.ensures.told c.requires)
    c.in_ok-due.ensures.order c.in_ok-deadlines.ensures.order c.in_ok-again.ensures.order c.sort.new.self.items moved c.in_ok-sort.ensures.sorted)
    moved

pub returns-clause-order : goal.returns-clause-order
returns-clause-order c =
    let plans = c.in_ok-due.due.items in
    let ends = c.in_ok-deadlines.deadlines.items in
    let again = c.in_ok-again.again.items in
    merged_order c.args.moment c.args.self.now plans ends again c.in_ok-due.ensures.due c.in_ok-deadlines.ensures.due (c.in_ok-again.ensures.told c.requires)
    c.in_ok-due.ensures.order c.in_ok-deadlines.ensures.order c.in_ok-again.ensures.order c.sort.new.self.items
    (rw (c.in_ok-append-2.ensures.items, c.in_ok-append.ensures.items) at c.sort.ensures.permutation) c.in_ok-sort.ensures.sorted

pub returns-clause-muted : goal.returns-clause-muted
unfolding local_of
returns-clause-muted c = λ t some.
    let plans = c.in_ok-due.due.items in
    let ends = c.in_ok-deadlines.deadlines.items in
    let again = c.in_ok-again.again.items in
    c.in_ok-due.ensures.muted t
    (merged_flush c.args.moment c.args.self.now plans ends again c.in_ok-due.ensures.due c.in_ok-deadlines.ensures.due (c.in_ok-again.ensures.told c.requires) t c.sort.new.self.items
    (rw (c.in_ok-append-2.ensures.items, c.in_ok-append.ensures.items) at c.sort.ensures.permutation) some)
