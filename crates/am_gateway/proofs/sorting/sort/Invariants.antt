use Rattle.am_gateway.proofs.SortingLemmas.{SortsSoFar}
use Rattle.am_gateway.proofs.sorting.sort.Given as goal

abbrev pub invariant-loop-output : goal.invariant-loop-output
invariant-loop-output l =
    SortsSoFar l.fn.connection l.fn.notices.lanes l.notices.lanes l.fn.replies.items l.replies.items l.reply l.fn.outputs.items l.output-iterator.rest.items
