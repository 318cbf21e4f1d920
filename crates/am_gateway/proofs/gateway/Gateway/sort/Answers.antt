use Rattle.am_gateway.proofs.HearingLemmas.{sorts, sorts_some}
use Rattle.am_gateway.proofs.gateway.Gateway.sort.Goals as goal

pub returns-clause-sorted : goal.returns-clause-sorted
returns-clause-sorted g c = sorts c.sort.result _ _ _ _ (rw c.take_outputs-outputs.ensures.taken at c.sort.ensures.queued)
    (rw c.take_outputs-outputs.ensures.taken at c.sort.ensures.kept)

pub returns-clause-err : goal.returns-clause-err
returns-clause-err g c = sorts_some c.sort.result _ _ _ _ (rw c.take_outputs-outputs.ensures.taken at c.sort.ensures.err)
    (rw c.take_outputs-outputs.ensures.taken at c.sort.ensures.err_kept)

pub returns-clause-forgets : goal.returns-clause-forgets
returns-clause-forgets g c = record {
  forgets = c.take_outputs-outputs.ensures.forgets;
  shelves = c.take_outputs-outputs.ensures.shelves;
}
