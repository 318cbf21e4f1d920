use Rattle.am_gateway.proofs.HearingLemmas.{handles}
use Rattle.am_gateway.proofs.gateway.Gateway.tell.Goals as goal
use Rattle.am_gateway.proofs.gateway.Gateway.tell.Goals.{in-Ok, in-Err}

pub returns-clause-told : goal.returns-clause-told
returns-clause-told g c = record {
  outs = _;
  handles = handles _ _ _ _ _ _ c.step.ensures.step c.pass_all.ensures c.sort.ensures.forgets;
  sorts = elim c.match-sort.branch [ in-Ok w ↦ rw w.result-is (record { queues = w.in-Ok.ensures.sorted.queues; keeps = w.in-Ok.ensures.sorted.keeps }) | in-Err w ↦ rw w.result-is tt ];
  loses = elim c.match-sort.branch [ in-Ok w ↦ rw w.result-is tt | in-Err w ↦ rw w.result-is (record { queues = w.in-Err.ensures.err.queues; keeps = w.in-Err.ensures.err.keeps }) ];
  vain = c.sort.ensures.vain;
}
