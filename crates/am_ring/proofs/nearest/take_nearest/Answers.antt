use Rattle.am_ring.proofs.Flags.{flagged-set_false}
use Rattle.am_ring.proofs.nearest.take_nearest.Goals as goal

pub returns-clause-left : goal.returns-clause-left
returns-clause-left c = rw c.index.ensures.index (flagged-set_false c.args.left.now c.nearest-instance.result c.told-left c.index.ensures.range)
