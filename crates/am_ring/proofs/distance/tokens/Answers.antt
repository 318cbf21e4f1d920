use Rattle.am_ring.proofs.Tokens.{row}
use Rattle.am_ring.proofs.distance.tokens.Goals as goal

pub returns : goal.returns
returns c = rw c.index.ensures.index (row c.args.instance _ c.index.ensures.range)
