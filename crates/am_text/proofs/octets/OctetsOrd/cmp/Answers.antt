use Rattle.am_text.proofs.OrderLemmas.{tie}
use Rattle.am_text.proofs.octets.OctetsOrd.cmp.Goals as goal

pub returns-clause-tie : goal.returns-clause-tie
returns-clause-tie c =
    tie c.args.self.now c.args.other.now c.as_slice.result.now c.as_slice-2.result.now c.cmp.result c.as_slice.ensures c.as_slice-2.ensures c.cmp.ensures
